-- `put_line` puts the parts of a line one behind another. Assumes nothing.
use Rattle.std.proofs.Common.{ℕ, ◌+◌, ◌≤◌, List, ◌++◌, length}
use Rattle.listing.specs.declared.record.EdgeRecord.{EdgeRecord}
use Rattle.decimal.specs.Decimal.{Put, decimal_text}
use Rattle.decimal.proofs.Putting.{room-first, room-rest, put_both}
use Rattle.edges.specs.Page.{units_text, pixels_text, kind_text, stem_text, end_text, line_of}
use Rattle.edges.proofs.Lines.{from_stem, from_kind, behind_pixels, from_pixels, behind_units, line-split}
use Rattle.edges.proofs.line.put_line.Goals as goal

-- the room of the line: each part leaves that of those behind it
module _ (r : EdgeRecord) (at : ℕ) (out : List ℕ) (h : at + length (line_of r) ≤ length out) where
  room : at + length (decimal_text r.height.bits ++ behind_units r) ≤ length out
  room = rw (line-split r) at h

  module _ {u : ℕ} {ou : List ℕ} (pu : Put (decimal_text r.height.bits) at out u ou) where
    units : u + length (behind_units r) ≤ length ou
    units = room-rest _ _ (decimal_text r.height.bits) (behind_units r) room pu

    module _ {m : ℕ} {om : List ℕ} (pm : Put units_text u ou m om) where
      middle : m + length (from_pixels r) ≤ length om
      middle = room-rest _ _ units_text (from_pixels r) units pm

      module _ {x : ℕ} {ox : List ℕ} (px : Put (decimal_text r.device.bits) m om x ox) where
        pixels : x + length (behind_pixels r) ≤ length ox
        pixels = room-rest _ _ (decimal_text r.device.bits) (behind_pixels r) middle px

        module _ {n : ℕ} {on : List ℕ} (pn : Put pixels_text x ox n on) where
          next : n + length (from_kind r) ≤ length on
          next = room-rest _ _ pixels_text (from_kind r) pixels pn

          module _ {k : ℕ} {ok : List ℕ} (pk : Put (kind_text r.kind) n on k ok) where
            named : k + length (from_stem r) ≤ length ok
            named = room-rest _ _ (kind_text r.kind) (from_stem r) next pk

pub put_decimal-units-requires : goal.put_decimal-units-requires
put_decimal-units-requires c =
    let r = c.args.edge in room-first _ _ (decimal_text r.height.bits) (behind_units r) (room r _ _ c.requires)

pub put_text-middle-requires : goal.put_text-middle-requires
put_text-middle-requires c =
    let r = c.args.edge in
    room-first _ _ units_text (from_pixels r) (units r _ _ c.requires c.put_decimal-units.ensures)

pub put_decimal-pixels-requires : goal.put_decimal-pixels-requires
put_decimal-pixels-requires c =
    let r = c.args.edge in
    room-first _ _ (decimal_text r.device.bits) (behind_pixels r)
    (middle r _ _ c.requires c.put_decimal-units.ensures c.put_text-middle.ensures)

pub put_text-next-requires : goal.put_text-next-requires
put_text-next-requires c =
    let r = c.args.edge in
    room-first _ _ pixels_text (from_kind r)
    (pixels r _ _ c.requires c.put_decimal-units.ensures c.put_text-middle.ensures c.put_decimal-pixels.ensures)

pub put_kind-named-requires : goal.put_kind-named-requires
put_kind-named-requires c =
    let r = c.args.edge in
    room-first _ _ (kind_text r.kind) (from_stem r)
    (next r _ _ c.requires c.put_decimal-units.ensures c.put_text-middle.ensures c.put_decimal-pixels.ensures
    c.put_text-next.ensures)

pub put_stem-owned-requires : goal.put_stem-owned-requires
put_stem-owned-requires c =
    let r = c.args.edge in
    room-first _ _ (stem_text r.stem) (end_text r.locked)
    (named r _ _ c.requires c.put_decimal-units.ensures c.put_text-middle.ensures c.put_decimal-pixels.ensures
    c.put_text-next.ensures c.put_kind-named.ensures)

pub put_end-requires : goal.put_end-requires
put_end-requires c =
    let r = c.args.edge in
    room-rest _ _ (stem_text r.stem) (end_text r.locked)
    (named r _ _ c.requires c.put_decimal-units.ensures c.put_text-middle.ensures c.put_decimal-pixels.ensures
    c.put_text-next.ensures c.put_kind-named.ensures) c.put_stem-owned.ensures

pub returns : goal.returns
returns c =
    let r = c.args.edge in
    let u = c.put_decimal-units.ensures in
    let m = c.put_text-middle.ensures in
    let x = c.put_decimal-pixels.ensures in
    let n = c.put_text-next.ensures in
    let k = c.put_kind-named.ensures in
    rw (line-split r)
    (put_both _ _ (decimal_text r.height.bits) (behind_units r) (room r _ _ c.requires) u
    (put_both _ _ units_text (from_pixels r) (units r _ _ c.requires u) m
    (put_both _ _ (decimal_text r.device.bits) (behind_pixels r) (middle r _ _ c.requires u m) x
    (put_both _ _ pixels_text (from_kind r) (pixels r _ _ c.requires u m x) n
    (put_both _ _ (kind_text r.kind) (from_stem r) (next r _ _ c.requires u m x n) k
    (put_both _ _ (stem_text r.stem) (end_text r.locked) (named r _ _ c.requires u m x n k) c.put_stem-owned.ensures
    c.put_end.ensures))))))
