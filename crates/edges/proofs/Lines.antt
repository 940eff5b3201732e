-- The parts of a line behind its first ones, and the room of a line: at most 98 bytes. Assumes
-- nothing.
use mathlib.Core.Path.{◌≡◌, refl, sym, ap, ◌∙◌}
use mathlib.Core.Bool.{Bool, true, false, cond}
use mathlib.Core.List.{List, [], ◌∷◌, ◌++◌, append-nil, append_assoc}
use Prim.Native.Nat.{ℕ, ◌≤◌, ◌<◌}
use native.Mathlib.Omega.{arith}
use lib.Dec.{eqb}
use lib.ListN.{length, length-append}
use mir.Syntax.{w32}
use mir.Val.{SFits}
use Rattle.stems.specs.declared.edge.Kind.{Kind}
use Rattle.stems.specs.declared.edge.Kind.TheVariants.{Absent, GhostBottom, GhostTop, PairBottom, PairTop}
use Rattle.listing.specs.declared.record.EdgeRecord.{EdgeRecord}
use Rattle.decimal.specs.Decimal.{number_text, decimal_text}
use Rattle.decimal.proofs.Sizes.{digits-room, decimal-room}
use Rattle.edges.specs.Page.{units_text, pixels_text, kind_text, of_no_stem, of_stem, stem_text, end_text}
use Rattle.edges.specs.Page.{line_of, lines_of}

module _ (r : EdgeRecord) where
  abbrev pub from_stem : List ℕ
  from_stem = stem_text r.stem ++ end_text r.locked

  abbrev pub from_kind : List ℕ
  from_kind = kind_text r.kind ++ from_stem

  abbrev pub behind_pixels : List ℕ
  behind_pixels = pixels_text ++ from_kind

  abbrev pub from_pixels : List ℕ
  from_pixels = decimal_text r.device.bits ++ behind_pixels

  abbrev pub behind_units : List ℕ
  behind_units = units_text ++ from_pixels

  pub line-split : line_of r ≡ decimal_text r.height.bits ++ behind_units
  unfolding line_of
  line-split = refl

-- ---- the room of a line
kind-room : (k : Kind) → length (kind_text k) ≤ 12
kind-room Absent = omega arith
kind-room GhostBottom = omega arith
kind-room GhostTop = omega arith
kind-room PairBottom = omega arith
kind-room PairTop = omega arith

stem-room : (n : ℕ) → n < 256 → length (stem_text n) ≤ 12
stem-room n h = by (eqb n 96)
  where
    by : (b : Bool) → length (cond b of_no_stem (of_stem ++ number_text n)) ≤ 12
    by true = omega arith
    by false = omega (arith, length-append of_stem (number_text n), digits-room 10 2 n (omega (arith, h)))

end-room : (b : Bool) → length (end_text b) ≤ 9
end-room true = omega arith
end-room false = omega arith

pub line-room : (r : EdgeRecord) → SFits w32 r.height.bits → SFits w32 r.device.bits → r.stem < 256 →
    length (line_of r) ≤ 100
unfolding line_of
line-room r f g h =
    omega (
      arith,
      length-append (decimal_text r.height.bits) (behind_units r),
      length-append units_text (from_pixels r),
      length-append (decimal_text r.device.bits) (behind_pixels r),
      length-append pixels_text (from_kind r),
      length-append (kind_text r.kind) (from_stem r),
      length-append (stem_text r.stem) (end_text r.locked),
      decimal-room r.height.bits f,
      decimal-room r.device.bits g,
      kind-room r.kind,
      stem-room r.stem h,
      end-room r.locked,
    )

-- ---- lines behind lines
pub lines_more : (rs : List EdgeRecord) (r : EdgeRecord) → lines_of (rs ++ (r ∷ [])) ≡ lines_of rs ++ line_of r
unfolding lines_of
lines_more [] r = append-nil (line_of r)
lines_more (q ∷ rs) r =
    ap (λ (l : List ℕ). line_of q ++ l) (lines_more rs r) ∙ sym (append_assoc (line_of q) (lines_of rs) (line_of r))
