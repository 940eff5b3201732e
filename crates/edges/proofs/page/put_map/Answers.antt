-- `put_map` puts a line a record, then the counts. Assumes nothing.
use Rattle.std.proofs.Common.{◌≡◌, ℕ, ◌+◌, ◌*◌, ◌≤◌, ◌<◌, List, ◌++◌, length, take, sym, ap, ◌∙◌, arith, rules, w8, w32}
use Rattle.std.proofs.Common.{Fits, SFits}
use lib.Seq.{take_all}
use Rattle.hintmap.specs.declared.map.HintMap.{HintMap}
use Rattle.listing.specs.declared.record.EdgeRecord.{EdgeRecord}
use Rattle.listing.specs.declared.summary.Summary.{Summary}
use Rattle.listing.specs.Records.{record_at, records_of, summary_of}
use Rattle.decimal.specs.Decimal.{Put}
use Rattle.decimal.proofs.Putting.{put-none, put-length, put-behind}
use Rattle.edges.specs.Page.{line_of, lines_of, summary_line, map_text}
use Rattle.edges.proofs.Lines.{line-room, lines_more}
use Rattle.edges.proofs.Parts.{summary-room}
use Rattle.edges.proofs.Maps.{few, record-more, few-counted, all_listed}
use Rattle.edges.proofs.page.put_map.Goals as goal

-- at most 96 lines of at most 100 bytes each are put, and leave room for more
module _ (m : HintMap) (long : length m.edges ≡ 96) (s : Summary) (e : s ≡ summary_of (records_of m)) where
  all : s.edges ≡ length (records_of m)
  all = all_listed m long s e

  most : s.edges ≤ 96
  most = omega (arith, few m long, all)

  module _ (out : List ℕ) (h : 16384 ≤ length out) (i : ℕ) (among : List ℕ) (next : ℕ)
      (p : Put (lines_of (take i (records_of m))) 0 out next among) (n : next ≤ 100 * i) (k : i ≤ s.edges) where
    abbrev lines : List ℕ
    lines = lines_of (take i (records_of m))

    near : next ≤ 9600
    near = omega (arith, most, n, k)

    room : 0 + length lines ≤ length out
    room = omega (arith, near, h, p.ends)

    long-among : length among ≡ length out
    long-among = put-length _ _ lines room p

    -- a line more
    line-more : (r : EdgeRecord) → i < s.edges → r ≡ record_at m i → {end : ℕ} {left : List ℕ} →
        Put (line_of r) next among end left → Put (lines_of (take (i + 1) (records_of m))) 0 out end left
    line-more r j f q =
        let t : lines_of (take (i + 1) (records_of m)) ≡ lines ++ line_of r =
        ap lines_of (record-more m long i (omega (arith, all, j))) ∙ lines_more (take i (records_of m)) _ ∙
        ap (λ (o : EdgeRecord). lines ++ line_of o) (sym f) in
        rw t (put-behind _ _ lines room p (line_of r) q)

    -- the counts behind all lines
    whole : s.edges ≤ i → {end : ℕ} {left : List ℕ} →
        Put (summary_line s) next among end left → Put (map_text m) 0 out end left
    unfolding map_text
    whole j q =
        rw (sym e) (rw (take_all i (records_of m) (omega (arith, all, j))) at
        (put-behind _ _ lines room p (summary_line s) q))

pub loop-i-init : goal.loop-i-init
unfolding lines_of
loop-i-init c = (put-none _ _, (omega arith, omega arith))

pub bounds-map-i : goal.bounds-map-i
bounds-map-i c =
    let long : length c.args.map.edges ≡ 96 = search rules in
    omega (arith, most c.args.map long c.summarize-summary.result c.summarize-summary.ensures)

pub offset_bounds-map-i : goal.offset_bounds-map-i
offset_bounds-map-i c =
    let long : length c.args.map.edges ≡ 96 = search rules in
    omega (arith, most c.args.map long c.summarize-summary.result c.summarize-summary.ensures)

pub put_line-next-requires : goal.put_line-next-requires
put_line-next-requires c =
    let m = c.args.map in
    let long : length m.edges ≡ 96 = search rules in
    let s = c.summarize-summary in
    let f : SFits w32 c.of.result.height.bits = search rules in
    let g : SFits w32 c.of.result.device.bits = search rules in
    let h : Fits w8 c.of.result.stem = search rules in
    let i = c.loop-i.invariant in
    omega (
      arith,
      c.requires,
      line-room c.of.result f g h.fits,
      near m long s.result s.ensures _ c.requires c.loop-i.i _ _ i.0 i.1.0 i.1.1,
      long-among m long s.result s.ensures _ c.requires c.loop-i.i _ _ i.0 i.1.0 i.1.1,
    )

pub loop-i-preserved : goal.loop-i-preserved
loop-i-preserved c =
    let m = c.args.map in
    let long : length m.edges ≡ 96 = search rules in
    let s = c.summarize-summary in
    let f : SFits w32 c.of.result.height.bits = search rules in
    let g : SFits w32 c.of.result.device.bits = search rules in
    let h : Fits w8 c.of.result.stem = search rules in
    let i = c.loop-i.invariant in
    let j : c.loop-i.i < s.result.edges = omega arith in (
      line-more m long s.result s.ensures _ c.requires c.loop-i.i _ _ i.0 i.1.0 i.1.1 c.of.result j c.of.ensures
          c.put_line-next.ensures,
      (omega (arith, i.1.0, c.put_line-next.ensures.ends, line-room c.of.result f g h.fits), omega (arith, j)),
    )

pub put_summary-requires : goal.put_summary-requires
put_summary-requires c =
    let m = c.args.map in
    let long : length m.edges ≡ 96 = search rules in
    let s = c.summarize-summary in
    let n = few-counted m long s.result s.ensures in
    let i = c.loop-i.invariant in (
      n,
      omega (
        arith,
        c.requires,
        summary-room s.result n.0 n.1.0 n.1.1.0 n.1.1.1,
        near m long s.result s.ensures _ c.requires c.loop-i.i _ _ i.0 i.1.0 i.1.1,
        long-among m long s.result s.ensures _ c.requires c.loop-i.i _ _ i.0 i.1.0 i.1.1,
      ),
    )

pub returns : goal.returns
returns c =
    let m = c.args.map in
    let long : length m.edges ≡ 96 = search rules in
    let s = c.summarize-summary in
    let i = c.loop-i.invariant in
    whole m long s.result s.ensures _ c.requires c.loop-i.i _ _ i.0 i.1.0 i.1.1 (omega arith) c.put_summary.ensures
