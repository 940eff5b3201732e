-- `fill_glyph` has all of a glyph's records written, and puts their place before them. Assumes
-- nothing.
use Rattle.std.proofs.Common.{arith, ap, ◌∙◌, ℕ, ℤ, pos, List, [], ◌∷◌, length}
use Rattle.zones.specs.Numbers.{state_in}
use Rattle.pen.proofs.Lent.{lent, back}
use Rattle.words.specs.Bytes.{placed}
use Rattle.words.proofs.Placing.{placed-length}
use Rattle.labels.specs.Glyphs.{glyph, fault_of, records_of}
use Rattle.labels.proofs.Filled.{size_is, ran-whole}
use Rattle.labels.proofs.filling.fill_glyph.Goals as goal

pub run_given-ran-requires : goal.run_given-ran-requires
unfolding fault_of
run_given-ran-requires c =
    record {
      short = c.requires.short;
      start = omega arith;
      bytes = length c.args.masks.now;
      inside = omega arith;
      faultless = c.requires.faultless;
    }

pub put_two-requires : goal.put_two-requires
put_two-requires c =
    let a = c.args in
    let p = c.requires in
    let out = a.out.now in
    let st = state_in a.gauge a.zones.now in
    let g = glyph a.words.now a.masks.now in
    let n = size_is st g in
    let r = ran-whole st g out a.next p.fits (rw (lent out a.next) at c.run_given-ran.ensures) in
    let all = back a.next out c.run_given-ran.new.out ∙ r.1 in
    let l = placed-length out a.next (records_of st g) (omega (arith, n, p.fits)) in (
      omega (arith, ap length all, l, p.before, p.fits),
      (omega (arith, p.word), omega (arith, r.0, n, p.word)),
    )

pub returns : goal.returns
returns c =
    let a = c.args in
    let out = a.out.now in
    let st = state_in a.gauge a.zones.now in
    let g = glyph a.words.now a.masks.now in
    let ws = records_of st g in
    let r = ran-whole st g out a.next c.requires.fits (rw (lent out a.next) at c.run_given-ran.ensures) in
    let all = back a.next out c.run_given-ran.new.out ∙ r.1 in
    let e = c.put_two.ensures ∙
    ap (λ (l : List ℤ). placed l a.slot (pos a.next ∷ pos c.run_given-ran.result.words ∷ [])) all ∙
    ap (λ (k : ℕ). placed (placed out a.next ws) a.slot (pos a.next ∷ pos k ∷ [])) r.0 in
    record { size = r.0; memory = e }
