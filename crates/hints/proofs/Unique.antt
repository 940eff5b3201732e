-- Any two outcomes that meet the contract of a public function are equal, over that contract as the
-- toolchain reads it: the result and, where a path is drawn, every word of what was lent. Assumes
-- nothing.
use mathlib.Core.Path.{◌≡◌, sym, ◌∙◌}
use mathlib.Core.List.{[]}
use borrow.Fn.Kinds.{ended_of}
use borrow.Fn.World.{ArgsD, ResD}
use contract.Lifetimes.{Lfts}
use denote.Triple.Clauses.{AtExit}
use Rattle.fixed.specs.declared.Fixed.{Fixed}
use Rattle.stems.specs.declared.mask.HintMask.{HintMask}
use Rattle.zones.specs.declared.state.HintState.{HintState}
use Rattle.hintmap.specs.Lent.{map_in}
use Rattle.hintmap.proofs.Lent.{own-lines, map-scale}
use Rattle.pen.proofs.Drew.{drew-one}
use Rattle.hints.specs.declared.hints.Hints.{Hints}
use Rattle.hints.proofs.hints.Hints.new.Reads as new-reads
use Rattle.hints.proofs.hints.Hints.with_stem.Reads as with-stem-reads
use Rattle.hints.proofs.hints.Hints.with_mask.Reads as with-mask-reads
use Rattle.hints.proofs.hints.Hints.counter.Reads as counter-reads
use Rattle.hints.proofs.hints.Hints.ready.Reads as ready-reads
use Rattle.hints.specs.contracts.path.draw as draw
use Rattle.hints.proofs.path.draw.Kinds as draw-kinds
use Rattle.hints.proofs.path.draw.Reads as draw-reads
use Rattle.hints.specs.contracts.path.draw_by_lines as draw-by-lines
use Rattle.hints.proofs.path.draw_by_lines.Kinds as draw-by-lines-kinds
use Rattle.hints.proofs.path.draw_by_lines.Reads as draw-by-lines-reads

pub new-unique : (κs : Lfts 0) (scale : Fixed) (r r' : Hints) → new-reads.Post κs (scale, tt) r (scale, tt) →
    new-reads.Post κs (scale, tt) r' (scale, tt) → r ≡ r'
new-unique κs scale r r' p q = p ∙ sym q

module _ (κs : Lfts 0) (h r r' : Hints) where
  pub with-stem-unique : (min max : Fixed) → with-stem-reads.Post κs (h, (min, (max, tt))) r (h, (min, (max, tt))) →
      with-stem-reads.Post κs (h, (min, (max, tt))) r' (h, (min, (max, tt))) → r ≡ r'
  with-stem-unique min max p q = p ∙ sym q

  pub with-mask-unique : (mask : HintMask) → with-mask-reads.Post κs (h, (mask, tt)) r (h, (mask, tt)) →
      with-mask-reads.Post κs (h, (mask, tt)) r' (h, (mask, tt)) → r ≡ r'
  with-mask-unique mask p q = p ∙ sym q

  pub counter-unique : (st : HintState) (mask : HintMask) →
      counter-reads.Post κs (h, (st, (mask, tt))) r (h, (st, (mask, tt))) →
      counter-reads.Post κs (h, (st, (mask, tt))) r' (h, (st, (mask, tt))) → r ≡ r'
  counter-unique st mask p q = p ∙ sym q

  pub ready-unique : (st : HintState) → ready-reads.Post κs (h, (st, tt)) r (h, (st, tt)) →
      ready-reads.Post κs (h, (st, tt)) r' (h, (st, tt)) → r ≡ r'
  ready-unique st p q = p ∙ sym q

module _ (κs : Lfts 1) (a : ArgsD draw.signature κs) (r r' : ResD draw.signature κs)
    (x x' : AtExit (ended_of 1 draw-kinds.ps draw-kinds.r) κs) where
  pub draw-unique : draw-reads.Post κs a r x → draw-reads.Post κs a r' x' →
      (r ≡ r') × (x.1.1.1.1.0.now ≡ x'.1.1.1.1.0.now)
  draw-unique p q = drew-one p q

-- the result and every word, by a map that has the lines
module _ (κs : Lfts 2) (a : ArgsD draw-by-lines.signature κs) (r r' : ResD draw-by-lines.signature κs)
    (x x' : AtExit (ended_of 2 draw-by-lines-kinds.ps draw-by-lines-kinds.r) κs) where
  pub draw-by-lines-unique : draw-by-lines-reads.Pre κs a → draw-by-lines-reads.Post κs a r x →
      draw-by-lines-reads.Post κs a r' x' →
      (r ≡ r') × (x.1.1.1.1.1.1.0.now ≡ x'.1.1.1.1.1.1.0.now)
  draw-by-lines-unique o p q =
      let ls = a.0.now in
      let n = a.1.0 in
      let s = a.1.1.0 in
      let m = map_in ls [] n s in
      let l = own-lines ls [] n o.0 s in
      let e = map-scale ls [] n o.0 s in
      drew-one (p m e l) (q m e l)
