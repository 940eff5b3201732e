-- Any two outcomes that meet the contract of a public function are equal, over that contract as the
-- toolchain reads it: the result and every word of what was lent. Assumes nothing.
use mathlib.Core.Path.{◌≡◌, sym, ◌∙◌}
use borrow.Fn.Kinds.{ended_of}
use borrow.Fn.World.{ArgsD, ResD}
use contract.Lifetimes.{Lfts}
use denote.Triple.Clauses.{AtExit}
use Rattle.pen.specs.declared.strokes.Path.{Path}
use Rattle.pen.specs.declared.strokes.Pen.{Pen}
use Rattle.pen.specs.declared.counting.Trail.{Trail}
use Rattle.pen.specs.declared.counting.Counted.{Counted}
use Rattle.pen.proofs.Drew.{drew-one}
use Rattle.pen.proofs.counting.Trail.new.Reads as new-trail-reads
use Rattle.pen.proofs.counting.Trail.count.Reads as count-reads
use Rattle.pen.proofs.strokes.Pen.new.Reads as new-reads
use Rattle.pen.specs.contracts.strokes.Pen.move_to as move-to
use Rattle.pen.proofs.strokes.Pen.move_to.Kinds as move-to-kinds
use Rattle.pen.proofs.strokes.Pen.move_to.Reads as move-to-reads
use Rattle.pen.specs.contracts.strokes.Pen.line_to as line-to
use Rattle.pen.proofs.strokes.Pen.line_to.Kinds as line-to-kinds
use Rattle.pen.proofs.strokes.Pen.line_to.Reads as line-to-reads
use Rattle.pen.specs.contracts.strokes.Pen.curve_to as curve-to
use Rattle.pen.proofs.strokes.Pen.curve_to.Kinds as curve-to-kinds
use Rattle.pen.proofs.strokes.Pen.curve_to.Reads as curve-to-reads
use Rattle.pen.specs.contracts.strokes.Pen.finish as finish
use Rattle.pen.proofs.strokes.Pen.finish.Kinds as finish-kinds
use Rattle.pen.proofs.strokes.Pen.finish.Reads as finish-reads

pub new-unique : (κs : Lfts 0) (r r' : Pen) → new-reads.Post κs tt r tt → new-reads.Post κs tt r' tt → r ≡ r'
new-unique κs r r' p q = p ∙ sym q

pub new-trail-unique : (κs : Lfts 0) (r r' : Trail) → new-trail-reads.Post κs tt r tt →
    new-trail-reads.Post κs tt r' tt → r ≡ r'
new-trail-unique κs r r' p q = p ∙ sym q

module _ (κs : Lfts 0) (t : Trail) (path : Path) (r r' : Counted) where
  pub count-unique : count-reads.Post κs (t, (path, tt)) r (t, (path, tt)) →
      count-reads.Post κs (t, (path, tt)) r' (t, (path, tt)) → r ≡ r'
  count-unique p q = p.0 ∙ sym q.0

module _ (κs : Lfts 1) (a : ArgsD move-to.signature κs) (r r' : ResD move-to.signature κs)
    (x x' : AtExit (ended_of 1 move-to-kinds.ps move-to-kinds.r) κs) where
  pub move-to-unique : move-to-reads.Post κs a r x → move-to-reads.Post κs a r' x' →
      (r ≡ r') × (x.1.1.1.0.now ≡ x'.1.1.1.0.now)
  move-to-unique p q = drew-one p q

module _ (κs : Lfts 1) (a : ArgsD line-to.signature κs) (r r' : ResD line-to.signature κs)
    (x x' : AtExit (ended_of 1 line-to-kinds.ps line-to-kinds.r) κs) where
  pub line-to-unique : line-to-reads.Post κs a r x → line-to-reads.Post κs a r' x' →
      (r ≡ r') × (x.1.1.1.0.now ≡ x'.1.1.1.0.now)
  line-to-unique p q = drew-one p q

module _ (κs : Lfts 1) (a : ArgsD curve-to.signature κs) (r r' : ResD curve-to.signature κs)
    (x x' : AtExit (ended_of 1 curve-to-kinds.ps curve-to-kinds.r) κs) where
  pub curve-to-unique : curve-to-reads.Post κs a r x → curve-to-reads.Post κs a r' x' →
      (r ≡ r') × (x.1.1.1.1.0.now ≡ x'.1.1.1.1.0.now)
  curve-to-unique p q = drew-one p q

module _ (κs : Lfts 1) (a : ArgsD finish.signature κs) (r r' : ResD finish.signature κs)
    (x x' : AtExit (ended_of 1 finish-kinds.ps finish-kinds.r) κs) where
  pub finish-unique : finish-reads.Post κs a r x → finish-reads.Post κs a r' x' →
      (r ≡ r') × (x.1.0.now ≡ x'.1.0.now)
  finish-unique p q = drew-one p q
