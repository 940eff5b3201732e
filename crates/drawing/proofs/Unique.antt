-- Any two outcomes that meet the contract of a public function are equal, over that contract as the
-- toolchain reads it: the result and, of a call that writes records, every word of what was lent.
-- Assumes nothing.
use mathlib.Core.Path.{◌≡◌, refl, sym, ap, ◌∙◌}
use mathlib.Core.List.{List}
use native.Mathlib.Omega.{arith}
use Prim.Native.Nat.{ℕ}
use lib.IntN.{ℤ}
use borrow.Fn.Kinds.{ended_of}
use borrow.Fn.World.{ArgsD, ResD}
use contract.Lifetimes.{Lfts}
use denote.Triple.Clauses.{AtExit}
use Rattle.std.proofs.Common.{Result, Ok, Err}
use Rattle.fixed.specs.declared.Fixed.{Fixed}
use Rattle.stems.specs.declared.mask.HintMask.{HintMask}
use Rattle.zones.specs.declared.state.HintParams.{HintParams}
use Rattle.zones.specs.declared.state.HintState.{HintState}
use Rattle.hints.specs.declared.drawing.Drawing.{Drawing}
use Rattle.drawing.specs.declared.calls.After.{After}
use Rattle.pen.specs.declared.drawn.NoRoom.{NoRoom}
use Rattle.pen.proofs.Drew.{same_answer}
use Rattle.drawing.specs.declared.opening.OpenRefusal.{OpenRefusal}
use Rattle.drawing.specs.declared.opening.OpenRefusal.TheVariants.{BadScale, BadBlues}
use Rattle.drawing.specs.declared.opening.Opened.{Opened}
use Rattle.drawing.specs.Open.{open_number}
use Rattle.hints.specs.Calls.{Call}
use Rattle.drawing.specs.After.{Called}
use Rattle.drawing.proofs.calls.hstem.Reads as hstem-reads
use Rattle.drawing.proofs.calls.hint_mask.Reads as hint-mask-reads
use Rattle.drawing.proofs.calls.counter_mask.Reads as counter-mask-reads
use Rattle.drawing.proofs.calls.clear_hints.Reads as clear-hints-reads
use Rattle.drawing.proofs.calls.close.Reads as close-reads
use Rattle.drawing.specs.contracts.calls.move_to as move-to
use Rattle.drawing.proofs.calls.move_to.Kinds as move-to-kinds
use Rattle.drawing.proofs.calls.move_to.Reads as move-to-reads
use Rattle.drawing.specs.contracts.calls.line_to as line-to
use Rattle.drawing.proofs.calls.line_to.Kinds as line-to-kinds
use Rattle.drawing.proofs.calls.line_to.Reads as line-to-reads
use Rattle.drawing.specs.contracts.calls.curve_to as curve-to
use Rattle.drawing.proofs.calls.curve_to.Kinds as curve-to-kinds
use Rattle.drawing.proofs.calls.curve_to.Reads as curve-to-reads
use Rattle.drawing.specs.contracts.calls.finish as finish
use Rattle.drawing.proofs.calls.finish.Kinds as finish-kinds
use Rattle.drawing.proofs.calls.finish.Reads as finish-reads
use Rattle.drawing.proofs.opening.open.Reads as open-reads

module _ (κs : Lfts 0) (st : HintState) (d r r' : Drawing) where
  pub hstem-unique : (min max : Fixed) → hstem-reads.Post κs (st, (d, (min, (max, tt)))) r (st, (d, (min, (max, tt)))) →
      hstem-reads.Post κs (st, (d, (min, (max, tt)))) r' (st, (d, (min, (max, tt)))) → r ≡ r'
  hstem-unique min max p q = p ∙ sym q

  pub hint-mask-unique : (mask : HintMask) → hint-mask-reads.Post κs (st, (d, (mask, tt))) r (st, (d, (mask, tt))) →
      hint-mask-reads.Post κs (st, (d, (mask, tt))) r' (st, (d, (mask, tt))) → r ≡ r'
  hint-mask-unique mask p q = p ∙ sym q

  pub counter-mask-unique : (mask : HintMask) →
      counter-mask-reads.Post κs (st, (d, (mask, tt))) r (st, (d, (mask, tt))) →
      counter-mask-reads.Post κs (st, (d, (mask, tt))) r' (st, (d, (mask, tt))) → r ≡ r'
  counter-mask-unique mask p q = p ∙ sym q

  pub clear-hints-unique : clear-hints-reads.Post κs (st, (d, tt)) r (st, (d, tt)) →
      clear-hints-reads.Post κs (st, (d, tt)) r' (st, (d, tt)) → r ≡ r'
  clear-hints-unique p q = p ∙ sym q

  pub close-unique : close-reads.Post κs (st, (d, tt)) r (st, (d, tt)) →
      close-reads.Post κs (st, (d, tt)) r' (st, (d, tt)) → r ≡ r'
  close-unique p q = p ∙ sym q

after : {a b : After} → a.drawing ≡ b.drawing → a.answer ≡ b.answer → a ≡ b
after {a} {b} d e =
    ap (λ (x : Drawing). record { drawing = x; answer = a.answer }) d ∙
    ap (λ (x : Result ℕ NoRoom). record { drawing = b.drawing; answer = x }) e

-- a call has one outcome
called-once : {st : HintState} {d : Drawing} {c : Call} {out m m' : List ℤ} {r r' : After} → Called st d c out r m →
    Called st d c out r' m' → (r ≡ r') × (m ≡ m')
called-once {r = r} {r' = r'} p q =
    let a = same_answer r.answer r'.answer (p.number ∙ sym q.number) (p.words ∙ sym q.words) in
    (after (p.drawing ∙ sym q.drawing) a, p.memory ∙ sym q.memory)

module _ (κs : Lfts 1) (a : ArgsD move-to.signature κs) (r r' : ResD move-to.signature κs)
    (x x' : AtExit (ended_of 1 move-to-kinds.ps move-to-kinds.r) κs) where
  pub move-to-unique : move-to-reads.Post κs a r x → move-to-reads.Post κs a r' x' →
      (r ≡ r') × (x.1.1.1.0.now ≡ x'.1.1.1.0.now)
  move-to-unique p q = called-once p q

module _ (κs : Lfts 1) (a : ArgsD line-to.signature κs) (r r' : ResD line-to.signature κs)
    (x x' : AtExit (ended_of 1 line-to-kinds.ps line-to-kinds.r) κs) where
  pub line-to-unique : line-to-reads.Post κs a r x → line-to-reads.Post κs a r' x' →
      (r ≡ r') × (x.1.1.1.0.now ≡ x'.1.1.1.0.now)
  line-to-unique p q = called-once p q

module _ (κs : Lfts 1) (a : ArgsD curve-to.signature κs) (r r' : ResD curve-to.signature κs)
    (x x' : AtExit (ended_of 1 curve-to-kinds.ps curve-to-kinds.r) κs) where
  pub curve-to-unique : curve-to-reads.Post κs a r x → curve-to-reads.Post κs a r' x' →
      (r ≡ r') × (x.1.1.1.1.1.0.now ≡ x'.1.1.1.1.1.0.now)
  curve-to-unique p q = called-once p q

module _ (κs : Lfts 1) (a : ArgsD finish.signature κs) (r r' : ResD finish.signature κs)
    (x x' : AtExit (ended_of 1 finish-kinds.ps finish-kinds.r) κs) where
  pub finish-unique : finish-reads.Post κs a r x → finish-reads.Post κs a r' x' →
      (r ≡ r') × (x.1.1.0.now ≡ x'.1.1.0.now)
  finish-unique p q = called-once p q

-- the number of an opening tells which it is
same-opening : (a b : Result (Unit {0}) OpenRefusal) → open_number a ≡ open_number b → a ≡ b
same-opening (Ok _) (Ok _) e = refl
same-opening (Ok _) (Err BadScale) e = absurd (omega arith)
same-opening (Ok _) (Err BadBlues) e = absurd (omega arith)
same-opening (Err BadScale) (Ok _) e = absurd (omega arith)
same-opening (Err BadScale) (Err BadScale) e = refl
same-opening (Err BadScale) (Err BadBlues) e = absurd (omega arith)
same-opening (Err BadBlues) (Ok _) e = absurd (omega arith)
same-opening (Err BadBlues) (Err BadScale) e = absurd (omega arith)
same-opening (Err BadBlues) (Err BadBlues) e = refl

pub open-unique : (κs : Lfts 0) (params : HintParams) (scale : Fixed) (r r' : Opened) →
    open-reads.Post κs (params, (scale, tt)) r (params, (scale, tt)) →
    open-reads.Post κs (params, (scale, tt)) r' (params, (scale, tt)) → r ≡ r'
open-unique κs params scale r r' p q =
    let a = same-opening r.answer r'.answer (p.number ∙ sym q.number) in
    ap (λ (x : Result (Unit {0}) OpenRefusal). record { answer = x; state = r.state; drawing = r.drawing }) a ∙
    ap (λ (x : HintState). record { answer = r'.answer; state = x; drawing = r.drawing }) (p.state ∙ sym q.state)
    ∙
    ap (λ (x : Drawing). record { answer = r'.answer; state = r'.state; drawing = x }) (p.drawing ∙ sym q.drawing)
