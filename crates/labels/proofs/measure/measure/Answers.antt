-- `measure` surveys one glyph more, whose fault is the answer or whose words are added, and behind
-- the last holds the words to the room. Assumes nothing.
use Rattle.std.proofs.Common.{arith, ◌≡◌, sym, subst, ◌∙◌, ℕ, ℤ, List, Result, Ok, Err}
use Rattle.std.proofs.Common.{◌+◌, ◌-◌, ◌*◌, ◌<◌, ◌≤◌, length, take, drop, length-drop}
use lib.Seq.{length-take-le}
use borrow.Author.Tests.{leb-false}
use Rattle.words.specs.declared.answer.Refusal.{Refusal}
use Rattle.labels.specs.Glyphs.{Glyph, glyph, fault_of}
use Rattle.labels.specs.Measured.{size_of, survey_of}
use Rattle.labels.proofs.Surveys.{fault-surveyed, size-surveyed}
use Rattle.labels.proofs.Walking.{walk, first-positive, second-positive, words-there, bytes-there}
use Rattle.labels.proofs.Walking.{lent-glyph}
use Rattle.labels.proofs.Measuring.{measuring, faulty, counting, full, measured}
use Rattle.labels.proofs.measure.measure.Goals as goal

-- a survey of what is lent of both lists is one of the glyph
module _ (cs : List ℤ) (ms : List ℕ) (word n byte b : ℕ) where
  abbrev lent : Glyph
  lent = glyph (take (word + n - word) (drop word cs)) (take (byte + b - byte) (drop byte ms))

  abbrev here : Glyph
  here = glyph (take n (drop word cs)) (take b (drop byte ms))

  seen : {s : Result ℕ Refusal} → s ≡ survey_of lent → s ≡ survey_of here
  seen {s} e = subst (λ (g : Glyph). s ≡ survey_of g) (lent-glyph cs ms word n byte b) e

  seen-fault : {r : Refusal} → Err r ≡ survey_of lent → fault_of here ≡ Err r
  seen-fault e = fault-surveyed here (seen e)

  seen-size : {m : ℕ} → Ok m ≡ survey_of lent → (fault_of here ≡ Ok tt) × (m ≡ size_of here)
  seen-size e = size-surveyed here (seen e)

-- a part is as long as it says
part-long : {A : Type 0} (xs : List A) (i n : ℕ) → i + n ≤ length xs →
    (length (take n (drop i xs)) ≡ n) × (length (take (i + n - i) (drop i xs)) ≡ n)
part-long xs i n h =
    let l = length-drop i xs in
    let e : i + n - i ≡ n = omega arith in
    let k = length-take-le n (drop i xs) (omega (arith, l)) in
    (k, rw e k)

pub loop-glyph-init : goal.loop-glyph-init
loop-glyph-init c =
    let a = c.args in
    let w = walk a.lengths.now a.commands.now a.masks.now c.requires.0 in
    measuring a.lengths.now a.commands.now a.masks.now a.room w c.requires.1

pub slice_bounds-survey-end : goal.slice_bounds-survey-end
slice_bounds-survey-end c =
    words-there c.loop-glyph.invariant.walks (omega arith) c.size_at.ensures.0 c.size_at-in-loop-glyph.ensures.0

pub slice_bounds-survey-end-in-loop-glyph : goal.slice_bounds-survey-end-in-loop-glyph
slice_bounds-survey-end-in-loop-glyph c =
    bytes-there c.loop-glyph.invariant.walks (omega arith) c.size_at.ensures.0 c.size_at-in-loop-glyph.ensures.0

pub survey-requires : goal.survey-requires
survey-requires c =
    let l = c.loop-glyph in
    let w = l.invariant.walks in
    let there : 2 * l.glyph < length c.args.lengths.now = omega arith in
    let n = c.size_at.ensures in
    let b = c.size_at-in-loop-glyph.ensures in
    let words = part-long c.args.commands.now l.word c.size_at.result (words-there w there n.0 b.0) in
    let bytes = part-long c.args.masks.now l.byte c.size_at-in-loop-glyph.result (bytes-there w there n.0 b.0) in (
      omega (arith, words.1, leb-false 2147483648 _ (sym n.1.1 ∙ (first-positive w there).0)),
      omega (arith, bytes.1, leb-false 2147483648 _ (sym b.1.1 ∙ (second-positive w there).0)),
    )

pub returns-in-Err : goal.returns-in-Err
returns-in-Err c =
    let l = c.loop-glyph in
    let there : 2 * l.glyph < length c.args.lengths.now = omega arith in
    let q = seen-fault c.args.commands.now c.args.masks.now l.word c.size_at.result l.byte
    c.size_at-in-loop-glyph.result c.in-Err.ensures.0 in
    c.in_glyph.ensures ∙ sym (faulty l.invariant there c.size_at.ensures.0 c.size_at-in-loop-glyph.ensures.0 q)

pub with-taken-requires : goal.with-taken-requires
with-taken-requires c =
    let l = c.loop-glyph in
    let w = l.invariant.walks in
    let there : 2 * l.glyph < length c.args.lengths.now = omega arith in
    let n = c.size_at.ensures in
    let words = part-long c.args.commands.now l.word c.size_at.result
    (words-there w there n.0 c.size_at-in-loop-glyph.ensures.0) in (
      omega (arith, l.invariant.most, c.requires.1),
      (
        omega (arith, c.in-Ok.ensures.1, words.1, leb-false 2147483648 _ (sym n.1.1 ∙ (first-positive w there).0)),
        omega (arith, l.invariant.few.0, w.few, there),
      ),
    )

pub loop-glyph-preserved : goal.loop-glyph-preserved
loop-glyph-preserved c =
    let l = c.loop-glyph in
    let w = l.invariant.walks in
    let there : 2 * l.glyph < length c.args.lengths.now = omega arith in
    let n = c.size_at.ensures in
    let b = c.size_at-in-loop-glyph.ensures in
    let s = seen-size c.args.commands.now c.args.masks.now l.word c.size_at.result l.byte
    c.size_at-in-loop-glyph.result c.in-Ok.ensures.0 in
    let words = part-long c.args.commands.now l.word c.size_at.result (words-there w there n.0 b.0) in
    let short = leb-false 2147483648 _ (sym n.1.1 ∙ (first-positive w there).0) in
    let next : 2 * (l.glyph + 1) ≡ 2 * l.glyph + 2 = omega arith in
    rw (next, c.with-taken.ensures, s.1)
    (counting l.invariant there n.0 b.0 s.0 (omega (arith, c.in-Ok.ensures.1, words.1, short, s.1)))

pub returns-then-room-taken : goal.returns-then-room-taken
returns-then-room-taken c =
    sym (full c.loop-glyph.invariant (omega (arith, c.loop-glyph.invariant.walks.pairs)) c.if-room-taken.true)

pub returns : goal.returns
returns c =
    sym (measured c.loop-glyph.invariant (omega (arith, c.loop-glyph.invariant.walks.pairs)) c.if-room-taken.false)
