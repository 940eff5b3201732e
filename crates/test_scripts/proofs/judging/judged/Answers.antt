-- Each end is the verdict by what was compared up to it. Assumes nothing.
use Rattle.std.proofs.Common.{ℕ, Some, sym, ap, ◌∙◌}
use Rattle.test_scripts.specs.declared.judging.Difference.TheVariants.{Word}
use Rattle.test_scripts.proofs.Verdicts.{other-number, other_place, other_word, same-words}
use Rattle.test_scripts.proofs.judging.judged.Goals as goal

pub returns-then-code-natural : goal.returns-then-code-natural
returns-then-code-natural c =
    let o = rw (c.lend.ensures, c.number.ensures) at c.run_script-answer.ensures in
    other-number _ _ _ _ _ o (λ e. c.if-code-natural.true (c.code.ensures ∙ e ∙ sym c.natural.ensures.0))

pub returns-then-place-natural : goal.returns-then-place-natural
returns-then-place-natural c =
    let o = rw (c.lend.ensures, c.number.ensures) at c.run_script-answer.ensures in
    other_place _ _ _ _ _ o
    (sym c.code.ensures ∙ c.if-code-natural.false ∙ c.natural.ensures.0)
    (λ e. c.if-place-natural.true (c.place.ensures ∙ e ∙ sym c.natural-2.ensures.0))

pub returns-then-first-out : goal.returns-then-first-out
returns-then-first-out c =
    let o = rw (c.lend.ensures, c.number.ensures) at c.run_script-answer.ensures in
    let e = c.first_word-first.ensures in
    ap (λ (n : ℕ). Some (Word n)) e
    ∙ other_word _ _ _ _ _ o
    (sym c.code.ensures ∙ c.if-code-natural.false ∙ c.natural.ensures.0)
    (sym c.place.ensures ∙ c.if-place-natural.false ∙ c.natural-2.ensures.0)
    (rw e at c.if-first-out.true)

pub returns : goal.returns
returns c =
    let o = rw (c.lend.ensures, c.number.ensures) at c.run_script-answer.ensures in
    let e = c.first_word-first.ensures in
    same-words _ _ _ _ _ o
    (sym c.code.ensures ∙ c.if-code-natural.false ∙ c.natural.ensures.0)
    (sym c.place.ensures ∙ c.if-place-natural.false ∙ c.natural-2.ensures.0)
    (rw e at c.if-first-out.false)
