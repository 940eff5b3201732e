-- The tests of `written_as`, in their order. Assumes nothing.
use Rattle.std.proofs.Common.{◌≡◌, true, false, sym, ◌∙◌, eq-eqb, ne_eqb}
use Rattle.test_scripts.specs.Again.{same_bytes, written_as}
use Rattle.test_scripts.proofs.SameBytes.{same}
use Rattle.test_scripts.proofs.again.compared.Goals as goal

pub returns-then-code-ne0 : goal.returns-then-code-ne0
unfolding written_as
returns-then-code-ne0 c = rw (ne_eqb _ 0 (λ e. c.if-code-ne0.true (c.code.ensures ∙ e)))

pub returns-then-written-script : goal.returns-then-written-script
unfolding written_as
returns-then-written-script c =
    rw (
      eq-eqb _ 0 (sym c.code.ensures ∙ c.if-code-ne0.false),
      ne_eqb _ _ (λ e. c.if-written-script.true (c.written.ensures ∙ e)),
    )

pub returns-then-eq : goal.returns-then-eq
unfolding written_as
returns-then-eq c =
    let s = same c.args.left.now c.args.script.now in
    let e : same_bytes c.args.left.now c.args.script.now ≡ true = cc in
    rw (
      eq-eqb _ 0 (sym c.code.ensures ∙ c.if-code-ne0.false),
      eq-eqb _ _ (sym c.written.ensures ∙ c.if-written-script.false),
      e,
    )

pub returns : goal.returns
unfolding written_as
returns c =
    let s = same c.args.left.now c.args.script.now in
    let e : same_bytes c.args.left.now c.args.script.now ≡ false = cc in
    rw (
      eq-eqb _ 0 (sym c.code.ensures ∙ c.if-code-ne0.false),
      eq-eqb _ _ (sym c.written.ensures ∙ c.if-written-script.false),
      e,
    )
