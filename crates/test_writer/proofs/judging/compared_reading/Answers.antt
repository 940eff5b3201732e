-- The tests of `read_rows` are made in their order: one that holds gives the verdict, and one that
-- does not is passed. Assumes nothing.
use Rattle.std.proofs.Common.{◌≡◌, Bool, not, int_eq, sym, ap, ◌∙◌}
use Rattle.fixed.specs.declared.Fixed.{Fixed}
use Rattle.fixed.specs.Fixed.{same_f}
use Rattle.header.proofs.Tests.{tests}
use Rattle.test_writer.proofs.Agreeing.{same_fixed}
use Rattle.test_writer.specs.Judging.{read_rows}
use Rattle.test_writer.proofs.Verdicts.{hit, past, none}
use Rattle.test_writer.proofs.judging.compared_reading.Goals as goal

-- the scales are the same, by the library's test of their bits
scales : (a b : Fixed) {t v : Bool} → t ≡ not (int_eq a.bits b.bits) → t ≡ v → not (same_f a b) ≡ v
scales a b e h = rw (sym (same_fixed a b)) (sym e ∙ h)

pub returns-then-code-natural : goal.returns-then-code-natural
unfolding read_rows
returns-then-code-natural c = hit _ _ (omega tests)

pub returns-then-place-natural : goal.returns-then-place-natural
unfolding read_rows
returns-then-place-natural c = past _ _ (omega tests) (hit _ _ (omega tests))

pub returns-then-said-natural : goal.returns-then-said-natural
unfolding read_rows
returns-then-said-natural c = past _ _ (omega tests) (past _ _ (omega tests) (hit _ _ (omega tests)))

pub returns-then-said-natural-2 : goal.returns-then-said-natural-2
unfolding read_rows
returns-then-said-natural-2 c =
    past _ _ (omega tests) (past _ _ (omega tests) (past _ _ (omega tests) (hit _ _ (omega tests))))

pub returns-then-ne : goal.returns-then-ne
unfolding read_rows
returns-then-ne c =
    past _ _ (omega tests) (past _ _ (omega tests) (past _ _ (omega tests) (past _ _ (omega tests)
    (hit _ _ (rw c.number.ensures at (scales c.args.said.scale c.number.result c.ne.ensures c.if-ne.true))))))

pub returns-then-not-same_params : goal.returns-then-not-same_params
unfolding read_rows
returns-then-not-same_params c =
    past _ _ (omega tests) (past _ _ (omega tests) (past _ _ (omega tests) (past _ _ (omega tests)
    (past _ _ (rw c.number.ensures at (scales c.args.said.scale c.number.result c.ne.ensures c.if-ne.false))
    (hit _ _ (ap not (rw c.params_from.ensures at (sym c.same_params.ensures ∙ c.if-not-same_params.true))))))))

pub returns-then-word-commands : goal.returns-then-word-commands
unfolding read_rows
returns-then-word-commands c =
    rw c.first_word-word.ensures
    (past _ _ (omega tests) (past _ _ (omega tests) (past _ _ (omega tests) (past _ _ (omega tests)
    (past _ _ (rw c.number.ensures at (scales c.args.said.scale c.number.result c.ne.ensures c.if-ne.false))
    (past _ _ (ap not (rw c.params_from.ensures at (sym c.same_params.ensures ∙ c.if-not-same_params.false)))
    (hit _ _ (omega tests))))))))

pub returns-then-byte-masks : goal.returns-then-byte-masks
unfolding read_rows
returns-then-byte-masks c =
    rw c.first_byte-byte.ensures
    (past _ _ (omega tests) (past _ _ (omega tests) (past _ _ (omega tests) (past _ _ (omega tests)
    (past _ _ (rw c.number.ensures at (scales c.args.said.scale c.number.result c.ne.ensures c.if-ne.false))
    (past _ _ (ap not (rw c.params_from.ensures at (sym c.same_params.ensures ∙ c.if-not-same_params.false)))
    (past _ _ (omega tests) (hit _ _ (omega tests)))))))))

pub returns : goal.returns
unfolding read_rows
returns c =
    past _ _ (omega tests) (past _ _ (omega tests) (past _ _ (omega tests) (past _ _ (omega tests)
    (past _ _ (rw c.number.ensures at (scales c.args.said.scale c.number.result c.ne.ensures c.if-ne.false))
    (past _ _ (ap not (rw c.params_from.ensures at (sym c.same_params.ensures ∙ c.if-not-same_params.false)))
    (past _ _ (omega tests) (past _ _ (omega tests) none)))))))
