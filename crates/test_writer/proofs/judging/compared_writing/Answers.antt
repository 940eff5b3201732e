-- The tests of `write_rows` are made in their order: one that holds gives the verdict, and one that
-- does not is passed. Assumes nothing.
use Rattle.header.proofs.Tests.{tests}
use Rattle.test_writer.specs.Judging.{write_rows}
use Rattle.test_writer.proofs.Verdicts.{hit, past, none}
use Rattle.test_writer.proofs.judging.compared_writing.Goals as goal

pub returns-then-code-natural : goal.returns-then-code-natural
unfolding write_rows
returns-then-code-natural c = hit _ _ (omega tests)

pub returns-then-place-natural : goal.returns-then-place-natural
unfolding write_rows
returns-then-place-natural c = past _ _ (omega tests) (hit _ _ (omega tests))

pub returns-then-written-natural : goal.returns-then-written-natural
unfolding write_rows
returns-then-written-natural c = past _ _ (omega tests) (past _ _ (omega tests) (hit _ _ (omega tests)))

pub returns-then-first-script : goal.returns-then-first-script
unfolding write_rows
returns-then-first-script c =
    rw c.first_byte-first.ensures
    (past _ _ (omega tests) (past _ _ (omega tests) (past _ _ (omega tests) (hit _ _ (omega tests)))))

pub returns : goal.returns
unfolding write_rows
returns c = past _ _ (omega tests) (past _ _ (omega tests) (past _ _ (omega tests) (past _ _ (omega tests) none)))
