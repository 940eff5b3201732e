-- Number, place and counts are compared. Assumes nothing.
use Rattle.std.proofs.Common.{arith}
use Rattle.std.proofs.lemmas.Grind.{common_steps}
use Rattle.test_edges.specs.Judging.{same_answer}
use Rattle.test_edges.proofs.judging.same_answer.Goals as goal

pub returns-then-place-natural : goal.returns-then-place-natural
unfolding same_answer
returns-then-place-natural c = grind (arith, common_steps)

pub returns-else-place-natural : goal.returns-else-place-natural
unfolding same_answer
returns-else-place-natural c = grind (arith, common_steps)
