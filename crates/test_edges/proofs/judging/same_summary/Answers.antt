-- The four counts are compared. Assumes nothing.
use Rattle.std.proofs.Common.{arith}
use Rattle.std.proofs.lemmas.Grind.{common_steps}
use Rattle.test_edges.specs.Judging.{same_summary}
use Rattle.test_edges.proofs.judging.same_summary.Goals as goal

pub returns-then-summary-natural-3 : goal.returns-then-summary-natural-3
unfolding same_summary
returns-then-summary-natural-3 c = grind (arith, common_steps)

pub returns-else-summary-natural-3 : goal.returns-else-summary-natural-3
unfolding same_summary
returns-else-summary-natural-3 c = grind (arith, common_steps)
