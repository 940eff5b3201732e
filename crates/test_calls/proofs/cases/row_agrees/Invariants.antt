-- The loop has nothing to keep; what is left of the row gets shorter. Assumes nothing.
use Rattle.std.proofs.Common.{length, ◌-◌}
use Rattle.test_calls.proofs.cases.row_agrees.Given as goal

abbrev pub decreases-loop-at : goal.decreases-loop-at
decreases-loop-at l = length l.row - l.at
