-- A script that is too long is not read. Assumes nothing.
use Rattle.std.proofs.Common.{arith}
use Rattle.test_scripts.proofs.Outcomes.{too_long}
use Rattle.test_scripts.proofs.again.again_sized.Goals as goal

pub returns-then-held-size : goal.returns-then-held-size
returns-then-held-size c = too_long _ _ _ _ (omega arith)
