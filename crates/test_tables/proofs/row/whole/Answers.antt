-- A number below 0 is no count. Assumes nothing.
use Rattle.std.proofs.Common.{arith}
use Rattle.test_tables.specs.Given.{whole_of}
use Rattle.test_tables.proofs.row.whole.Goals as goal

pub returns : goal.returns
unfolding whole_of
returns c = grind (arith)
