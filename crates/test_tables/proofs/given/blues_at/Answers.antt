-- The pairs are those that seven calls give. Assumes nothing.
use Rattle.test_tables.specs.Given.{blues_in}
use Rattle.test_tables.proofs.given.blues_at.Goals as goal

pub returns : goal.returns
unfolding blues_in
returns c = cc
