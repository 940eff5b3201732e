-- The parameters are what the calls give. Assumes nothing.
use Rattle.std.proofs.Common.{to_z-of_z, w32, SFits, rules}
use Rattle.test_tables.specs.Given.{params_in}
use Rattle.test_tables.proofs.given.params.Goals as goal

pub returns : goal.returns
unfolding params_in
returns c =
    let fits : SFits w32 c.number.result = search rules in
    let number = to_z-of_z fits in
    cc number
