-- `check_params` makes the tests of `param_rows` in their order. Assumes nothing.
use Rattle.std.proofs.Common.{arith}
use borrow.Author.Tests.{tests}
use Rattle.words.specs.Rows.{first_or}
use Rattle.words.proofs.Answers.{says}
use Rattle.header.specs.Params.{param_rows}
use Rattle.header.proofs.checks.check_params.Goals as goal

pub returns-then-number-lt1 : goal.returns-then-number-lt1
unfolding param_rows first_or
returns-then-number-lt1 c = says (grind (arith, tests))

pub returns-then-blues-gt-MAX_BLUES : goal.returns-then-blues-gt-MAX_BLUES
unfolding param_rows first_or
returns-then-blues-gt-MAX_BLUES c = says (grind (arith, tests))

pub returns-then-others-gt-MAX_BLUES : goal.returns-then-others-gt-MAX_BLUES
unfolding param_rows first_or
returns-then-others-gt-MAX_BLUES c = says (grind (arith, tests))

pub returns-then-family-gt-MAX_BLUES : goal.returns-then-family-gt-MAX_BLUES
unfolding param_rows first_or
returns-then-family-gt-MAX_BLUES c = says (grind (arith, tests))

pub returns-then-family_others-gt-MAX_BLUES : goal.returns-then-family_others-gt-MAX_BLUES
unfolding param_rows first_or
returns-then-family_others-gt-MAX_BLUES c = says (grind (arith, tests))

pub returns-then-natural-blues : goal.returns-then-natural-blues
unfolding param_rows first_or
returns-then-natural-blues c = says (grind (arith, tests))

pub returns : goal.returns
unfolding param_rows first_or
returns c = says (grind (arith, tests))
