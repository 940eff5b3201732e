-- `check_header` makes the tests of `header_rows` in their order. Assumes nothing.
use Rattle.std.proofs.Common.{arith}
use borrow.Author.Tests.{tests}
use Rattle.words.specs.Rows.{first_or}
use Rattle.words.proofs.Answers.{says}
use Rattle.header.specs.Header.{header_rows}
use Rattle.header.proofs.Tests.{long}
use Rattle.header.proofs.checks.check_header.Goals as goal

pub returns-then-length_bad : goal.returns-then-length_bad
unfolding header_rows first_or
returns-then-length_bad c = says (grind (arith, tests, long))

pub returns-then-natural-ne-VERSION_ONE : goal.returns-then-natural-ne-VERSION_ONE
unfolding header_rows first_or
returns-then-natural-ne-VERSION_ONE c = says (grind (arith, tests, long))

pub returns-then-natural-ne-HEADER_WORDS : goal.returns-then-natural-ne-HEADER_WORDS
unfolding header_rows first_or
returns-then-natural-ne-HEADER_WORDS c = says (grind (arith, tests, long))

pub returns-then-params-lt-MIN_PARAMS : goal.returns-then-params-lt-MIN_PARAMS
unfolding header_rows first_or
returns-then-params-lt-MIN_PARAMS c = says (grind (arith, tests, long))

pub returns-then-commands-params : goal.returns-then-commands-params
unfolding header_rows first_or
returns-then-commands-params c = says (grind (arith, tests, long))

pub returns-then-bytes-commands : goal.returns-then-bytes-commands
unfolding header_rows first_or
returns-then-bytes-commands c = says (grind (arith, tests, long))

pub returns-then-masks-commands : goal.returns-then-masks-commands
unfolding header_rows first_or
returns-then-masks-commands c = says (grind (arith, tests, long))

pub returns-then-masks-mask_bytes : goal.returns-then-masks-mask_bytes
unfolding header_rows first_or
returns-then-masks-mask_bytes c = says (grind (arith, tests, long))

pub returns-then-not-all_zero : goal.returns-then-not-all_zero
unfolding header_rows first_or
returns-then-not-all_zero c = says (grind (arith, tests, long))

pub returns : goal.returns
unfolding header_rows first_or
returns c = says (grind (arith, tests, long))
