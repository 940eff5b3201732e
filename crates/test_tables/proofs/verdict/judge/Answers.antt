-- The answer decides, and then the words. Assumes nothing.
use Rattle.std.proofs.Common.{rules}
use Rattle.test_tables.specs.Verdicts.{verdict_on}
use Rattle.test_tables.proofs.verdict.judge.Goals as goal

pub returns-then-not-same : goal.returns-then-not-same
unfolding verdict_on
returns-then-not-same c = search rules

pub returns-then-first-left : goal.returns-then-first-left
unfolding verdict_on
returns-then-first-left c = search rules

pub returns : goal.returns
unfolding verdict_on
returns c = search rules
