-- No more rows differ than were run. Assumes nothing.
use Rattle.std.proofs.Common.{◌≤◌}
use Rattle.test_tables.proofs.tables.run_table.Given as goal

abbrev pub invariant-loop-i : goal.invariant-loop-i
invariant-loop-i g l = goal.F-IsAlwaysCallable g l.agrees × (l.differ ≤ l.i)
