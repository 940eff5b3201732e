-- `number_in`'s loop: the digits that are left, behind what those before them say, answer for all; and
-- what those before say is cut to the most that is told apart. Assumes nothing.
use Rattle.std.proofs.Common.{◌≡◌, ◌≤◌, min, drop}
use Rattle.decimal.specs.Decimal.{read_on}
use Rattle.edges.specs.Page.{asked_in}
use Rattle.edges.proofs.argument.number_in.Given as goal

abbrev pub invariant-loop-digit : goal.invariant-loop-digit
invariant-loop-digit l = record {
  rest : min (read_on l.number (drop l.digit-index l.text)) 4294967295 ≡ asked_in l.text;
  most : l.number ≤ 4294967295;
}
