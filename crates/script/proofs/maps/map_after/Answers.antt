-- `map_after` gives the map among the hints that commands of a script leave, by the contract of
-- `hints_after`. Assumes nothing.
use Rattle.std.proofs.Common.{arith}
use Rattle.script.proofs.Passed.{passed, runnable, seen}
use Rattle.script.proofs.maps.map_after.Goals as goal

pub natural-first-requires : goal.natural-first-requires
natural-first-requires c = omega (arith, (passed _ c.requires).fine.enough)

pub natural-count-requires : goal.natural-count-requires
natural-count-requires c = omega (arith, (passed _ c.requires).fine.enough)

pub natural-masks-requires : goal.natural-masks-requires
natural-masks-requires c = omega (arith, (passed _ c.requires).fine.enough)

pub hints_after-hints-requires : goal.hints_after-hints-requires
hints_after-hints-requires c =
    rw (c.natural-first.ensures.0, c.natural-count.ensures.0, c.natural-masks.ensures.0)
    (runnable _ (passed _ c.requires))

pub returns : goal.returns
returns c =
    seen c.args.script.now c.args.commands (simp (
      c.zones_of.ensures,
      c.natural-first.ensures.0,
      c.natural-count.ensures.0,
      c.natural-masks.ensures.0,
    ) at c.hints_after-hints.ensures)
