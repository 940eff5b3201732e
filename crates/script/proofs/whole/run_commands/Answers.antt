-- `run_commands` runs the commands of a script that passes all tests. Assumes nothing.
use Rattle.std.proofs.Common.{◌*◌, arith, sym}
use Rattle.words.specs.Words.{raw_at}
use Rattle.pen.proofs.Lent.{lent}
use Rattle.script.proofs.Passed.{passed, runnable, ran}
use Rattle.script.proofs.whole.run_commands.Goals as goal

pub natural-first-requires : goal.natural-first-requires
natural-first-requires c = omega (arith, (passed _ c.requires).fine.enough)

pub natural-count-requires : goal.natural-count-requires
natural-count-requires c = omega (arith, (passed _ c.requires).fine.enough)

pub natural-masks-requires : goal.natural-masks-requires
natural-masks-requires c = omega (arith, (passed _ c.requires).fine.enough)

-- the commands start in the script
pub slice_bounds-run-count : goal.slice_bounds-run-count
slice_bounds-run-count c = omega (arith, c.natural-first.ensures.0, (passed _ c.requires).fine.ends)

pub slice_bounds-run-start : goal.slice_bounds-run-start
slice_bounds-run-start c = omega (arith, c.natural-first.ensures.0, (passed _ c.requires).fine.ends)

pub run-requires : goal.run-requires
run-requires c =
    let s = c.args.script.now in
    rw (c.natural-first.ensures.0, c.natural-count.ensures.0, c.natural-masks.ensures.0, lent s (4 * raw_at s 4))
    (runnable _ (passed _ c.requires))

pub returns : goal.returns
returns c =
    let s = c.args.script.now in
    rw (sym (ran s c.args.out.now))
    (simp (
      c.zones_of.ensures,
      c.natural-first.ensures.0,
      c.natural-count.ensures.0,
      c.natural-masks.ensures.0,
      lent s (4 * raw_at s 4),
    ) at c.run.ensures)
