-- Each turn looks at one byte. Assumes nothing.
use Rattle.std.proofs.Common.{◌≡◌, length, sym, ◌∙◌, arith, true, false, rules}
use Rattle.std.proofs.lemmas.Grind.{common_steps}
use Rattle.test_writer.specs.Comparing.{same_byte}
use Rattle.test_tables.proofs.Searching.{passed, stopped, ended}
use Rattle.test_writer.proofs.comparing.first_byte.Goals as goal

pub returns-then-byte-stored : goal.returns-then-byte-stored
returns-then-byte-stored c =
    let e : same_byte c.args.left.now c.args.stored.now c.loop-i.i ≡ false = grind (arith, common_steps) in
    sym (stopped (same_byte c.args.left.now c.args.stored.now) c.loop-i.i (length c.args.left.now) (omega arith) e)
    ∙ c.loop-i.invariant.1.1

pub loop-i-preserved : goal.loop-i-preserved
loop-i-preserved c =
    let e : same_byte c.args.left.now c.args.stored.now c.loop-i.i ≡ true = grind (arith, common_steps) in (
      search rules,
      (
        omega arith,
        sym (passed (same_byte c.args.left.now c.args.stored.now) c.loop-i.i (length c.args.left.now) (omega arith) e)
            ∙ c.loop-i.invariant.1.1,
      ),
    )

pub returns : goal.returns
returns c =
    let n : c.loop-i.i ≡ length c.args.left.now = omega arith in
    sym n
    ∙ (sym (ended (same_byte c.args.left.now c.args.stored.now) c.loop-i.i (length c.args.left.now) (omega arith))
    ∙ c.loop-i.invariant.1.1)
