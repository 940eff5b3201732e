-- Each turn looks at one word. Assumes nothing.
use Rattle.std.proofs.Common.{◌≡◌, length, sym, ◌∙◌, arith, true, false, rules}
use Rattle.test_tables.specs.Differing.{same_word}
use Rattle.test_tables.proofs.Searching.{passed, stopped, ended}
use Rattle.test_tables.proofs.differing.first_word.Goals as goal

pub returns-then-differs : goal.returns-then-differs
returns-then-differs c =
    let e : same_word c.args.left.now c.args.stored.now c.loop-i.i ≡ false = search rules in
    sym (stopped (same_word c.args.left.now c.args.stored.now) c.loop-i.i (length c.args.left.now) (omega arith) e)
    ∙ c.loop-i.invariant.1.1

pub loop-i-preserved : goal.loop-i-preserved
loop-i-preserved c =
    let e : same_word c.args.left.now c.args.stored.now c.loop-i.i ≡ true = search rules in (
      search rules,
      (
        omega arith,
        sym (passed (same_word c.args.left.now c.args.stored.now) c.loop-i.i (length c.args.left.now) (omega arith) e)
            ∙ c.loop-i.invariant.1.1,
      ),
    )

pub returns : goal.returns
returns c =
    let n : c.loop-i.i ≡ length c.args.left.now = omega arith in
    sym n
    ∙ (sym (ended (same_word c.args.left.now c.args.stored.now) c.loop-i.i (length c.args.left.now) (omega arith))
    ∙ c.loop-i.invariant.1.1)
