-- The first `i` words are lent, and `word` is the next one. Assumes nothing.
use Rattle.std.proofs.Common.{◌≡◌, length}
use Rattle.test_scripts.specs.Judging.{lent_word, lent}
use Rattle.test_scripts.proofs.judging.lend.Given as goal

abbrev pub invariant-loop-i : goal.invariant-loop-i
invariant-loop-i l =
    (l.out ≡ lent l.fn.fill l.i l.fn.out) × ((l.word ≡ lent_word l.fn.fill l.i) × (length l.out ≡ length l.fn.out))
