-- The search from `i` on finds what the search from 0 on finds. Assumes nothing.
use Rattle.std.proofs.Common.{◌≡◌, ◌-◌, ◌≤◌, length}
use Rattle.test_tables.specs.Differing.{first_from, first_different, same_word}
use Rattle.test_tables.proofs.differing.first_word.Given as goal

abbrev pub invariant-loop-i : goal.invariant-loop-i
invariant-loop-i l =
    (l.i-end ≡ length l.left)
    × ((l.i ≤ l.i-end)
    × (first_from (same_word l.left l.stored) l.i (length l.left - l.i)
    ≡ first_different (same_word l.left l.stored) (length l.left)))
