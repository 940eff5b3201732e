-- The words before `place` are lent, and `bits` are those of the next one. Assumes nothing.
use Rattle.std.proofs.Common.{◌≡◌, ◌+◌, ◌*◌, ◌%◌, ◌^◌, take}
use Rattle.test_writer.specs.Lending.{filled, lent_word}
use Rattle.test_writer.proofs.lending.lend_words.Given as goal

abbrev pub invariant-loop-place : goal.invariant-loop-place
invariant-loop-place l =
    (take l.place-index l.out ≡ filled (lent_word l.fill) l.place-index)
    × (l.bits ≡ (16777619 * l.fill + 2654435761 * l.place-index) % 2 ^ 32)
