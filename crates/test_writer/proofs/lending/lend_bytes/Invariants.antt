-- The bytes before `place` are lent, and `byte` is the next one. Assumes nothing.
use Rattle.std.proofs.Common.{◌≡◌, take}
use Rattle.test_writer.specs.Lending.{filled, lent_byte}
use Rattle.test_writer.proofs.lending.lend_bytes.Given as goal

abbrev pub invariant-loop-place : goal.invariant-loop-place
invariant-loop-place l =
    (take l.place-index l.out ≡ filled (lent_byte l.fill) l.place-index) × (l.byte ≡ lent_byte l.fill l.place-index)
