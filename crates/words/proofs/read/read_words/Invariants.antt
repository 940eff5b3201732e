-- `read_words` reads words one by one. The loop's invariant: the first `i` are those of the bytes.
-- Assumes nothing.
use Rattle.std.proofs.Common.{◌≡◌, map, length, take}
use Rattle.fixed.specs.Integers.{signed}
use Rattle.words.specs.Words.{raw_at, words_from}
use Rattle.words.proofs.read.read_words.Given as goal

abbrev pub invariant-loop-i : goal.invariant-loop-i
invariant-loop-i l =
    (take l.i l.words ≡ map signed (words_from (raw_at l.bytes) l.first l.i)) ×
    (length l.words ≡ length l.fn.words)
