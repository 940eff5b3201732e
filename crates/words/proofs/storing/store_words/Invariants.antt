-- `store_words` lays words from word `first` on: after i turns the first i. Assumes nothing.
use Rattle.std.proofs.Common.{◌≡◌, map, take}
use Rattle.fixed.specs.Integers.{bits_of}
use Rattle.words.specs.Bytes.{laid}
use Rattle.words.proofs.storing.store_words.Given as goal

abbrev pub invariant-loop-i : goal.invariant-loop-i
invariant-loop-i l = l.bytes ≡ laid l.fn.bytes l.first (map bits_of (take l.i l.words))
