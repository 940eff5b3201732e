-- `store_blues` lays the pairs that count: after i turns the first i. Assumes nothing.
use Rattle.std.proofs.Common.{◌≡◌, take}
use Rattle.words.specs.Bytes.{laid}
use Rattle.writer.specs.ToWrite.{pair_words}
use Rattle.writer.proofs.parts.store_blues.Given as goal

abbrev pub invariant-loop-i : goal.invariant-loop-i
invariant-loop-i l = l.script ≡ laid l.fn.script l.first (pair_words (take l.i l.pair-items))
