-- `list_words`'s loop: the words of the first `i` records stand over the list. Assumes nothing.
use Rattle.std.proofs.Common.{◌≡◌, ◌/◌, take, length}
use Rattle.words.specs.Bytes.{over}
use Rattle.listing.specs.Listing.{records_in, list_words}
use Rattle.listing.proofs.as_words.list_words.Given as goal

abbrev pub invariant-loop-i : goal.invariant-loop-i
invariant-loop-i l = l.list ≡ over (list_words (take l.i (records_in l.fn.map (length l.fn.list / 6)))) l.fn.list
