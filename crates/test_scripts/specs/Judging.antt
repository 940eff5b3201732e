-- How a run is judged by what is stored for it.
use Rattle.std.specs.Prelude.{ℕ, zero, suc, Bool, true, false, List, length, ℤ, pos, neg_ℤ, ◌==◌, nat_lt, slice_set}
use Rattle.std.specs.Prelude.{Option, Some, None}
use Rattle.fixed.specs.declared.Fixed.{Fixed}
use Rattle.fixed.specs.Fixed.{from_bits, add_f}
use Rattle.words.specs.Words.{raw_at}
use Rattle.words.specs.Answers.{number_of, place_of}
use Rattle.script.specs.Script.{Result}
use Rattle.test_tables.specs.Differing.{first_word}
use Rattle.test_scripts.specs.declared.judging.Difference.{Difference}
use Rattle.test_scripts.specs.declared.judging.Difference.TheVariants.{Number, Place, Word}

-- ---- the words that are lent
-- word i: the fill, and 0x9E3779B1, which is −1640531535 as a word, for each word before it, cut to
-- 32 bits
unfoldable pub lent_word : Fixed → ℕ → Fixed
lent_word fill zero = fill
lent_word fill (suc i) = add_f (lent_word fill i) (from_bits (neg_ℤ (pos 1640531535)))

-- the first k words of an output, lent
unfoldable pub lent : Fixed → ℕ → List ℤ → List ℤ
lent fill zero out = out
lent fill (suc k) out = slice_set (lent fill k out) k (lent_word fill k).bits

-- ---- the verdict
abbrev pub by_word : Bool → ℕ → Option Difference
by_word true i = Some (Word i)
by_word false i = None

abbrev pub by_place : Bool → Option Difference → Option Difference
by_place true v = v
by_place false v = Some Place

abbrev pub by_number : Bool → Option Difference → Option Difference
by_number true v = v
by_number false v = Some Number

-- a case's header has the number at word 4 and the place at word 5
unfoldable pub verdict_of : List ℕ → List ℕ → Result → Option Difference
verdict_of head stored r =
    by_number (number_of r.answer == raw_at head 4)
    (by_place (place_of r.answer == raw_at head 5)
    (by_word (nat_lt (first_word r.left stored) (length r.left)) (first_word r.left stored)))
