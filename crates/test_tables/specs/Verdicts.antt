-- How a case is judged by what is stored for it: by the answer, then by the words left with it.
use Rattle.std.specs.Prelude.{ℕ, Bool, cond, List, length, ℤ, nat_lt, Option, Some, None}
use Rattle.test_tables.specs.declared.verdict.Difference.{Difference}
use Rattle.test_tables.specs.declared.verdict.Difference.TheVariants.{Answer, Word}
use Rattle.test_tables.specs.Differing.{first_word}

unfoldable pub verdict_on : Bool → List ℤ → List ℕ → Option Difference
verdict_on same left stored =
    cond same
    (cond (nat_lt (first_word left stored) (length left)) (Some (Word (first_word left stored))) None)
    (Some Answer)
