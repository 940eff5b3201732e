-- What an output holds after a script that is fine is the script's result, so that the program
-- writes it. Assumes nothing.
use mathlib.Core.Path.{◌≡◌, refl, sym, ap, ◌∙◌}
use mathlib.Core.Bool.{Bool, true, false, true≢false, cond}
use mathlib.Core.List.{List, [], ◌∷◌, map}
use Prim.Native.Nat.{ℕ, ◌+◌, ◌-◌, ◌<◌}
use native.Mathlib.Nat.{mod-eq_of_lt}
use native.Mathlib.Omega.{arith}
use lib.Dec.{ltb}
use lib.IntN.{ℤ, pos}
use lib.ListN.{length, drop, length-replicate}
use lib.Seq.{take_at}
use Rattle.fixed.specs.Integers.{low_bits, bits_of}
use Rattle.pen.specs.Records.{written}
use Rattle.words.specs.Answers.{Answer, number_of, place_of, first_of, refuses}
use Rattle.run.specs.Room.{Fitted, fitted}
use Rattle.run.proofs.Bounds.{within-room}
use Rattle.script.specs.Script.{check_rows, steps_in, result_words, left_by, result_by, script_of}
use Rattle.hint.specs.Encode.{answer_words, result_in, lent, program_words}

-- an output with a result of fewer than 2^32 record words holds that result
result-held : (ws out : List ℤ) → length ws < 4294967296 → result_in (written (result_words ws) out) ≡ result_words ws
unfolding result_in written low_bits
result-held ws out h =
    let n : 4 + length ws ≡ length (result_words ws) = omega arith in
    rw (mod-eq_of_lt h) (take_at (result_words ws) (drop (length (result_words ws)) out) (4 + length ws) (sym n))

-- where a script is not refused, its output has the result of its records
module _ (s : List ℕ) (out : List ℤ) where
  abbrev fit : Fitted
  fit = fitted (length out - 4) (steps_in s)

  ok-left : refuses (script_of s out).answer ≡ false → (script_of s out).left ≡ written (result_words fit.words) out
  unfolding script_of
  ok-left e = go (refuses (first_of (check_rows s))) (ltb (length out) 4) refl e
    where
      go : (b small : Bool) → refuses (first_of (check_rows s)) ≡ b → refuses (result_by b small s out).answer ≡ false →
          (result_by b small s out).left ≡ written (result_words fit.words) out
      go true small f r = absurd (true≢false (sym f ∙ r))
      go false true f r = absurd (true≢false r)
      go false false f r = ap (λ (b : Bool). left_by b fit.words out) r

-- an answer's words go by its result only where it is not refused
same-words : (a : Answer) (r q : List ℤ) → (refuses a ≡ false → r ≡ q) → answer_words a r ≡ answer_words a q
unfolding answer_words
same-words a r q f = go (refuses a) refl
  where
    go : (b : Bool) → refuses a ≡ b →
        ◌≡◌ {A = List ℕ} (number_of a ∷ place_of a ∷ cond b [] (map bits_of r))
        (number_of a ∷ place_of a ∷ cond b [] (map bits_of q))
    go true e = refl
    go false e = ap (λ (l : List ℤ). number_of a ∷ place_of a ∷ map bits_of l) (f e)

-- so the words of the answer are the program's
pub program-words : (s : List ℕ) →
    answer_words (script_of s lent).answer (result_in (script_of s lent).left) ≡ program_words s
unfolding program_words
program-words s = same-words (script_of s lent).answer _ _ held
  where
    room : length lent - 4 ≡ 16380
    room = ap (λ (n : ℕ). n - 4) (length-replicate 16384 (pos 0))

    few : length (fitted (length lent - 4) (steps_in s)).words < 4294967296
    few = omega (arith, within-room (length lent - 4) (steps_in s), room)

    held : refuses (script_of s lent).answer ≡ false →
        result_in (script_of s lent).left ≡ result_words (fitted 16380 (steps_in s)).words
    held e =
        ap result_in (ok-left s lent e) ∙ result-held (fitted (length lent - 4) (steps_in s)).words lent few ∙
        ap (λ (n : ℕ). result_words (fitted n (steps_in s)).words) room
