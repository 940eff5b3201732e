-- Laws of the words of an answer. Assumes nothing.
use mathlib.Core.Path.{◌≡◌, refl, ap, ◌∙◌}
use mathlib.Core.List.{List, [], ◌∷◌, map}
use Prim.Native.Nat.{ℕ, ◌+◌, ◌*◌, ◌≤◌, ◌<◌}
use native.Mathlib.Omega.{arith}
use lib.IntN.{ℤ, pos}
use lib.ListN.{length, take, drop, get_or, length-append, length-take}
use borrow.Author.Tests.{eq-eqb, ne_eqb}
use Rattle.fixed.specs.Integers.{bits_of}
use Rattle.fixed.proofs.Counts.{take-least}
use Rattle.words.specs.Answers.{Answer, number_of, place_of}
use Rattle.words.specs.Bytes.{bytes_of, laid}
use Rattle.words.proofs.Laid.{bytes-length}
use Rattle.hint.specs.Encode.{answer_words, result_in, Answered}

-- number and place are the whole answer where it refuses, and the result is behind them where it
-- does not
pub refused-words : (a : Answer) (result : List ℤ) → 0 < number_of a → answer_words a result ≡ number_of a ∷ place_of a
    ∷ []
unfolding answer_words
refused-words a result h = rw (ne_eqb (number_of a) 0 (omega arith))

pub ok-words : (a : Answer) (result : List ℤ) → number_of a ≡ 0 →
    answer_words a result ≡ number_of a ∷ place_of a ∷ map bits_of result
unfolding answer_words
ok-words a result h = rw (eq-eqb (number_of a) 0 h)

-- the result is the first words of the output
pub result-taken : (out : List ℤ) → take (length (result_in out)) out ≡ result_in out
unfolding result_in
result-taken out =
    let k = 4 + bits_of (get_or out 3 (pos 0)) in
    ap (λ (n : ℕ). take n out) (length-take k out) ∙ take-least k (length out) out refl

pub result-short : (out : List ℤ) → length (result_in out) ≤ length out
unfolding result_in
result-short out = omega (arith, length-take (4 + bits_of (get_or out 3 (pos 0))) out)

-- what is answered counts no more bytes than there are
pub answered-within : {ws bytes left : List ℕ} {count : ℕ} → Answered ws bytes count left → count ≤ length left
unfolding laid
answered-within {ws} {bytes} a =
    omega (
      arith,
      a.number,
      ap length a.memory,
      bytes-length ws,
      length-append (bytes_of ws) (drop (4 * 0 + 4 * length ws) bytes),
    )
