-- Laws of what an input asks for: its words, and all that is given by them. Assumes nothing.
use mathlib.Core.Path.{◌≡◌, refl, ap}
use mathlib.Core.List.{List, ◌∷◌, map}
use Prim.Native.Nat.{ℕ, zero, suc, ◌+◌, ◌*◌, ◌≤◌}
use native.Mathlib.Omega.{arith}
use lib.IntN.{ℤ}
use lib.ListN.{take, drop}
use Rattle.fixed.specs.declared.Fixed.{Fixed}
use Rattle.fixed.specs.Integers.{signed}
use Rattle.zones.specs.declared.state.HintParams.{HintParams}
use Rattle.words.specs.Words.{raw_at, number_at, words_from}
use Rattle.writer.specs.ToWrite.{given}
use Rattle.writer.specs.ParamWords.{params_in}
use Rattle.assemble.specs.Asked.{asked_by}

module _ (b : List ℕ) where
  -- n words from word i on
  abbrev words : ℕ → ℕ → List ℤ
  words i n = map signed (words_from (raw_at b) i n)

  -- the first n of m
  first-words : (i n m : ℕ) → n ≤ m → take n (words i m) ≡ words i n
  unfolding words_from
  first-words i zero m h = refl
  first-words i (suc n) zero h = absurd (omega arith)
  first-words i (suc n) (suc m) h =
      ap (λ (l : List ℤ). signed (raw_at b i) ∷ l) (first-words (i + 1) n m (omega arith))

  -- what is given is what is asked for
  pub given-asked : (n m : ℕ) {scale : Fixed} {params : HintParams} {ps cs ws : List ℤ} {ms : List ℕ} →
      scale ≡ number_at (raw_at b) 0 → params ≡ params_in ps → ps ≡ words 1 64 → ws ≡ words 67 16384 →
      n ≤ 16384 → cs ≡ take n ws → ms ≡ take m (drop (4 * (67 + n)) b) →
      given scale params cs ms ≡ asked_by b n m
  given-asked n m s p q w h c k = cc (first-words 67 n 16384 h)
