-- Laws of the words of a script: those of its rest, and so many from one on. Assumes nothing.
use mathlib.Core.Path.{◌≡◌, refl, ap, ◌∙◌}
use mathlib.Core.List.{List, [], ◌∷◌, ◌++◌}
use Prim.Native.Nat.{ℕ, zero, suc, ◌+◌, ◌-◌, ◌*◌, ◌≤◌, ◌<◌}
use native.Mathlib.Omega.{arith}
use lib.ListN.{length, take, drop}
use lib.Seq.{get_or-drop, take_at, drop_at}
use Rattle.words.specs.Words.{raw_at, words_from}

-- a word of the rest of a script
pub raw-drop : (s : List ℕ) (b i : ℕ) → raw_at (drop (4 * b) s) i ≡ raw_at s (b + i)
unfolding raw_at
raw-drop s b i =
    let e : 4 * b + 4 * i ≡ 4 * (b + i) = omega arith in
    let e1 : 4 * b + (4 * i + 1) ≡ 4 * (b + i) + 1 = omega arith in
    let e2 : 4 * b + (4 * i + 2) ≡ 4 * (b + i) + 2 = omega arith in
    let e3 : 4 * b + (4 * i + 3) ≡ 4 * (b + i) + 3 = omega arith in
    simp (get_or-drop, e, e1, e2, e3)

-- ---- so many words from one on, whatever gives them
module _ (w : ℕ → ℕ) where
  -- n words from one on are n
  pub from-length : (i n : ℕ) → length (words_from w i n) ≡ n
  unfolding words_from
  from-length i zero = refl
  from-length i (suc n) = ap suc (from-length (i + 1) n)

  -- the first of them
  pub words-first : (i n : ℕ) → 0 < n → words_from w i n ≡ w i ∷ words_from w (i + 1) (n - 1)
  unfolding words_from
  words-first i n h =
      let e : n ≡ suc (n - 1) = omega arith in
      ap (words_from w i) e

  -- some of them, and those behind
  pub words-split : (i m n : ℕ) → words_from w i (m + n) ≡ words_from w i m ++ words_from w (i + m) n
  unfolding words_from
  words-split i zero n =
      let e : 0 + n ≡ n = omega arith in
      let f : i ≡ i + 0 = omega arith in
      ap (words_from w i) e ∙ ap (λ (k : ℕ). words_from w k n) f
  words-split i (suc m) n =
      let e : suc m + n ≡ suc (m + n) = omega arith in
      let f : i + 1 + m ≡ i + suc m = omega arith in
      ap (words_from w i) e ∙
      ap (λ (l : List ℕ). w i ∷ l)
      (words-split (i + 1) m n ∙ ap (λ (k : ℕ). words_from w (i + 1) m ++ words_from w k n) f)

  -- one more
  pub words_more : (i n : ℕ) → words_from w i (n + 1) ≡ words_from w i n ++ (w (i + n) ∷ [])
  unfolding words_from
  words_more i n = words-split i n 1

  -- the first m of n, and those behind
  words-apart : (i m n : ℕ) → m ≤ n → words_from w i n ≡ words_from w i m ++ words_from w (i + m) (n - m)
  words-apart i m n h =
      let e : n ≡ m + (n - m) = omega arith in
      ap (words_from w i) e ∙ words-split i m (n - m)

  -- so the first m
  pub words-taken : (i m n : ℕ) → m ≤ n → take m (words_from w i n) ≡ words_from w i m
  words-taken i m n h =
      ap (take m) (words-apart i m n h) ∙
      take_at (words_from w i m) (words_from w (i + m) (n - m)) m (from-length i m)

  -- and those behind them
  pub words_left : (i m n : ℕ) → m ≤ n → drop m (words_from w i n) ≡ words_from w (i + m) (n - m)
  words_left i m n h =
      ap (drop m) (words-apart i m n h) ∙
      drop_at (words_from w i m) (words_from w (i + m) (n - m)) m (from-length i m)
