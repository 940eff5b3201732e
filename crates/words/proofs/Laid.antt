-- Laws of words laid over bytes: four stores lay one, those behind others are laid behind them, and
-- no byte is lost. Assumes nothing.
use mathlib.Core.Path.{◌≡◌, refl, sym, ap, ◌∙◌}
use mathlib.Core.List.{List, [], ◌∷◌, ◌++◌, map, map-append}
use Prim.Native.Nat.{ℕ, zero, suc, ◌+◌, ◌*◌, ◌/◌, ◌%◌, ◌≤◌, ◌<◌}
use native.Mathlib.Numerals.{add-one}
use native.Mathlib.Nat.{div-add-mod'}
use native.Mathlib.Omega.{arith}
use lib.IntN.{ℤ, pos}
use lib.ListN.{length, take, drop, set, get_or, length-map}
use lib.Seq.{length-take-le, take-suc}
use Rattle.fixed.specs.Integers.{bits_of}
use Rattle.words.specs.Bytes.{word_bytes, bytes_of, placed, laid}
use Rattle.words.proofs.Placing.{placed-none, placed-length, placed-behind}

-- ---- four bytes a word
pub bytes-length : (ws : List ℕ) → length (bytes_of ws) ≡ 4 * length ws
unfolding bytes_of
bytes-length [] = refl
bytes-length (w ∷ ws) = omega (arith, bytes-length ws)

pub bytes-append : (ws vs : List ℕ) → bytes_of (ws ++ vs) ≡ bytes_of ws ++ bytes_of vs
unfolding bytes_of
bytes-append [] vs = refl
bytes-append (w ∷ ws) vs = ap (λ (l : List ℕ). word_bytes w ++ l) (bytes-append ws vs)

-- ---- one word, by four stores
stores : (n : ℕ) (b : List ℕ) (x y z w : ℕ) → n + 4 ≤ length b →
    set (set (set (set b n x) (n + 1) y) (n + 2) z) (n + 3) w ≡ take n b ++ (x ∷ y ∷ z ∷ w ∷ drop (n + 4) b)
stores zero [] x y z w h = absurd (omega arith)
stores zero (a ∷ []) x y z w h = absurd (omega arith)
stores zero (a ∷ c ∷ []) x y z w h = absurd (omega arith)
stores zero (a ∷ c ∷ d ∷ []) x y z w h = absurd (omega arith)
stores zero (a ∷ c ∷ d ∷ e ∷ r) x y z w h = refl
stores (suc n) [] x y z w h = absurd (omega arith)
stores (suc n) (a ∷ b) x y z w h =
    let p : suc n + 1 ≡ suc (n + 1) = omega arith in
    let q : suc n + 2 ≡ suc (n + 2) = omega arith in
    let r : suc n + 3 ≡ suc (n + 3) = omega arith in
    let s : suc n + 4 ≡ suc (n + 4) = omega arith in
    rw (p, q, r, s) (ap (λ (l : List ℕ). a ∷ l) (stores n b x y z w (omega arith)))

pub store_laid : (b : List ℕ) (i w : ℕ) → 4 * i + 4 ≤ length b →
    set (set (set (set b (4 * i) (w % 256)) (4 * i + 1) (w / 256 % 256)) (4 * i + 2) (w / 65536 % 256)) (4 * i + 3)
    (w / 16777216 % 256) ≡ laid b i (w ∷ [])
unfolding laid bytes_of
store_laid b i w h = stores (4 * i) b _ _ _ _ h

-- ---- some words are laid as their bytes are placed
laid-placed : (b : List ℕ) (i : ℕ) (ws : List ℕ) → laid b i ws ≡ placed b (4 * i) (bytes_of ws)
unfolding laid placed
laid-placed b i ws = rw (bytes-length ws)

module _ (b : List ℕ) (i : ℕ) (ws : List ℕ) (h : 4 * i + 4 * length ws ≤ length b) where
  room : 4 * i + length (bytes_of ws) ≤ length b
  room = omega (arith, bytes-length ws)

  pub laid-length : length (laid b i ws) ≡ length b
  laid-length = ap length (laid-placed b i ws) ∙ placed-length b (4 * i) (bytes_of ws) room

  -- words behind others
  pub laid-behind : (vs : List ℕ) (j : ℕ) → j ≡ i + length ws → laid (laid b i ws) j vs ≡ laid b i (ws ++ vs)
  laid-behind vs j e =
      laid-placed (laid b i ws) j vs ∙
      ap (λ (x : List ℕ). placed x (4 * j) (bytes_of vs)) (laid-placed b i ws) ∙
      placed-behind b (4 * i) (bytes_of ws) room (bytes_of vs) (4 * j) (omega (arith, bytes-length ws)) ∙
      ap (placed b (4 * i)) (sym (bytes-append ws vs)) ∙
      sym (laid-placed b i (ws ++ vs))

-- no words leave the bytes as they are
pub laid_none : (b : List ℕ) (i : ℕ) → laid b i [] ≡ b
unfolding bytes_of
laid_none b i = laid-placed b i [] ∙ placed-none b (4 * i)

-- ---- the first words of an output, as bits
pub words-length : (out : List ℤ) (i : ℕ) → i ≤ length out → length (map bits_of (take i out)) ≡ i
words-length out i h = length-map (take i out) bits_of ∙ length-take-le i out h

pub one_more : (out : List ℤ) (i : ℕ) → i < length out →
    map bits_of (take (i + 1) out) ≡ map bits_of (take i out) ++ (bits_of (get_or out i (pos 0)) ∷ [])
one_more out i h = rw (add-one, take-suc out i (pos 0) h) (map-append bits_of (take i out) (get_or out i (pos 0) ∷ []))

-- ---- the bytes of a word are those of its low 32 bits
module _ (q r : ℕ) where
  first : (q * 4294967296 + r) % 256 ≡ r % 256
  first = omega arith

  second : (q * 4294967296 + r) / 256 % 256 ≡ r / 256 % 256
  second = let e : (q * 4294967296 + r) / 256 ≡ q * 16777216 + r / 256 = omega arith in omega (arith, e)

  third : (q * 4294967296 + r) / 65536 % 256 ≡ r / 65536 % 256
  third = let e : (q * 4294967296 + r) / 65536 ≡ q * 65536 + r / 65536 = omega arith in omega (arith, e)

  fourth : (q * 4294967296 + r) / 16777216 % 256 ≡ r / 16777216 % 256
  fourth = let e : (q * 4294967296 + r) / 16777216 ≡ q * 256 + r / 16777216 = omega arith in omega (arith, e)

  high-bytes : word_bytes (q * 4294967296 + r) ≡ word_bytes r
  high-bytes = rw (first, second, third, fourth)

low-bytes : (n : ℕ) → word_bytes (n % 4294967296) ≡ word_bytes n
low-bytes n = sym (high-bytes (n / 4294967296) (n % 4294967296)) ∙ ap word_bytes (div-add-mod' n 4294967296)

pub low-laid : (b : List ℕ) (i n : ℕ) → laid b i (n % 4294967296 ∷ []) ≡ laid b i (n ∷ [])
unfolding laid bytes_of
low-laid b i n = ap (λ (l : List ℕ). take (4 * i) b ++ ((l ++ []) ++ drop (4 * i + 4 * 1) b)) (low-bytes n)
