-- Numbers and their bits, words below 2^32 and their bytes: each comes out of the other, wherever it
-- stands. Assumes nothing.
use mathlib.Core.Path.{◌≡◌, refl, subst, sym, ap, ◌∙◌}
use mathlib.Core.Bool.{Bool, true, false}
use mathlib.Core.List.{List, [], ◌∷◌, ◌++◌, map}
use Prim.Native.Nat.{ℕ, zero, suc, ◌+◌, ◌*◌, ◌/◌, ◌%◌, ◌^◌, ◌≤◌, ◌<◌}
use native.Mathlib.Omega.{arith}
use lib.Dec.{leb}
use lib.IntN.{ℤ, pos}
use lib.ListN.{length, take, drop, get_or, get_or-eq_default}
use lib.Seq.{drop-drop}
use borrow.Author.Tests.{leb-true, leb-false}
use mir.Syntax.{w32}
use mir.Val.{SFits}
use Rattle.fixed.specs.Integers.{bits_of, signed, wrap32}
use Rattle.fixed.proofs.Bits.{wrap-id, low-lt}
use Rattle.words.specs.Words.{raw_at, words_from}
use Rattle.words.specs.Bytes.{word_bytes, bytes_of}
use Rattle.words.proofs.Words.{raw-drop}
use Rattle.writer.proofs.Cutting.{rest_at}
use Rattle.writer.proofs.Laying.{signed-bits}
use Rattle.round_trips.specs.RoundTrips.{Bytes}

-- ---- words below 2^32
abbrev pub Small : List ℕ → Type 0
Small [] = Unit {0}
Small (n ∷ ns) = (n < 2 ^ 32) × Small ns

-- of two lists
pub small-both : (ns ms : List ℕ) → Small ns → Small ms → Small (ns ++ ms)
small-both [] ms a b = b
small-both (n ∷ ns) ms a b = (a.0, small-both ns ms a.1 b)

-- so of the first of two lists
pub small-front : (ns ms : List ℕ) → Small (ns ++ ms) → Small ns
small-front [] ms a = tt
small-front (n ∷ ns) ms a = (a.0, small-front ns ms a.1)

-- and of the second
pub small-back : (ns ms : List ℕ) → Small (ns ++ ms) → Small ms
small-back [] ms a = a
small-back (n ∷ ns) ms a = small-back ns ms a.1

-- the bits of numbers
pub bits_small : (zs : List ℤ) → Small (map bits_of zs)
bits_small [] = tt
bits_small (z ∷ zs) = (low-lt 32 z, bits_small zs)

-- n words from word i on, where all are
pub from-small : (w : ℕ → ℕ) → ((j : ℕ) → w j < 2 ^ 32) → (i n : ℕ) → Small (words_from w i n)
unfolding words_from
from-small w h i zero = tt
from-small w h i (suc n) = (h i, from-small w h (i + 1) n)

-- ---- bits
-- those of a number of 32 bits, read as signed, are the number
pub number-back : (z : ℤ) → SFits w32 z → signed (bits_of z) ≡ z
unfolding wrap32
number-back z h = wrap-id z h

-- and so of all of a list
pub numbers-back : (zs : List ℤ) → ((i : ℕ) → i < length zs → SFits w32 (get_or zs i (pos 0))) →
    map signed (map bits_of zs) ≡ zs
numbers-back [] h = refl
numbers-back (z ∷ zs) h = rw (number-back z (h 0 (omega arith)), numbers-back zs (λ i l. h (suc i) (omega arith)))

-- words below 2^32, read as signed, have their bits
pub all-bits : (ws : List ℕ) → Small ws → map bits_of (map signed ws) ≡ ws
all-bits [] h = refl
all-bits (w ∷ ws) h = rw (signed-bits w h.0, all-bits ws h.1)

-- ---- words out of bytes
-- a word is made of its four bytes
word_sum : (n : ℕ) → n < 2 ^ 32 →
    n % 256 + n / 256 % 256 * 256 + n / 65536 % 256 * 65536 + n / 16777216 % 256 * 16777216 ≡ n
word_sum n h =
    let a : n / 256 / 256 ≡ n / 65536 = omega arith in
    let b : n / 65536 / 256 ≡ n / 16777216 = omega arith in
    let d : n / 16777216 % 256 ≡ n / 16777216 = omega arith in
    let e : n / 65536 ≡ n / 16777216 * 256 + n / 65536 % 256 = omega arith in
    let f : n / 256 ≡ n / 65536 * 256 + n / 256 % 256 = omega arith in
    omega arith

-- so it is the first word of bytes that begin with them
word_first : (n : ℕ) (rest : List ℕ) → n < 2 ^ 32 → raw_at (word_bytes n ++ rest) 0 ≡ n
unfolding raw_at
word_first n rest h = word_sum n h

-- these words, from word i on
abbrev pub Holds : (ℕ → ℕ) → ℕ → List ℕ → Type 0
Holds w i [] = Unit {0}
Holds w i (n ∷ ns) = (w i ≡ n) × Holds w (i + 1) ns

-- the first of two lists stands where both do
pub holds-front : (w : ℕ → ℕ) (i : ℕ) (ns ms : List ℕ) → Holds w i (ns ++ ms) → Holds w i ns
holds-front w i [] ms a = tt
holds-front w i (n ∷ ns) ms a = (a.0, holds-front w (i + 1) ns ms a.1)

-- and the second behind it
pub holds-back : (w : ℕ → ℕ) (i j : ℕ) (ns ms : List ℕ) → i + length ns ≡ j → Holds w i (ns ++ ms) → Holds w j ms
holds-back w i j [] ms e a = let f : i ≡ j = omega arith in subst (λ (k : ℕ). Holds w k ms) f a
holds-back w i j (n ∷ ns) ms e a = holds-back w (i + 1) j ns ms (omega arith) a.1

-- where other words are these from word d on
pub holds-moved : (v w : ℕ → ℕ) (d : ℕ) → ((j : ℕ) → v j ≡ w (d + j)) → (i : ℕ) (ns : List ℕ) → Holds w (d + i) ns →
    Holds v i ns
holds-moved v w d same i [] h = tt
holds-moved v w d same i (n ∷ ns) h =
    let e : d + i + 1 ≡ d + (i + 1) = omega arith in
    (same i ∙ h.0, holds-moved v w d same (i + 1) ns (rw e at h.1))

-- words that stand from word i on are so many words from there on
pub words-held : (w : ℕ → ℕ) (i : ℕ) (ns : List ℕ) → Holds w i ns → words_from w i (length ns) ≡ ns
unfolding words_from
words-held w i [] h = refl
words-held w i (n ∷ ns) h = rw h.0 (ap (λ (l : List ℕ). n ∷ l) (words-held w (i + 1) ns h.1))

-- words come out of their own bytes, from word i on
pub words-there : (b : List ℕ) (i : ℕ) (ns rest : List ℕ) → drop (4 * i) b ≡ bytes_of ns ++ rest → Small ns →
    Holds (raw_at b) i ns
unfolding bytes_of
words-there b i [] rest e s = tt
words-there b i (n ∷ ns) rest e s =
    let z : i + 0 ≡ i = omega arith in
    let f : 4 * i + 4 ≡ 4 * (i + 1) = omega arith in
    let here : raw_at (drop (4 * i) b) 0 ≡ n = rw e (word_first n (bytes_of ns ++ rest) s.0) in
    let behind : drop (4 * (i + 1)) b ≡ bytes_of ns ++ rest =
    ap (λ (k : ℕ). drop k b) (sym f) ∙ sym (drop-drop 4 (4 * i) b) ∙ ap (drop 4) e in
    (ap (raw_at b) (sym z) ∙ sym (raw-drop b i 0) ∙ here, words-there b (i + 1) ns rest behind s.1)

-- ---- bytes out of words
-- four bytes are those of the word that they make
sum-word : (a b c d : ℕ) → a < 256 → b < 256 → c < 256 → d < 256 →
    word_bytes (a + b * 256 + c * 65536 + d * 16777216) ≡ a ∷ b ∷ c ∷ d ∷ []
sum-word a b c d f g h k =
    let n = a + b * 256 + c * 65536 + d * 16777216 in
    let p : n % 256 ≡ a = omega arith in
    let q : n / 256 ≡ b + c * 256 + d * 65536 = omega arith in
    let r : n / 65536 ≡ c + d * 256 = omega arith in
    let t : n / 16777216 ≡ d = omega arith in
    let u : (b + c * 256 + d * 65536) % 256 ≡ b = omega arith in
    let v : (c + d * 256) % 256 ≡ c = omega arith in
    let w : d % 256 ≡ d = omega arith in
    rw (p, q, r, t, u, v, w)

-- the four at a place, and the rest
four-at : (k : ℕ) (l : List ℕ) → k + 4 ≤ length l →
    drop k l ≡ get_or l k 0 ∷ get_or l (k + 1) 0 ∷ get_or l (k + 2) 0 ∷ get_or l (k + 3) 0 ∷ drop (k + 4) l
four-at k l h =
    let p : k + 1 + 1 ≡ k + 2 = omega arith in
    let q : k + 2 + 1 ≡ k + 3 = omega arith in
    let r : k + 3 + 1 ≡ k + 4 = omega arith in
    rw (
      rest_at l k (omega arith),
      rest_at l (k + 1) (omega arith),
      p,
      rest_at l (k + 2) (omega arith),
      q,
      rest_at l (k + 3) (omega arith),
      r,
    )

module _ (s : List ℕ) (held : Bytes s) where
  -- past the end is 0
  byte : (i : ℕ) → get_or s i 0 < 256
  byte i = go (leb (length s) i) refl
    where
      go : (b : Bool) → leb (length s) i ≡ b → get_or s i 0 < 256
      go true e = let z = get_or-eq_default s 0 (leb-true (length s) i e) in omega arith
      go false e = held i (leb-false (length s) i e)

  -- a word is below 2^32
  pub word_small : (i : ℕ) → raw_at s i < 2 ^ 32
  unfolding raw_at
  word_small i = omega (arith, byte (4 * i), byte (4 * i + 1), byte (4 * i + 2), byte (4 * i + 3))

  -- the bytes of some words are those that they are made of
  pub bytes-from : (i n : ℕ) → 4 * (i + n) ≤ length s →
      bytes_of (words_from (raw_at s) i n) ≡ take (4 * n) (drop (4 * i) s)
  unfolding bytes_of words_from raw_at
  bytes-from i zero h = refl
  bytes-from i (suc n) h =
      let e : 4 * suc n ≡ suc (suc (suc (suc (4 * n)))) = omega arith in
      let d : 4 * i + 4 ≡ 4 * (i + 1) = omega arith in
      let b = sum-word _ _ _ _ (byte (4 * i)) (byte (4 * i + 1)) (byte (4 * i + 2)) (byte (4 * i + 3)) in
      ap (λ (l : List ℕ). l ++ bytes_of (words_from (raw_at s) (i + 1) n)) b ∙
      rw (bytes-from (i + 1) n (omega arith), e, four-at (4 * i) s (omega arith), d)
