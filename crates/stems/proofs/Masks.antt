-- Laws of masks: the mask of all stems, a stem cleared, and when two masks are the same. Assumes
-- nothing.
use mathlib.Core.Path.{◌≡◌, refl, sym, ap}
use mathlib.Core.Bool.{Bool, true, false, cond, ◌&&◌, true≢false}
use mathlib.Core.List.{List, [], ◌∷◌}
use Prim.Native.Nat.{ℕ, zero, suc, ◌-◌, ◌/◌, ◌%◌, ◌^◌, ◌<◌, ◌≤◌}
use native.Mathlib.Nat.{le-div_iff_mul-le, div-eq-sub-div, div-div-eq-div-mul, div-one, pow-succ'}
use native.Mathlib.Omega.{arith}
use lib.Dec.{eqb}
use lib.ListN.{length, get_or}
use lib.Pow.{pow_pos}
use lib.Seq.{get_or-set_same, get_or-set_other}
use borrow.Author.Tests.{eqb-true, eqb-false, eq-eqb}
use Rattle.fixed.proofs.Tests.{both}
use Rattle.stems.specs.declared.mask.HintMask.{HintMask}
use Rattle.stems.specs.Mask.{of_bytes, all_active, is_active, cleared, without, same_mask, same_bytes, byte_of, weight}

-- Whether a test passes at each number below n.
abbrev pub up_to : (ℕ → Bool) → ℕ → Bool
up_to f zero = true
up_to f (suc n) = f 0 && up_to (λ (k : ℕ). f (suc k)) n

-- What passes at each number below n passes at one.
pub passes : (f : ℕ → Bool) (n : ℕ) → up_to f n ≡ true → (k : ℕ) → k < n → f k ≡ true
passes f zero e k h = absurd (omega arith)
passes f (suc n) e zero h = (both _ _ e).0
passes f (suc n) e (suc k) h = passes (λ (j : ℕ). f (suc j)) n (both (f 0) _ e).1 k (omega arith)

-- Every stem of the full mask is active.
pub all-on : (i : ℕ) → i < 96 → is_active all_active i ≡ true
unfolding is_active
all-on i h = passes (is_active all_active) 96 refl i h

-- A number is at least the weight of each of its bits.
holds : (b k : ℕ) → b / 2 ^ k % 2 ≡ 1 → 2 ^ k ≤ b
holds b k e =
    let o : 1 ≤ b / 2 ^ k = omega arith in
    omega (arith, (le-div_iff_mul-le {x = 1} {y = b} (pow_pos k)).0 o)

-- The byte of an active stem is at least the stem's weight.
pub active-holds : (m : HintMask) (i : ℕ) → is_active m i ≡ true → weight i ≤ byte_of m i
unfolding is_active
active-holds m i e = holds _ _ (eqb-true _ _ e)

-- A number less the weight of one of its bits lacks that bit ..
own-bit : (b k : ℕ) → b / 2 ^ k % 2 ≡ 1 → (b - 2 ^ k) / 2 ^ k % 2 ≡ 0
own-bit b k e = omega (arith, div-eq-sub-div (pow_pos k) (holds b k e))

halved : (b k : ℕ) → b / 2 ^ suc k ≡ b / 2 / 2 ^ k
halved b k = rw pow-succ' (sym (div-div-eq-div-mul b 2 (2 ^ k)))

-- .. and keeps the others.
other-bit : (b l k : ℕ) → (l ≡ k → ⊥) → b / 2 ^ l % 2 ≡ 1 → (b - 2 ^ l) / 2 ^ k % 2 ≡ b / 2 ^ k % 2
other-bit b zero zero n e = absurd (n refl)
other-bit b zero (suc k) n e =
    let o : b % 2 ≡ 1 = rw div-one at e in
    let d : (b - 1) / 2 ≡ b / 2 = omega arith in
    rw (halved (b - 1) k, halved b k, d)
other-bit b (suc l) zero n e =
    let h = holds b (suc l) e in
    let p = pow-succ' 2 l in
    rw (div-one, div-one) (omega arith)
other-bit b (suc l) (suc k) n e =
    let h = holds b (suc l) e in
    let p = pow-succ' 2 l in
    let d : (b - 2 ^ suc l) / 2 ≡ b / 2 - 2 ^ l = omega arith in
    rw (halved (b - 2 ^ suc l) k, halved b k, d) (other-bit (b / 2) l k (λ q. n (ap suc q)) (rw (halved b l) at e))

inside : (xs : List ℕ) (n : ℕ) → 0 < get_or xs n 0 → n < length xs
inside [] n h = omega arith
inside (x ∷ xs) zero h = omega arith
inside (x ∷ xs) (suc n) h = omega (arith, inside xs n h)

-- The bytes of a mask have an active stem's bit among them ..
pub active-inside : (m : HintMask) (i : ℕ) → is_active m i ≡ true → i / 8 < length m.bytes
active-inside m i e = inside m.bytes (i / 8) (omega (arith, active-holds m i e, pow_pos (7 - i % 8)))

-- .. so no stem past them is active.
pub past_off : (m : HintMask) (i : ℕ) → length m.bytes ≤ i / 8 → is_active m i ≡ false
past_off m i h = go (is_active m i) refl
  where
    go : (t : Bool) → is_active m i ≡ t → t ≡ false
    go true e = absurd (omega (arith, active-inside m i e))
    go false e = refl

off : (m : HintMask) (i : ℕ) (t : Bool) → is_active m i ≡ t → is_active (cond t (without m i) m) i ≡ false
unfolding is_active
off m i false e = e
off m i true e =
    rw (
      get_or-set_same m.bytes (i / 8) (byte_of m i - weight i) 0 (active-inside m i e),
      own-bit (byte_of m i) (7 - i % 8) (eqb-true _ _ e),
    )

-- A cleared stem is not active.
pub clear-off : (m : HintMask) (i : ℕ) → is_active (cleared m i) i ≡ false
unfolding cleared
clear-off m i = off m i (is_active m i) refl

kept : (m : HintMask) (i j : ℕ) → (i ≡ j → ⊥) → is_active m i ≡ true → (t : Bool) → eqb (j / 8) (i / 8) ≡ t →
    is_active (without m i) j ≡ is_active m j
unfolding is_active
kept m i j n e true q =
    let p = eqb-true (j / 8) (i / 8) q in
    let differ : 7 - i % 8 ≡ 7 - j % 8 → ⊥ = λ r. n (omega arith) in
    rw (
      p,
      get_or-set_same m.bytes (i / 8) (byte_of m i - weight i) 0 (active-inside m i e),
      other-bit (byte_of m i) (7 - i % 8) (7 - j % 8) differ (eqb-true _ _ e),
    )
kept m i j n e false q = rw (get_or-set_other m.bytes (i / 8) (j / 8) (byte_of m i - weight i) 0 (eqb-false _ _ q))

keeps : (m : HintMask) (i j : ℕ) → (i ≡ j → ⊥) → (t : Bool) → is_active m i ≡ t →
    is_active (cond t (without m i) m) j ≡ is_active m j
keeps m i j n false e = refl
keeps m i j n true e = kept m i j n e (eqb (j / 8) (i / 8)) refl

-- Every other stem stays as it was.
pub clear-keeps : (m : HintMask) (i j : ℕ) → (i ≡ j → ⊥) → is_active (cleared m i) j ≡ is_active m j
unfolding cleared
clear-keeps m i j n = keeps m i j n (is_active m i) refl

bytes-are : (xs ys : List ℕ) → same_bytes xs ys ≡ true → xs ≡ ys
unfolding same_bytes
bytes-are [] [] e = refl
bytes-are [] (y ∷ ys) e = absurd (true≢false (sym e))
bytes-are (x ∷ xs) [] e = absurd (true≢false (sym e))
bytes-are (x ∷ xs) (y ∷ ys) e =
    rw (eqb-true x y (both _ _ e).0, bytes-are xs ys (both (eqb x y) _ e).1)

are-bytes : (xs : List ℕ) → same_bytes xs xs ≡ true
unfolding same_bytes
are-bytes [] = refl
are-bytes (x ∷ xs) = rw (eq-eqb x x refl) (are-bytes xs)

-- Masks that test the same are equal.
pub same-is : (m n : HintMask) → same_mask m n ≡ true → m ≡ n
same-is m n e = ap of_bytes (bytes-are m.bytes n.bytes e)

-- Equal masks test the same.
pub is_same : (m n : HintMask) → m ≡ n → same_mask m n ≡ true
is_same m n p = rw p (are-bytes n.bytes)
