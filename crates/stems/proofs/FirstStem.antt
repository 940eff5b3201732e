-- The first active stem of a mask: what is known of it, and how a search goes through the mask's bytes.
-- Assumes nothing.
use mathlib.Core.Path.{◌≡◌, refl, sym, ap, ◌∙◌}
use mathlib.Core.Bool.{Bool, true, false, cond, not, true≢false}
use mathlib.Core.List.{[], ◌∷◌}
use mathlib.Core.Logic.{⊎_elim}
use Prim.Native.Nat.{ℕ, zero, suc, ◌+◌, ◌-◌, ◌*◌, ◌/◌, ◌%◌, ◌^◌, ◌<◌, ◌≤◌}
use native.Mathlib.Nat.{eq-or-lt_of_le, eq-zero-or-pos, div-eq_of_lt, div-eq_of_lt-le, pow-succ'}
use native.Mathlib.Omega.{arith}
use lib.Count.{count_leading_zeros, leading_of_zero, leading_top}
use lib.Dec.{eqb, ltb}
use lib.ListN.{length, get_or}
use lib.Pow.{pow_mono, pow_pos}
use borrow.Author.Tests.{ltb-true, ltb-false}
use Rattle.std.proofs.Common.{None, Some}
use Rattle.std.proofs.lemmas.Grind.{common_steps}
use Rattle.std.proofs.lemmas.List.Quantifiers.{position-Some}
use Rattle.std.proofs.lemmas.List.Sums.{fails_before_first}
use Rattle.std.specs.List.{position, position_or_len}
use Rattle.stems.specs.declared.mask.HintMask.{HintMask}
use Rattle.stems.specs.Mask.{of_bytes, is_active, first_from, first_active, cleared, without_first, TookFirst}
use Rattle.stems.proofs.Masks.{clear-off, clear-keeps}

module _ (m : HintMask) where
  -- stems that are not active are passed over
  passed : (k n t i : ℕ) → k + n ≡ t → ((j : ℕ) → i ≤ j → j < i + k → is_active m j ≡ false) →
      first_from m i t ≡ first_from m (i + k) n
  unfolding first_from
  passed zero n t i e f =
      let a : t ≡ n = omega arith in
      let b : i + 0 ≡ i = omega arith in
      rw (a, b)
  passed (suc k) n zero i e f = absurd (omega arith)
  passed (suc k) n (suc t) i e f =
      let a : i + suc k ≡ suc i + k = omega arith in
      rw (f i (omega arith) (omega arith), a)
      (passed k n t (suc i) (omega arith) (λ j l h. f j (omega arith) (omega arith)))

  -- an active stem is found
  here : (t i : ℕ) → 0 < t → is_active m i ≡ true → first_from m i t ≡ i
  unfolding first_from
  here zero i h e = absurd (omega arith)
  here (suc t) i h e = rw e

  -- no stem before the one that is found is active
  off-before : (n i j : ℕ) → i ≤ j → j < first_from m i n → is_active m j ≡ false
  unfolding first_from
  off-before zero i j l h = absurd (omega arith)
  off-before (suc n) i j l h = go (is_active m i) refl (λ q. off-before n (suc i) j q)
    where
      go : (t : Bool) → is_active m i ≡ t → (i < j → j < first_from m (suc i) n → is_active m j ≡ false) →
          is_active m j ≡ false
      go true e f = absurd (omega (arith, rw e at h))
      go false e f = ⊎_elim (λ q. rw q at e) (λ q. f q (rw e at h)) (eq-or-lt_of_le l)

  -- a search ends behind its stems at the latest
  within : (n i : ℕ) → first_from m i n ≤ i + n
  unfolding first_from
  within zero i = omega arith
  within (suc n) i = go (is_active m i) (within n (suc i))
    where
      go : (t : Bool) → first_from m (suc i) n ≤ suc i + n → cond t i (first_from m (suc i) n) ≤ i + suc n
      go true h = omega arith
      go false h = omega arith

  -- it is active itself, unless it is the one behind them
  on-within : (n i : ℕ) → first_from m i n < i + n → is_active m (first_from m i n) ≡ true
  unfolding first_from
  on-within zero i h = absurd (omega arith)
  on-within (suc n) i h = go (is_active m i) refl (on-within n (suc i))
    where
      go : (t : Bool) → is_active m i ≡ t →
          (first_from m (suc i) n < suc i + n → is_active m (first_from m (suc i) n) ≡ true) →
          is_active m (first_from m i (suc n)) ≡ true
      go true e f = rw e e
      go false e f = rw e (f (omega (arith, rw e at h)))

  -- no stem before the first active one is active
  pub first_off : (j : ℕ) → j < first_active m → is_active m j ≡ false
  first_off j h = off-before 96 0 j (omega arith) h

  -- the first active one is, where there is one
  pub first_on : first_active m < 96 → is_active m (first_active m) ≡ true
  first_on h = on-within 96 0 (omega arith)

  -- it comes behind stems that are not active
  pub first-behind : (i : ℕ) → i ≤ 96 → ((j : ℕ) → j < i → is_active m j ≡ false) → i ≤ first_active m
  first-behind i h f = go (ltb (first_active m) i) refl
    where
      go : (t : Bool) → ltb (first_active m) i ≡ t → i ≤ first_active m
      go true e =
          let l = ltb-true (first_active m) i e in
          absurd (true≢false (sym (first_on (omega arith)) ∙ f (first_active m) l))
      go false e = ltb-false _ _ e

-- ---- the mask out of which the first active stem is taken
module _ {m left : HintMask} {r : ℕ} (t : TookFirst m r left) where
  -- has no stem up to that one
  pub took-off : (j : ℕ) → j ≤ r → j < 96 → is_active left j ≡ false
  unfolding without_first
  took-off j l h = rw t.mask (go (ltb (first_active m) 96) refl (rw t.stem at l))
    where
      go : (b : Bool) → ltb (first_active m) 96 ≡ b → j ≤ first_active m →
          is_active (cond b (cleared m (first_active m)) m) j ≡ false
      go true e l =
          ⊎_elim (λ q. rw (← q) (clear-off m j))
          (λ q. clear-keeps m (first_active m) j (λ w. omega arith) ∙ first_off m j q) (eq-or-lt_of_le l)
      go false e l = first_off m j (omega (arith, ltb-false (first_active m) 96 e))

  -- and every stem behind it
  pub took-keeps : (j : ℕ) → r < j → is_active left j ≡ is_active m j
  unfolding without_first
  took-keeps j l = rw t.mask (go (ltb (first_active m) 96) (rw t.stem at l))
    where
      go : (b : Bool) → first_active m < j → is_active (cond b (cleared m (first_active m)) m) j ≡ is_active m j
      go true l = clear-keeps m (first_active m) j (λ w. omega arith)
      go false l = refl

-- ---- byte b of the mask, as a mask by itself
module _ (m : HintMask) (b : ℕ) where
  abbrev own : HintMask
  own = of_bytes (get_or m.bytes b 0 ∷ [])

  abbrev bit : ℕ
  bit = first_from own 0 8

  -- it has the mask's stems from 8b on
  own-bit : (k : ℕ) → k < 8 → is_active m (8 * b + k) ≡ is_active own k
  unfolding is_active
  own-bit k h =
      let d : (8 * b + k) / 8 ≡ b = omega arith in
      let r : (8 * b + k) % 8 ≡ k = omega arith in
      let d₀ : k / 8 ≡ 0 = omega arith in
      let r₀ : k % 8 ≡ k = omega arith in
      rw (d, r, d₀, r₀)

  -- none of them before the byte's first is active
  before : (j : ℕ) → 8 * b ≤ j → j < 8 * b + bit → is_active m j ≡ false
  before j l h =
      let k : 8 * b + (j - 8 * b) ≡ j = omega arith in
      rw (← k) (own-bit (j - 8 * b) (omega (arith, within own 8 0)) ∙
      off-before own 8 0 (j - 8 * b) (omega arith) (omega arith))

  module _ {r : ℕ} (e : r ≡ bit) where
    -- a search of the mask passes over a byte that has none ..
    pub search-on : b < 12 → 8 ≤ r → first_from m (8 * b) (96 - 8 * b) ≡ first_from m (8 * (b + 1)) (96 - 8 * (b + 1))
    search-on h l =
        let n : 8 * (b + 1) ≡ 8 * b + 8 = omega arith in
        rw n (passed m 8 (96 - (8 * b + 8)) (96 - 8 * b) (8 * b) (omega arith) (λ j f g. before j f (omega arith)))

    -- .. and ends at one that has some, with its first
    pub found-on : r < 8 → is_active m (8 * b + r) ≡ true
    found-on l = own-bit r l ∙ rw e (on-within own 8 0 (omega arith))

    pub search-ends : b < 12 → r < 8 → first_from m (8 * b) (96 - 8 * b) ≡ 8 * b + r
    search-ends h l =
        passed m r (96 - 8 * b - r) (96 - 8 * b) (8 * b) (omega arith) (λ j f g. before j f (omega arith)) ∙
        here m (96 - 8 * b - r) (8 * b + r) (omega arith) (found-on l)

-- ---- the leading zeros of a byte lie before its first active stem
module _ (x : ℕ) (fits : x < 256) where
  abbrev alone : HintMask
  alone = of_bytes (x ∷ [])

  -- stem k is the bit of weight 2^(7 - k)
  bit-of : (k : ℕ) → k < 8 → is_active alone k ≡ eqb (x / 2 ^ (7 - k) % 2) 1
  unfolding is_active
  bit-of k h =
      let d : k / 8 ≡ 0 = omega arith in
      let r : k % 8 ≡ k = omega arith in
      rw (d, r)

  -- under the place of a bit no bit from there on is set
  off-above : (k : ℕ) → k < 8 → x < 2 ^ (7 - k) → is_active alone k ≡ false
  off-above k h l = rw (bit-of k h, div-eq_of_lt l)

  -- a byte of 0 is leading zeros alone
  none-leading : x ≡ 0 → count_leading_zeros 8 x ≡ first_from alone 0 8
  unfolding first_from
  none-leading e =
      rw (e, leading_of_zero 8) (rw e at (sym (passed alone 8 0 8 0 refl
      (λ j l h. off-above j h (omega (arith, pow_pos (7 - j)))))))

  -- in any other a bit that is set comes behind them
  some-leading : 0 < x → count_leading_zeros 8 x ≡ first_from alone 0 8
  some-leading s =
      let n : 0 + z ≡ z = omega arith in
      sym (rw n at (passed alone z (8 - z) 8 0 (omega (arith, t.1)) off) ∙
      here alone (8 - z) z (omega (arith, t.1)) on)
    where
      z : ℕ
      z = count_leading_zeros 8 x

      t : (k : ℕ) × (count_leading_zeros 8 x + suc k ≡ 8) × (2 ^ k ≤ x) × (x < 2 ^ suc k)
      t = leading_top 8 x s fits

      off : (j : ℕ) → 0 ≤ j → j < 0 + z → is_active alone j ≡ false
      off j l h =
          let w : 2 ^ suc t.0 ≤ 2 ^ (7 - j) = pow_mono (omega (arith, t.1)) in
          off-above j (omega (arith, t.1)) (omega (arith, t.3))

      on : is_active alone z ≡ true
      on =
          let k : 7 - z ≡ t.0 = omega (arith, t.1) in
          let w = pow-succ' 2 t.0 in
          let q : x / 2 ^ t.0 ≡ 1 = div-eq_of_lt-le (2 ^ t.0) (omega (arith, t.2)) (omega (arith, t.3)) in
          rw (bit-of z (omega (arith, t.1)), k, q)

  pub first-leading : count_leading_zeros 8 x ≡ first_from alone 0 8
  first-leading = ⊎_elim none-leading some-leading (eq-zero-or-pos x)

-- ---- the first byte of a mask that has an active stem
abbrev pub is_some : ℕ → Bool
is_some x = not (eqb x 0)

-- byte k of the mask is the first that has one, as its bit r
pub record InByte (m : HintMask) (k r : ℕ) : Type 0 where
  pub inside : k < 12
  pub under : r < 8
  pub on : is_active m (8 * k + r) ≡ true
  pub first : first_active m ≡ 8 * k + r

module _ (m : HintMask) (fits : (i : ℕ) → get_or m.bytes i 0 < 256) (twelve : length m.bytes ≡ 12) where
  -- a search passes over bytes of 0
  over : (k : ℕ) → k ≤ 12 → ((j : ℕ) → j < k → is_some (get_or m.bytes j 0) ≡ false) →
      first_active m ≡ first_from m (8 * k) (96 - 8 * k)
  over zero l f = refl
  over (suc k) l f =
      let x = get_or m.bytes k 0 in
      let zeros : x ≡ 0 = grind (arith, common_steps, f k) in
      let lead : 8 ≡ count_leading_zeros 8 x = sym (leading_of_zero 8) ∙ ap (count_leading_zeros 8) (sym zeros) in
      let none : 8 ≡ bit m k = lead ∙ first-leading x (fits k) in
      let n : suc k ≡ k + 1 = omega arith in
      rw n (over k (omega arith) (λ j h. f j (omega arith)) ∙ search-on m k none (omega arith) (omega arith))

  -- where there is none, no stem is active
  pub no_byte : position is_some m.bytes ≡ None → first_active m ≡ 96
  unfolding first_from
  no_byte e =
      let far : 12 ≤ position_or_len is_some m.bytes = grind (arith, common_steps) in
      over 12 (omega arith) (λ j h. fails_before_first is_some m.bytes j 0 (omega arith))

  -- and else its first stem is the mask's
  pub in_byte : (k r : ℕ) → position is_some m.bytes ≡ Some k → r ≡ bit m k → InByte m k r
  in_byte k r e b =
      let at = position-Some is_some m.bytes k 0 e in
      let x = get_or m.bytes k 0 in
      let l : k < 12 = omega (arith, at.0) in
      let some : 0 < x = grind (arith, common_steps, at.1) in
      let u : r < 8 = omega (arith, b, first-leading x (fits k), (leading_top 8 x some (fits k)).1) in
      record {
        inside = l;
        under = u;
        on = found-on m k b u;
        first = over k (omega arith) at.2 ∙ search-ends m k b l u;
      }
