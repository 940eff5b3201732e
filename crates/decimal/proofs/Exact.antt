-- The texts are exact: the digits of a whole number say it, and those behind a point say as many
-- parts of 10 ^ 16 as the 65536ths are. Assumes nothing.
use Rattle.std.proofs.Common.{◌≡◌, ℕ, zero, suc, ◌+◌, ◌-◌, ◌*◌, ◌/◌, ◌%◌, ◌^◌, ◌<◌, ◌≤◌, Bool, true, false, cond, eqb}
use Rattle.std.proofs.Common.{ltb, List, [], ◌∷◌, ◌++◌, sym, refl, ap, ◌∙◌, mul_assoc, add-mul, div-add-mod', zero-mul}
use Rattle.std.proofs.Common.{mul_right_comm, arith, ltb-true, eqb-true}
use native.Mathlib.Nat.{pow-succ'}
use Rattle.decimal.specs.Decimal.{digits_by, number_text, fraction_by, read_on, read_behind}

-- ---- whole numbers
-- a digit behind others
read-last : (m : ℕ) (ds : List ℕ) (n : ℕ) → read_on m (ds ++ (48 + n % 10) ∷ []) ≡ 10 * read_on m ds + n % 10
unfolding read_on
read-last m [] n = omega arith
read-last m (d ∷ ds) n = read-last (10 * m + (d - 48)) ds n

digits-exact : (f n : ℕ) → n < 10 ^ f → read_on 0 (digits_by f n) ≡ n
unfolding read_on digits_by
digits-exact zero n h = omega arith
digits-exact (suc f) n h =
    let ds = cond (ltb n 10) [] (digits_by f (n / 10)) in
    omega (arith, read-last 0 ds n, by (ltb n 10) refl (digits-exact f (n / 10) (omega arith)))
  where
    by : (b : Bool) → ltb n 10 ≡ b → read_on 0 (digits_by f (n / 10)) ≡ n / 10 →
        read_on 0 (cond b [] (digits_by f (n / 10))) ≡ n / 10
    by true e d = omega (arith, ltb-true n 10 e)
    by false e d = d

pub number-exact : (n : ℕ) → n < 4294967296 → read_on 0 (number_text n) ≡ n
number-exact n h = digits-exact 10 n (omega arith)

-- ---- fractions
-- f digits say n 65536ths but for less than one of the last digit
abbrev Near : ℕ → ℕ → List ℕ → Type 0
Near f n ds = (read_behind f ds * 65536 ≤ n * 10 ^ f) × (n * 10 ^ f < read_behind f ds * 65536 + 65536)

fraction-near : (f n : ℕ) → n < 65536 → Near f n (fraction_by f n)
unfolding read_behind fraction_by
fraction-near zero n h = omega arith
fraction-near (suc f) n h = by (eqb n 0) refl (fraction-near f (n * 10 % 65536) (omega arith))
  where
    by : (b : Bool) → eqb n 0 ≡ b → Near f (n * 10 % 65536) (fraction_by f (n * 10 % 65536)) →
        Near (suc f) n (cond b [] ((48 + n * 10 / 65536) ∷ fraction_by f (n * 10 % 65536)))
    by true e d = rw (eqb-true n 0 e, zero-mul (10 ^ suc f)) (omega arith)
    by false e d =
        let q = n * 10 / 65536 in
        let r = n * 10 % 65536 in
        let p : 48 + q - 48 ≡ q = omega arith in
        let w : q * 10 ^ f * 65536 + r * 10 ^ f ≡ n * 10 ^ suc f =
        rw (mul_right_comm q (10 ^ f) 65536, sym (add-mul (q * 65536) r (10 ^ f)), div-add-mod' (n * 10) 65536)
        (mul_assoc n 10 (10 ^ f) ∙ ap (λ (k : ℕ). n * k) (sym (pow-succ' 10 f))) in
        rw p (omega (arith, d, w))

pub fraction-exact : (n : ℕ) → n < 65536 → read_behind 16 (fraction_by 16 n) * 65536 ≡ n * 10 ^ 16
fraction-exact n h = omega (arith, fraction-near 16 n h)
