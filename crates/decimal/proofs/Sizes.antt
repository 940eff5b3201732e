-- The room that texts take: ten bytes for a whole number, 23 for one in 16.16. Assumes nothing.
use Rattle.std.proofs.Common.{ℕ, zero, suc, ◌+◌, ◌*◌, ◌/◌, ◌%◌, ◌^◌, ◌<◌, ◌≤◌, Bool, true, false, cond, eqb, ltb, List}
use Rattle.std.proofs.Common.{[], ◌∷◌, length, ℤ, pos, negsuc, arith, length-append, w32, SFits, lt-ltb}
use Rattle.decimal.specs.Decimal.{digits_by, number_text, fraction_by, size_text, decimal_text}

-- none or some are no more than those
some-room : (b : Bool) (xs : List ℕ) → length (cond b [] xs) ≤ length xs
some-room true xs = omega arith
some-room false xs = omega arith

-- a number below 10 ^ g has g digits at most
pub digits-room : (f g n : ℕ) → n < 10 ^ suc g → length (digits_by f n) ≤ suc g
unfolding digits_by
digits-room zero g n h = omega arith
digits-room (suc f) zero n h = rw (lt-ltb n 10 (omega arith)) (omega arith)
digits-room (suc f) (suc g) n h =
    let ds = digits_by f (n / 10) in
    let l = length-append (cond (ltb n 10) [] ds) ((48 + n % 10) ∷ []) in
    omega (arith, l, some-room (ltb n 10) ds, digits-room f g (n / 10) (omega arith))

pub number-room : (n : ℕ) → n < 4294967296 → length (number_text n) ≤ 10
number-room n h = digits-room 10 9 n (omega arith)

fraction-room : (f n : ℕ) → length (fraction_by f n) ≤ f
unfolding fraction_by
fraction-room zero n = omega arith
fraction-room (suc f) n =
    let r = n * 10 % 65536 in
    omega (arith, some-room (eqb n 0) ((48 + n * 10 / 65536) ∷ fraction_by f r), fraction-room f r)

size_room : (n : ℕ) → n ≤ 2147483648 → length (size_text n) ≤ 22
unfolding size_text
size_room n h =
    let b = eqb (n % 65536) 0 in
    let ds : List ℕ = 46 ∷ fraction_by 16 (n % 65536) in
    let l = length-append (number_text (n / 65536)) (cond b [] ds) in
    omega (arith, l, some-room b ds, fraction-room 16 (n % 65536), digits-room 10 4 (n / 65536) (omega arith))

pub decimal-room : (z : ℤ) → SFits w32 z → length (decimal_text z) ≤ 23
unfolding decimal_text
decimal-room (pos n) h = omega (arith, size_room n (omega (arith, h.sfits)))
decimal-room (negsuc n) h = omega (arith, size_room (suc n) (omega (arith, h.sfits)))
