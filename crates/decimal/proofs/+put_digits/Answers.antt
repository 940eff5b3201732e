-- `put_digits` puts the digits of a tenth before the last one. Assumes nothing.
use Rattle.std.proofs.Common.{◌≡◌, ℕ, zero, suc, ◌+◌, ◌/◌, ◌%◌, ◌^◌, ◌<◌, ◌≤◌, cond, ltb, List, [], ◌∷◌, ◌++◌, sym, ap}
use Rattle.std.proofs.Common.{arith, le-ltb, lt-ltb}
use Rattle.decimal.specs.Decimal.{digits_by, number_text}
use Rattle.decimal.proofs.Putting.{in-room-both}
use Rattle.decimal.proofs.+put_digits.Goals as goal

-- the last digit of a number
abbrev last : ℕ → List ℕ
last n = (48 + n % 10) ∷ []

-- enough fuel is enough
enough : (f n : ℕ) → n < 10 ^ suc f → digits_by (suc (suc f)) n ≡ digits_by (suc f) n
unfolding digits_by
enough zero n h = rw (lt-ltb n 10 (omega arith))
enough (suc f) n h = ap (λ (ds : List ℕ). cond (ltb n 10) [] ds ++ last n) (enough f (n / 10) (omega arith))

more : (n : ℕ) → n < 4294967296 → 10 ≤ n → number_text n ≡ number_text (n / 10) ++ last n
unfolding digits_by
more n h m = rw (le-ltb n 10 m, sym (enough 8 (n / 10) (omega arith)))

pub returns-then-n-lt10 : goal.returns-then-n-lt10
unfolding digits_by
returns-then-n-lt10 t c = rw (lt-ltb _ 10 c.if-n-lt10.true) c.put_byte.ensures

pub returns : goal.returns
returns t c =
    rw (more _ c.ranges.n.fits c.if-n-lt10.false)
    (in-room-both c.put_digits-next.ensures c.put_byte-2.ensures)
