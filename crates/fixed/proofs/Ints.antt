-- Integers for `omega`. z is `up z − dn z`, two naturals of which one is 0: `omega ints` reads an
-- order, an equation or a width of integers, among the hypotheses and as the goal, as one of those
-- naturals. A sum, a difference or a wrapped number in it is given by its law, in the list. Assumes
-- nothing.
use Rattle.std.proofs.Common.{◌≡◌, ℕ, zero, suc, pred, ◌+◌, ◌-◌, ◌^◌, ◌<◌, ◌≤◌, min, max, Bool, true, false, cond, not}
use Rattle.std.proofs.Common.{T, ltb, ℤ, pos, negsuc, ◌+ℤ◌, ◌-ℤ◌, neg_ℤ, ◌≤ℤ◌, ◌<ℤ◌, sym, refl, ap, subst, arith}
use Rattle.std.proofs.Common.{ltb→lt, leb→le, nltb→le, w32, w64, SFits, ltb-false, ltb-true}
use lib.Dec.{nleb→lt}
use lib.IntN.{sub_ℕ}
use lib.Signed.{lt_z, le_z}
use mir.Syntax.{Width}
use mir.Val.{hbits}

abbrev pub up : ℤ → ℕ
up (pos n) = n
up (negsuc n) = 0

abbrev pub dn : ℤ → ℕ
dn (pos n) = 0
dn (negsuc n) = suc n

-- one of the two is 0
pub one : (z : ℤ) → min (up z) (dn z) ≡ 0
one (pos n) = omega arith
one (negsuc n) = omega arith

-- ---- orders and equations
le_t : (a b : ℤ) → T (le_z a b) → up a + dn b ≤ up b + dn a
le_t (pos a) (pos b) t = omega (arith, leb→le a b t)
le_t (pos a) (negsuc b) t = absurd t
le_t (negsuc a) (pos b) t = omega arith
le_t (negsuc a) (negsuc b) t = omega (arith, leb→le b a t)

lt_t : (a b : ℤ) → T (lt_z a b) → up a + dn b < up b + dn a
lt_t (pos a) (pos b) t = omega (arith, ltb→lt a b t)
lt_t (pos a) (negsuc b) t = absurd t
lt_t (negsuc a) (pos b) t = omega arith
lt_t (negsuc a) (negsuc b) t = omega (arith, ltb→lt b a t)

nle_t : (a b : ℤ) → T (not (le_z a b)) → up b + dn a < up a + dn b
nle_t (pos a) (pos b) t = omega (arith, nleb→lt a b t)
nle_t (pos a) (negsuc b) t = omega arith
nle_t (negsuc a) (pos b) t = absurd t
nle_t (negsuc a) (negsuc b) t = omega (arith, nleb→lt b a t)

nlt_t : (a b : ℤ) → T (not (lt_z a b)) → up b + dn a ≤ up a + dn b
nlt_t (pos a) (pos b) t = omega (arith, nltb→le a b t)
nlt_t (pos a) (negsuc b) t = omega arith
nlt_t (negsuc a) (pos b) t = absurd t
nlt_t (negsuc a) (negsuc b) t = omega (arith, nltb→le b a t)

T_true : (t : Bool) → t ≡ true → T t
T_true t e = subst T (sym e) tt

T_false : (t : Bool) → t ≡ false → T (not t)
T_false t e = subst (λ (b : Bool). T (not b)) (sym e) tt

-- a test that came out true or false, as a branch leaves it
pub test-lt : (a b : ℤ) → lt_z a b ≡ true → up a + dn b < up b + dn a
test-lt a b e = lt_t a b (T_true (lt_z a b) e)

pub test-le : (a b : ℤ) → le_z a b ≡ true → up a + dn b ≤ up b + dn a
test-le a b e = le_t a b (T_true (le_z a b) e)

pub test-nlt : (a b : ℤ) → lt_z a b ≡ false → up b + dn a ≤ up a + dn b
test-nlt a b e = nlt_t a b (T_false (lt_z a b) e)

pub test-nle : (a b : ℤ) → le_z a b ≡ false → up b + dn a < up a + dn b
test-nle a b e = nle_t a b (T_false (le_z a b) e)

-- and a test that must come out so
pub make-lt : (a b : ℤ) → up a + dn b < up b + dn a → lt_z a b ≡ true
make-lt a b h = go (lt_z a b) refl
  where
    go : (t : Bool) → lt_z a b ≡ t → t ≡ true
    go true e = refl
    go false e = absurd (omega (arith, test-nlt a b e))

pub make-le : (a b : ℤ) → up a + dn b ≤ up b + dn a → le_z a b ≡ true
make-le a b h = go (le_z a b) refl
  where
    go : (t : Bool) → le_z a b ≡ t → t ≡ true
    go true e = refl
    go false e = absurd (omega (arith, test-nle a b e))

pub make-nlt : (a b : ℤ) → up b + dn a ≤ up a + dn b → lt_z a b ≡ false
make-nlt a b h = go (lt_z a b) refl
  where
    go : (t : Bool) → lt_z a b ≡ t → t ≡ false
    go false e = refl
    go true e = absurd (omega (arith, test-lt a b e))

pub make-nle : (a b : ℤ) → up b + dn a < up a + dn b → le_z a b ≡ false
make-nle a b h = go (le_z a b) refl
  where
    go : (t : Bool) → le_z a b ≡ t → t ≡ false
    go false e = refl
    go true e = absurd (omega (arith, test-le a b e))

pub le_read : {a b : ℤ} → a ≤ℤ b → up a + dn b ≤ up b + dn a
le_read {a} {b} h = le_t a b h.le

pub le-make : {a b : ℤ} → up a + dn b ≤ up b + dn a → a ≤ℤ b
le-make {a} {b} h = record { le = T_true (le_z a b) (make-le a b h) }

pub lt-read : {a b : ℤ} → a <ℤ b → up a + dn b < up b + dn a
lt-read {a} {b} h = lt_t a b h.lt

pub lt-make : {a b : ℤ} → up a + dn b < up b + dn a → a <ℤ b
lt-make {a} {b} h = record { lt = T_true (lt_z a b) (make-lt a b h) }

pub eq-read : {a b : ℤ} → a ≡ b → up a + dn b ≡ up b + dn a
eq-read {a} {b} e = subst (λ (z : ℤ). up a + dn z ≡ up z + dn a) e refl

pub eq-make : {a b : ℤ} → up a + dn b ≡ up b + dn a → a ≡ b
eq-make {a = pos a} {b = pos b} h = ap pos (omega arith)
eq-make {a = pos a} {b = negsuc b} h = absurd (omega arith)
eq-make {a = negsuc a} {b = pos b} h = absurd (omega arith)
eq-make {a = negsuc a} {b = negsuc b} h = ap negsuc (omega arith)

-- ---- what a signed width holds
-- `omega` applies one rule to a hypothesis, so `fit-read` is one statement, and leaves out that z
-- is not the width's 2^31 or 2^63: `fit-up` adds that
pub fit-up : {w : Width} {z : ℤ} → SFits w z → up z < 2 ^ hbits w
fit-up {z = pos n} h = h.sfits
fit-up {w} {z = negsuc n} h = omega (arith, h.sfits)

pub fit-read : {w : Width} {z : ℤ} → SFits w z → up z + dn z ≤ 2 ^ hbits w
fit-read {z = pos n} h = omega (arith, h.sfits)
fit-read {z = negsuc n} h = omega (arith, h.sfits)

pub fit-make : {w : Width} {z : ℤ} → max (up z) (pred (dn z)) < 2 ^ hbits w → SFits w z
fit-make {z = pos n} h = record { sfits = omega arith }
fit-make {z = negsuc n} h = record { sfits = omega arith }

pub ruleset ints = (arith, le_read, le-make, lt-read, lt-make, eq-read, eq-make, fit-read, fit-make)

-- ---- sums
pub of-subℕ : (a b : ℕ) → up (sub_ℕ a b) + b ≡ dn (sub_ℕ a b) + a
of-subℕ a b = go (ltb a b) refl
  where
    go : (t : Bool) → ltb a b ≡ t →
        up (cond t (negsuc (b - suc a)) (pos (a - b))) + b ≡ dn (cond t (negsuc (b - suc a)) (pos (a - b))) + a
    go true e = omega (arith, ltb-true a b e)
    go false e = omega (arith, ltb-false a b e)

pub of-add : (a b : ℤ) → up (a +ℤ b) + (dn a + dn b) ≡ dn (a +ℤ b) + (up a + up b)
of-add (pos a) (pos b) = omega arith
of-add (pos a) (negsuc b) = omega (arith, of-subℕ a (suc b))
of-add (negsuc a) (pos b) = omega (arith, of-subℕ b (suc a))
of-add (negsuc a) (negsuc b) = omega arith

pub up_neg : (a : ℤ) → up (neg_ℤ a) ≡ dn a
up_neg (pos zero) = refl
up_neg (pos (suc n)) = refl
up_neg (negsuc n) = refl

pub dn-neg : (a : ℤ) → dn (neg_ℤ a) ≡ up a
dn-neg (pos zero) = refl
dn-neg (pos (suc n)) = refl
dn-neg (negsuc n) = refl

pub of-sub : (a b : ℤ) → up (a -ℤ b) + (dn a + up b) ≡ dn (a -ℤ b) + (up a + dn b)
of-sub a b = omega (arith, of-add a (neg_ℤ b), up_neg b, dn-neg b)

-- what the sum and the difference of two i32 fit
pub add-fits : {a b : ℤ} → SFits w32 a → SFits w32 b → SFits w64 (a +ℤ b)
add-fits {a} {b} h k = omega (ints, of-add a b, one (a +ℤ b))

pub sub-fits : {a b : ℤ} → SFits w32 a → SFits w32 b → SFits w64 (a -ℤ b)
sub-fits {a} {b} h k = omega (ints, of-sub a b, one (a -ℤ b))
