-- The order of 16.16 numbers. `omega heights` reads, as a hypothesis and as the goal: `a.bits ≤ℤ b
-- .bits`, `<ℤ`, an equation of two numbers, and a test (`less_f a b`, `at_most_f a b`) that came out
-- true or false. A sum or a difference in it is given by its law. Assumes nothing.
use Rattle.std.proofs.Common.{◌≡◌, ◌+◌, Bool, true, false, ◌&&◌, eqb, ◌⊎◌, ℤ, ◌≤ℤ◌, ◌<ℤ◌, sym, refl, ap, ◌∙◌, inl, inr}
use Rattle.std.proofs.Common.{true≢false, to_z-of_z, SFits, to_z, of_z, eqb-true}
use lib.Signed.{le_z}
use borrow.Author.Tests.{eqb-false}
use mir.Syntax.{Width}
use Rattle.fixed.specs.declared.Fixed.{Fixed}
use Rattle.fixed.specs.Fixed.{from_bits, less_f, at_most_f, same_f}
use Rattle.fixed.proofs.Ints.{ints, up, dn, eq-make, eq-read, test-lt, test-le, test-nlt, test-nle, make-lt}
use Rattle.fixed.proofs.Ints.{make-le, make-nlt, make-nle}

-- equations of numbers
pub same_read : {a b : Fixed} → a ≡ b → up a.bits + dn b.bits ≡ up b.bits + dn a.bits
same_read e = eq-read (ap (λ (x : Fixed). x.bits) e)

pub same-make : {a b : Fixed} → up a.bits + dn b.bits ≡ up b.bits + dn a.bits → a ≡ b
same-make {a} {b} h = ap from_bits (eq-make {a = a.bits} {b = b.bits} h)

pub ruleset heights =
    (ints, test-lt, test-le, test-nlt, test-nle, make-lt, make-le, make-nlt, make-nle, same_read, same-make)

-- ---- the order of heights is total
pub record Total : Type 0 where
  pub reflexive : (a : Fixed) → a.bits ≤ℤ a.bits
  pub antisymmetric : (a b : Fixed) → a.bits ≤ℤ b.bits → b.bits ≤ℤ a.bits → a ≡ b
  pub transitive : (a b c : Fixed) → a.bits ≤ℤ b.bits → b.bits ≤ℤ c.bits → a.bits ≤ℤ c.bits
  pub compares : (a b : Fixed) → (a.bits ≤ℤ b.bits) ⊎ (b.bits ≤ℤ a.bits)
  -- and the code's tests decide it
  pub decided : (a b : Fixed) → (at_most_f a b ≡ true → a.bits ≤ℤ b.bits) × (at_most_f a b ≡ false → b.bits <ℤ a.bits)
  pub strict : (a b : Fixed) → (less_f a b ≡ true → a.bits <ℤ b.bits) × (less_f a b ≡ false → b.bits ≤ℤ a.bits)
  pub same : (a b : Fixed) → (same_f a b ≡ true → a ≡ b) × (same_f a b ≡ false → a ≡ b → ⊥)

either : (a b : Fixed) (t : Bool) → at_most_f a b ≡ t → (a.bits ≤ℤ b.bits) ⊎ (b.bits ≤ℤ a.bits)
either a b true e = inl (omega heights)
either a b false e = inr (omega heights)

both : (s t : Bool) → s && t ≡ true → (s ≡ true) × (t ≡ true)
both true true e = (refl, refl)
both true false e = absurd (true≢false (sym e))
both false t e = absurd (true≢false (sym e))

-- the test of two equal numbers is true of one number, and of no two
pub same-eq : (a b : ℤ) → le_z a b && le_z b a ≡ true → a ≡ b
same-eq a b e =
    let t = both (le_z a b) (le_z b a) e in
    omega (heights, test-le a b t.0, test-le b a t.1)

pub eq-same : (a b : ℤ) → a ≡ b → le_z a b && le_z b a ≡ true
eq-same a b e = rw (make-le a b (omega ints), make-le b a (omega ints))

pub same-is : (a b : Fixed) → same_f a b ≡ true → a ≡ b
same-is a b e = ap from_bits (same-eq a.bits b.bits e)

pub is_same : (a b : Fixed) → a ≡ b → same_f a b ≡ true
is_same a b e = eq-same a.bits b.bits (ap (λ (x : Fixed). x.bits) e)

pub not_same : (a b : Fixed) → same_f a b ≡ false → a ≡ b → ⊥
not_same a b p e = true≢false (sym (is_same a b e) ∙ p)

pub total : Total
total =
    record {
      reflexive = λ a. omega heights;
      antisymmetric = λ a b p q. omega heights;
      transitive = λ a b c p q. omega heights;
      compares = λ a b. either a b (at_most_f a b) refl;
      decided = λ a b. (λ e. omega heights, λ e. omega heights);
      strict = λ a b. (λ e. omega heights, λ e. omega heights);
      same = λ a b. (same-is a b, not_same a b);
    }

-- two numbers that a width holds are one where the machine's bits of them are
pub same_bits : (w : Width) (a b : ℤ) → SFits w a → SFits w b → eqb (of_z w a) (of_z w b) ≡ (le_z a b && le_z b a)
same_bits w a b fa fb = go (eqb (of_z w a) (of_z w b)) (le_z a b && le_z b a) refl refl
  where
    go : (x y : Bool) → eqb (of_z w a) (of_z w b) ≡ x → le_z a b && le_z b a ≡ y → x ≡ y
    go true true p q = refl
    go false false p q = refl
    go true false p q = sym (eq-same a b (sym (to_z-of_z fa) ∙ ap (to_z w) (eqb-true _ _ p) ∙ to_z-of_z fb)) ∙ q
    go false true p q = absurd (eqb-false _ _ p (ap (of_z w) (same-eq a b q)))
