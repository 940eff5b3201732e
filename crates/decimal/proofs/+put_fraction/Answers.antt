-- `put_fraction` puts the first digit of a fraction, and then the rest. Assumes nothing.
use Rattle.std.proofs.Common.{◌≡◌, ℕ, zero, suc, ◌+◌, ◌-◌, ◌*◌, ◌/◌, ◌%◌, [], ◌∷◌, ◌⊎◌, inl, inr, refl, arith}
use Rattle.std.proofs.Common.{eq-eqb, ne_eqb}
use Rattle.decimal.specs.Decimal.{fraction_by}
use Rattle.decimal.proofs.Putting.{put-none, in-room-both}
use Rattle.decimal.proofs.+put_fraction.Goals as goal

-- no digit, where there is no room for one or none to put
none : (f n : ℕ) → (f ≡ 0) ⊎ ((f ≡ 0 → ⊥) × (n ≡ 0)) → fraction_by f n ≡ []
unfolding fraction_by
none zero n h = refl
none (suc f) n (inl h) = absurd (omega arith)
none (suc f) n (inr h) = rw (eq-eqb n 0 h.1)

-- the first digit stands before those of the rest
split : (f n : ℕ) → (f ≡ 0 → ⊥) → (n ≡ 0 → ⊥) →
    fraction_by f n ≡ (48 + n * 10 / 65536) ∷ fraction_by (f - 1) (n * 10 % 65536)
unfolding fraction_by
split zero n g h = absurd (g refl)
split (suc f) n g h = let d : suc f - 1 ≡ f = omega arith in rw (d, ne_eqb n 0 h)

pub returns-then-left-eq0 : goal.returns-then-left-eq0
returns-then-left-eq0 t c = rw (none c.args.left c.args.n c.then-left-eq0.either) (λ h. put-none _ _)

pub returns : goal.returns
returns t c =
    rw (split c.args.left c.args.n c.if-left-eq0.false c.if-n-eq0.false)
    (in-room-both c.put_byte-next.ensures c.put_fraction.ensures)
