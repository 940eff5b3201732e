-- `msb_mask` meets its contract, computed at each of the 8 bits of a byte. Assumes nothing.
use Rattle.std.proofs.Common.{ℕ, ◌-◌, ◌/◌, ◌%◌, ◌^◌, refl, arith, eqb, eqb-true}
use Rattle.stems.proofs.Masks.{passes}
use Rattle.stems.proofs.mask.msb_mask.Goals as goal

pub returns : goal.returns
returns c =
    eqb-true _ _ (passes (λ (k : ℕ). eqb (128 / 2 ^ k) (2 ^ (7 - k))) 8 refl (c.args.bit % 8) (omega arith))
