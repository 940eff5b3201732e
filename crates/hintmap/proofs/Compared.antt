-- The tests `<` and `<=` of two numbers, as the code makes them of their order, are `less_f` and
-- `at_most_f`. Assumes nothing.
use Rattle.std.proofs.Common.{◌≡◌, Bool, true, false, cond, refl}
use Rattle.std.proofs.Common.{is_lt, is_le, int_cmp, Less, Equal, Greater}
use Rattle.fixed.specs.declared.Fixed.{Fixed}
use Rattle.fixed.specs.Fixed.{less_f, at_most_f}
use Rattle.fixed.proofs.Order.{heights}

pub less-is : (a b : Fixed) → is_lt (int_cmp a.bits b.bits) ≡ less_f a b
less-is a b = go (less_f a b) (less_f b a)
  where
    go : (s t : Bool) → is_lt (cond s Less (cond t Greater Equal)) ≡ s
    go true t = refl
    go false true = refl
    go false false = refl

pub at_most-is : (a b : Fixed) → is_le (int_cmp a.bits b.bits) ≡ at_most_f a b
at_most-is a b = go (less_f a b) refl (less_f b a) refl (at_most_f a b) refl
  where
    go : (s : Bool) → less_f a b ≡ s → (t : Bool) → less_f b a ≡ t → (r : Bool) → at_most_f a b ≡ r →
        is_le (cond s Less (cond t Greater Equal)) ≡ r
    go true p t q true o = refl
    go true p t q false o = absurd (omega heights)
    go false p true q true o = absurd (omega heights)
    go false p true q false o = refl
    go false p false q true o = refl
    go false p false q false o = absurd (omega heights)
