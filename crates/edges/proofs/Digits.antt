-- Laws of an argument: its tests and its number, digit by digit. Assumes nothing.
use mathlib.Core.Path.{◌≡◌, refl, ap}
use Rattle.std.specs.List.{list_all}
use Rattle.std.specs.Char.{is_ascii_digit}
use mathlib.Core.Bool.{Bool, true, false, ◌&&◌}
use mathlib.Core.List.{List, [], ◌∷◌}
use Prim.Native.Nat.{ℕ, ◌+◌, ◌-◌, ◌*◌, ◌≤◌, ◌<◌, min}
use native.Mathlib.Numerals.{add-one}
use native.Mathlib.Omega.{arith}
use lib.Dec.{eqb, ltb, leb}
use lib.ListN.{length, drop, get_or, drop_of_length-le}
use lib.Seq.{drop-cons}
use borrow.Author.Tests.{ltb-true, ltb-false, le-leb, lt-leb}
use Rattle.decimal.specs.Decimal.{read_on}
use Rattle.edges.specs.Page.{all_digits, is_number}

-- ---- whether it is a number
pub some_number : (ds : List ℕ) → eqb (length ds) 0 ≡ false → is_number ds ≡ all_digits ds
some_number ds h = rw h

below-colon : (d : ℕ) → leb d 57 ≡ ltb d 58
below-colon d = go (ltb d 58) refl
  where
    go : (t : Bool) → ltb d 58 ≡ t → leb d 57 ≡ ltb d 58
    go true e = rw (e, le-leb d 57 (omega (arith, ltb-true d 58 e)))
    go false e = rw (e, lt-leb d 57 (omega (arith, ltb-false d 58 e)))

and-again : (a b c : Bool) → (a && b && c) ≡ (a && (b && c))
and-again true b c = refl
and-again false b c = refl

pub digits-are : (ds : List ℕ) → list_all is_ascii_digit ds ≡ all_digits ds
unfolding all_digits
digits-are [] = refl
digits-are (d ∷ ds) = rw (digits-are ds, below-colon d) (and-again (leb 48 d) (ltb d 58) (all_digits ds))

-- ---- its number
module _ (ds : List ℕ) (i : ℕ) (h : i < length ds) where
  pub read_first : (n : ℕ) → read_on n (drop i ds) ≡ read_on (10 * n + (get_or ds i 0 - 48)) (drop (i + 1) ds)
  unfolding read_on
  read_first n = rw (drop-cons ds i 0 h, add-one)

-- behind the last digit
pub all_read : (ds : List ℕ) (i n : ℕ) → length ds ≤ i → read_on n (drop i ds) ≡ n
unfolding read_on
all_read ds i n h = ap (read_on n) (drop_of_length-le ds h)

-- a number may be cut to the most at any digit
pub read-cut : (ds : List ℕ) (n m : ℕ) → min n 4294967295 ≡ min m 4294967295 →
    min (read_on n ds) 4294967295 ≡ min (read_on m ds) 4294967295
unfolding read_on
read-cut [] n m e = e
read-cut (d ∷ ds) n m e = read-cut ds (10 * n + (d - 48)) (10 * m + (d - 48)) (omega (arith, e))
