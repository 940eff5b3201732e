-- Laws of the search among a family's edges. Assumes nothing.
use mathlib.Core.Path.{◌≡◌, refl}
use mathlib.Core.Bool.{true, false, cond}
use mathlib.Core.List.{List, [], ◌∷◌, map}
use Prim.Native.Nat.{ℕ, zero, suc, ◌+◌, ◌≤◌, ◌<◌}
use native.Mathlib.Omega.{arith}
use native.Mathlib.Numerals.{add-one}
use lib.ListN.{length, take, drop, get_or, drop_of_length-le}
use lib.Seq.{drop-cons}
use Rattle.fixed.specs.declared.Fixed.{Fixed}
use Rattle.fixed.specs.Fixed.{ZERO, same_f}
use Rattle.stems.specs.declared.edge.Side.{Side}
use Rattle.zones.specs.declared.blues.Blue.{Blue}
use Rattle.zones.specs.declared.blues.Nearest.{Nearest}
use Rattle.zones.specs.Zones.{no_blue, family_edge, nearer, nearest_from, first_too}

-- the search from pair i on
abbrev pub search_from : Side → List Blue → Fixed → Fixed → Nearest → ℕ → Nearest
search_from side bs flat limit near i = nearest_from flat limit near (map (family_edge side) (drop i bs))

module _ (side : Side) (bs : List Blue) (flat limit : Fixed) (near : Nearest) (i : ℕ) where
  -- it takes in pair i, unless the nearest so far ends it
  search-at : i < length bs →
      search_from side bs flat limit near i ≡
      cond (same_f near.diff ZERO) near
      (search_from side bs flat limit (nearer flat limit near (family_edge side (get_or bs i no_blue))) (i + 1))
  unfolding nearest_from
  search-at l = rw (drop-cons bs i no_blue l, add-one i)

  -- a distance of 0 ends it
  pub search-found : i < length bs → same_f near.diff ZERO ≡ true → search_from side bs flat limit near i ≡ near
  search-found l t = rw (search-at l, t)

  -- any other distance lets it take in pair i
  pub search-goes : i < length bs → same_f near.diff ZERO ≡ false →
      search_from side bs flat limit near i ≡
      search_from side bs flat limit (nearer flat limit near (family_edge side (get_or bs i no_blue))) (i + 1)
  search-goes l t = rw (search-at l, t)

  -- the end of the list ends it
  pub search-ends : length bs ≤ i → search_from side bs flat limit near i ≡ near
  unfolding nearest_from
  search-ends l = rw (drop_of_length-le bs l)

-- the look at the first of n pairs, where there is none and where there is one
module _ (flat limit : Fixed) (near : Nearest) where
  pub first-none : (n : ℕ) (bs : List Blue) → n ≡ 0 → first_too flat limit near (take n bs) ≡ near
  unfolding first_too
  first-none n bs e = rw e

  pub first_some : (n : ℕ) (bs : List Blue) → 0 < n → 0 < length bs →
      first_too flat limit near (take n bs) ≡ nearer flat limit near (get_or bs 0 no_blue).top
  unfolding first_too
  first_some zero bs some l = absurd (omega arith)
  first_some (suc n) [] some l = absurd (omega arith)
  first_some (suc n) (b ∷ bs) some l = refl
