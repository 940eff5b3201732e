-- Zones are made of the pairs that count alone, and keep the scale that they are made at. Assumes
-- nothing.
use mathlib.Core.Path.{◌≡◌, refl, ap, ◌∙◌}
use mathlib.Core.Bool.{Bool, true, false, ◌&&◌, ◌||◌}
use mathlib.Core.List.{List, [], ◌∷◌, map}
use Prim.Native.Nat.{ℕ, ◌-◌, ◌≤◌, ◌<◌}
use native.Mathlib.Omega.{arith}
use lib.Dec.{eqb}
use lib.ListN.{length, get_or, replicate, get_or-append}
use lib.Seq.{take_at, get_or-take}
use borrow.Author.Tests.{eqb-true}
use Rattle.fixed.specs.declared.Fixed.{Fixed}
use Rattle.fixed.specs.Fixed.{ONE, div_f}
use Rattle.zones.specs.declared.blues.Blues.{Blues}
use Rattle.zones.specs.declared.blues.BlueZone.{BlueZone}
use Rattle.zones.specs.declared.blues.Nearest.{Nearest}
use Rattle.zones.specs.declared.state.HintParams.{HintParams}
use Rattle.zones.specs.Zones.{max_blues, no_blue, list_of, wholly_below, wholly_above, kept, nearest_of, family_nearest}
use Rattle.zones.specs.Zones.{with_flat, moved_flat, device_flat}
use Rattle.zones.specs.State.{icf_bottom, icf_top, is_one, em_box, suppresses, boost_of, kept_of, blue_scale_of}
use Rattle.zones.specs.State.{finished}
use Rattle.zones.specs.State.{state_with, state_by, state_of}
use Rattle.writer.specs.Refusals.{FineParams}
use Rattle.writer.proofs.Laying.{Sevens, list_length}
use Rattle.round_trips.specs.RoundTrips.{kept_blues, kept_params}

-- ---- a list of pairs, and the same with zeros past its count
module _ (b : Blues) (seven : length b.pairs ≡ max_blues) (few : b.count ≤ max_blues) where
  -- list the same pairs
  same-list : list_of (kept_blues b) ≡ list_of b
  same-list = take_at (list_of b) (replicate (max_blues - b.count) no_blue) b.count (list_length b seven few)

  -- each of those that count
  same-pair : (i : ℕ) → i < b.count → get_or (kept_blues b).pairs i no_blue ≡ get_or b.pairs i no_blue
  same-pair i h =
      get_or-append (list_of b) (replicate (max_blues - b.count) no_blue) no_blue i
      (omega (arith, list_length b seven few)) ∙
      get_or-take b.count b.pairs i no_blue h

-- ---- one function after another
map-alike : (f g : BlueZone → BlueZone) → ((z : BlueZone) → f z ≡ g z) → (zs : List BlueZone) → map f zs ≡ map g zs
map-alike f g h [] = refl
map-alike f g h (z ∷ zs) = rw (h z, map-alike f g h zs)

-- ---- parameters, and the same with zeros past each count
module _ (p : HintParams) (seven : Sevens p) (few : FineParams p) where
  abbrev q : HintParams
  q = kept_params p

  -- the blues, the other blues and the family's
  blues : list_of q.blues ≡ list_of p.blues
  blues = same-list p.blues seven.blues few.blues

  others : list_of q.other_blues ≡ list_of p.other_blues
  others = same-list p.other_blues seven.others few.others

  family : list_of q.family_blues ≡ list_of p.family_blues
  family = same-list p.family_blues seven.family few.family

  family_others : list_of q.family_other_blues ≡ list_of p.family_other_blues
  family_others = same-list p.family_other_blues seven.family_others few.family_others

  -- have em-box hints or not
  same-box : em_box q ≡ em_box p
  unfolding em_box
  same-box = by (eqb p.blues.count 2) refl
    where
      by : (t : Bool) → eqb p.blues.count 2 ≡ t →
          (is_one p.language_group && (eqb p.blues.count 0 || (t &&
          (wholly_below icf_bottom (get_or q.blues.pairs 0 no_blue) &&
          wholly_above icf_top (get_or q.blues.pairs 1 no_blue))))) ≡
          (is_one p.language_group && (eqb p.blues.count 0 || (t &&
          (wholly_below icf_bottom (get_or p.blues.pairs 0 no_blue) &&
          wholly_above icf_top (get_or p.blues.pairs 1 no_blue)))))
      by true e =
          let n = eqb-true p.blues.count 2 e in
          rw (
            same-pair p.blues seven.blues few.blues 0 (omega arith),
            same-pair p.blues seven.blues few.blues 1 (omega arith),
          )
      by false e = refl

  -- keep the same zones
  same_kept : kept_of q ≡ kept_of p
  unfolding kept
  same_kept = rw (blues, others)

  -- and move them alike
  same-moved : (limit : Fixed) (z : BlueZone) →
      moved_flat q.family_other_blues q.family_blues limit z ≡
      moved_flat p.family_other_blues p.family_blues limit z
  unfolding moved_flat nearest_of
  same-moved limit z = ap (λ (n : Nearest). with_flat z n.edge) (by z.is_bottom)
    where
      by : (t : Bool) →
          family_nearest t q.family_other_blues q.family_blues z.cs_flat_edge limit ≡
          family_nearest t p.family_other_blues p.family_blues z.cs_flat_edge limit
      by true = rw (family_others, family)
      by false = rw family

  -- so they make one state
  pub same-state : (s : Fixed) → state_of q s ≡ state_of p s
  unfolding state_of
  same-state s = ap (λ (em : Bool). state_by em q s) same-box ∙ by (em_box p)
    where
      boost : Fixed
      boost = boost_of s (blue_scale_of p)

      by : (em : Bool) → state_by em q s ≡ state_by em p s
      by true = refl
      by false =
          rw same_kept
          (ap (λ (zs : List BlueZone). state_with p s (blue_scale_of p) (suppresses s (blue_scale_of p)) false boost zs)
          (map-alike (finished q s boost) (finished p s boost)
          (λ z. ap (device_flat s boost) (same-moved (div_f ONE s) z)) (kept_of p)))

-- ---- the scale
pub state-scale : (p : HintParams) (s : Fixed) → (state_of p s).scale ≡ s
unfolding state_of
state-scale p s = go (em_box p)
  where
    go : (em : Bool) → (state_by em p s).scale ≡ s
    go true = refl
    go false = refl
