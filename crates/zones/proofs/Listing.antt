-- What a list of numbers holds of zones, and after one is written there. Assumes nothing.
use mathlib.Core.Path.{◌≡◌, sym, ap, ◌∙◌}
use mathlib.Core.List.{List}
use Prim.Native.Nat.{ℕ, ◌+◌, ◌<◌}
use native.Mathlib.Omega.{arith}
use lib.IntN.{ℤ}
use lib.ListN.{length, get_or, length-set}
use lib.Seq.{ext_get_or}
use Rattle.stems.specs.Lists.{mark_if}
use Rattle.stems.proofs.Places.{length-tabulate, get_d_tabulate, five-other, five-0, five-1, five-2, five-3, five-4}
use Rattle.stems.proofs.Places.{mark-is}
use Rattle.zones.specs.declared.blues.BlueZone.{BlueZone}
use Rattle.zones.specs.declared.state.HintState.{HintState}
use Rattle.zones.specs.declared.state.Gauge.{Gauge}
use Rattle.zones.specs.Zones.{no_zone}
use Rattle.zones.specs.Numbers.{zone_in, zones_in, set_zone, gauge_of, state_by, state_in, ListedZones}

pub zones-long : (l : List ℤ) → length (zones_in l) ≡ 12
unfolding zones_in
zones-long l = length-tabulate (zone_in l) 12

pub zone-in : (l : List ℤ) (i : ℕ) → i < 12 → get_or (zones_in l) i no_zone ≡ zone_in l i
unfolding zones_in
zone-in l i p = get_d_tabulate (zone_in l) 12 i no_zone p

-- twelve zones that are those at every place
pub all-zones : (l : List ℤ) (zs : List BlueZone) → length zs ≡ 12 →
    ((j : ℕ) → j < 12 → get_or zs j no_zone ≡ zone_in l j) → zones_in l ≡ zs
all-zones l zs e f =
    sym (ext_get_or no_zone _ _ (e ∙ sym (zones-long l)) (λ j m. f j (omega arith) ∙ sym (zone-in l j (omega arith))))

-- a state is that of its numbers and of a list that holds its zones
pub state-is : (st : HintState) (g : Gauge) (l : List ℤ) → g ≡ gauge_of st → ListedZones st l → state_in g l ≡ st
state-is st g l e z = ap (λ (h : Gauge). state_in h l) e ∙ ap (state_by (gauge_of st)) z

module _ (l : List ℤ) (long : length l ≡ 60) (i : ℕ) (p : i < 12) (z : BlueZone) where
  abbrev m : ℤ
  m = (mark_if z.is_bottom).bits

  abbrev a : ℤ
  a = z.cs_bottom_edge.bits

  abbrev b : ℤ
  b = z.cs_top_edge.bits

  abbrev c : ℤ
  c = z.cs_flat_edge.bits

  abbrev d : ℤ
  d = z.ds_flat_edge.bits

  pub set_long : length (set_zone l i z) ≡ 60
  unfolding set_zone
  set_long = simp length-set long

  -- a zone put at a place is there
  pub zone-here : zone_in (set_zone l i z) i ≡ z
  unfolding zone_in set_zone
  zone-here =
      rw (
        five-0 12 l i m a b c d long p,
        five-1 12 l i m a b c d long p,
        five-2 12 l i m a b c d long p,
        five-3 12 l i m a b c d long p,
        five-4 12 l i m a b c d long p,
        mark-is z.is_bottom,
      )

  -- and no other is changed
  pub zone-there : (j : ℕ) → j < 12 → (j ≡ i → ⊥) → zone_in (set_zone l i z) j ≡ zone_in l j
  unfolding zone_in set_zone
  zone-there j q n =
      let o = five-other 12 l i m a b c d in
      rw (
        o j n (λ e. omega arith) (λ e. omega arith) (λ e. omega arith) (λ e. omega arith),
        o (12 + j) (λ e. omega arith) (λ e. n (omega arith)) (λ e. omega arith) (λ e. omega arith) (λ e. omega arith),
        o (24 + j) (λ e. omega arith) (λ e. omega arith) (λ e. n (omega arith)) (λ e. omega arith) (λ e. omega arith),
        o (36 + j) (λ e. omega arith) (λ e. omega arith) (λ e. omega arith) (λ e. n (omega arith)) (λ e. omega arith),
        o (48 + j) (λ e. omega arith) (λ e. omega arith) (λ e. omega arith) (λ e. omega arith) (λ e. n (omega arith)),
      )
