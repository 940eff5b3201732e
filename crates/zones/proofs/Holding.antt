-- Laws of the zone that holds an edge, and of captured edges. Assumes nothing.
use mathlib.Core.Path.{◌≡◌, refl, sym, ◌∙◌}
use mathlib.Core.Bool.{Bool, true, false, cond, true≢false}
use mathlib.Core.List.{List}
use Prim.Native.Nat.{ℕ, ◌+◌, ◌≤◌, ◌<◌}
use native.Mathlib.Omega.{arith}
use lib.IntN.{ℤ}
use lib.ListN.{length, take, drop}
use Rattle.fixed.specs.declared.Fixed.{Fixed}
use Rattle.fixed.specs.Fixed.{add_f}
use Rattle.stems.specs.declared.edge.Hint.{Hint}
use Rattle.stems.specs.Edge.{is_valid, with_device, locked_at}
use Rattle.zones.specs.declared.blues.BlueZone.{BlueZone}
use Rattle.std.specs.Prelude.{Option, Some, None}
use Rattle.zones.specs.Zones.{no_zone}
use Rattle.zones.specs.Capture.{holds, first_holding, lifted}
use Rattle.zones.specs.Numbers.{zone_in, zones_in}
use Rattle.zones.proofs.Listing.{zones-long, zone-in}
use Rattle.zones.proofs.Taken.{taken_more, taken-ends}

-- the first of n zones of a list that holds, from zone i on
module _ (fuzz : Fixed) (b t : Hint) (ns : List ℤ) (n : ℕ) (few : n ≤ 12) (i : ℕ) where
  abbrev from_place : ℕ → Option BlueZone
  from_place k = first_holding fuzz b t (drop k (take n (zones_in ns)))

  room : n ≤ length (zones_in ns)
  room = omega (arith, zones-long ns)

  -- it is zone i where that holds, and is among the later ones where not
  pub holder-at : i < n → {z : BlueZone} {h : Bool} → z ≡ zone_in ns i → h ≡ holds fuzz b t z →
      from_place i ≡ cond h (Some z) (from_place (i + 1))
  unfolding first_holding
  holder-at l e f = rw (taken_more n (zones_in ns) room i no_zone l, zone-in ns i (omega arith), sym e, sym f)

  -- no zone is left
  pub holder-ends : n ≤ i → from_place i ≡ None
  unfolding first_holding
  holder-ends l = rw (taken-ends n (zones_in ns) room i l)

-- what a captured edge keeps, and that it is locked where it is valid
pub record Keeps (e r : Hint) : Type 0 where
  pub kind : r.kind ≡ e.kind
  pub synthetic : r.synthetic ≡ e.synthetic
  pub index : r.index ≡ e.index
  pub height : r.cs_coord ≡ e.cs_coord
  pub scale : r.scale ≡ e.scale
  pub locks : is_valid e ≡ true → r.locked ≡ true

-- the capture of an edge changes only its device height and its lock
pub capture-keeps : (e : Hint) (by : Fixed) → Keeps e (lifted e by)
unfolding lifted
capture-keeps e by = go (is_valid e) refl
  where
    alike : (l : Bool) (d : Fixed) → (is_valid e ≡ true → l ≡ true) → Keeps e (with_device l e d)
    alike l d k = record { kind = refl; synthetic = refl; index = refl; height = refl; scale = refl; locks = k }

    go : (v : Bool) → is_valid e ≡ v → Keeps e (cond v (locked_at e (add_f e.ds_coord by)) e)
    go true p = alike true _ (λ q. refl)
    go false p = alike e.locked e.ds_coord (λ q. absurd (true≢false (sym q ∙ p)))
