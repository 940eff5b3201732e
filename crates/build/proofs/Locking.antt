-- A stem that is locked or captured is put in with a locked edge first, so that no initial map places
-- it again. Assumes nothing.
use mathlib.Core.Path.{◌≡◌, refl, sym}
use mathlib.Core.Bool.{Bool, true, false, ◌&&◌, ◌||◌, true≢false}
use Prim.Native.Nat.{ℕ}
use lib.ListN.{take}
use Rattle.fixed.specs.declared.Fixed.{Fixed}
use Rattle.stems.specs.declared.edge.StemHint.{StemHint}
use Rattle.stems.specs.declared.edge.Side.{Side}
use Rattle.stems.specs.declared.edge.Side.TheVariants.{Bottom, Top}
use Rattle.stems.specs.declared.edge.Hint.{Hint}
use Rattle.stems.specs.declared.edge.Shape.{Shape}
use Rattle.stems.specs.declared.edge.Shape.TheVariants.{BottomGhost, TopGhost, Pair}
use Rattle.stems.specs.Edge.{is_valid, shape_of, edge_of, used_by, setup_of}
use Rattle.zones.specs.declared.state.HintState.{HintState}
use Rattle.std.specs.Prelude.{Option, Some, None}
use Rattle.zones.specs.declared.blues.BlueZone.{BlueZone}
use Rattle.zones.specs.declared.capture.Captured.{Captured}
use Rattle.zones.specs.Capture.{first_holding, lifted, captured_by, capture_of}
use Rattle.zones.proofs.Holding.{capture-keeps}
use Rattle.hintmap.specs.declared.map.HintMap.{HintMap}
use Rattle.hintmap.specs.declared.insert.Edges.{Edges}
use Rattle.hintmap.specs.Insert.{chosen, Valid, first_edge, insert_in}
use Rattle.hintmap.proofs.Made.{made-valid, made-setup}
use Rattle.hintmap.proofs.Placed.{insert-locked as first-locked}
use Rattle.build.specs.Place.{prepared_by, prepared_of}

-- the first of a stem's edges is locked
abbrev Locks : Shape → Hint → Hint → Type 0
Locks h b t = (first_edge (chosen h b t)).locked ≡ true

-- an edge of a stem that is used or not
abbrev side_by : Bool → Shape → StemHint → ℕ → Fixed → Side → Hint
side_by u h x i s b = used_by (u && is_valid (edge_of h b i s)) x (edge_of h b i s)

-- a stem with a locked edge is used, and so is each of its valid edges locked
used-locks : (u : Bool) (h : Shape) (x : StemHint) (i : ℕ) (s : Fixed) →
    ((side_by u h x i s Bottom).locked || (side_by u h x i s Top).locked) ≡ true →
    Locks h (side_by u h x i s Bottom) (side_by u h x i s Top)
unfolding edge_of chosen
used-locks true (BottomGhost a) x i s p = refl
used-locks true (TopGhost a) x i s p = refl
used-locks true (Pair a b) x i s p = refl
used-locks false (BottomGhost a) x i s p = p
used-locks false (TopGhost a) x i s p = p
used-locks false (Pair a b) x i s p = p

-- a captured edge that is valid is locked
lifted-locks : (h : Shape) (b t : Hint) (by : Fixed) → Valid (chosen h b t) → Locks h (lifted b by) (lifted t by)
unfolding Valid chosen
lifted-locks (BottomGhost a) b t by v = (capture-keeps b by).locks v
lifted-locks (TopGhost a) b t by v = (capture-keeps t by).locks v
lifted-locks (Pair a c) b t by v = (capture-keeps b by).locks v.0

module _ (st : HintState) (x : StemHint) (i : ℕ) where
  abbrev own : Side → Hint
  own b = setup_of x i st.scale b

  abbrev LocksIf : Captured → Type 0
  LocksIf c = c.captured ≡ true → Locks (shape_of x) c.bottom c.top

  -- locked or captured, a stem's first edge is locked
  prepared-locks : LocksIf (prepared_of st x i)
  unfolding prepared_of capture_of setup_of
  prepared-locks =
      go ((own Bottom).locked || (own Top).locked) refl
      (held (first_holding st.blue_fuzz (own Bottom) (own Top) (take st.zone_count st.zones)))
    where
      held : (h : Option BlueZone) → LocksIf (captured_by h st (own Bottom) (own Top))
      held None p = absurd (true≢false (sym p))
      held (Some z) p = lifted-locks (shape_of x) _ _ _ (made-valid _ (made-setup x i st.scale))

      go : (l : Bool) → ((own Bottom).locked || (own Top).locked) ≡ l → LocksIf (capture_of st (own Bottom) (own Top)) →
          LocksIf (prepared_by l st (own Bottom) (own Top))
      go true e f p = used-locks x.is_used (shape_of x) x i st.scale e
      go false e f p = f p

  -- so it is put in as it is, whatever initial map is given
  pub insert-locked : {h : Shape} {c : Captured} {e : Edges} → h ≡ shape_of x → c ≡ prepared_of st x i →
      c.captured ≡ true → e ≡ chosen h c.bottom c.top → (m initial : HintMap) (given : Bool) →
      insert_in m e initial given ≡ insert_in m e initial false
  insert-locked {h} {c} {e} p q t w m initial given =
      let l : (first_edge e).locked ≡ true = rw (w, p, q) (prepared-locks (rw q at t)) in
      sym (first-locked m e initial initial given l)
