-- Both builds give a map in order, valid and of the state's scale, whatever stems, mask, zones and
-- initial map they get. Assumes nothing.
use mathlib.Core.Path.{◌≡◌, refl, ◌∙◌}
use mathlib.Core.Bool.{Bool, true}
use mathlib.Core.List.{List}
use Prim.Native.Nat.{ℕ, ◌+◌}
use lib.ListN.{length}
use Rattle.stems.specs.declared.mask.HintMask.{HintMask}
use Rattle.stems.specs.declared.edge.StemHint.{StemHint}
use Rattle.zones.specs.declared.state.HintState.{HintState}
use Rattle.hintmap.specs.declared.map.HintMap.{HintMap}
use Rattle.hintmap.specs.declared.insert.Edges.{Edges}
use Rattle.hintmap.specs.declared.insert.Edges.TheVariants.{One, Two}
use Rattle.hintmap.specs.Map.{new_map}
use Rattle.hintmap.specs.Insert.{put_edges}
use Rattle.hintmap.proofs.Outcome.{by-outcome}
use Rattle.hintmap.proofs.WholeStems.{Good, new-good, valid-good, insert-good}
use Rattle.adjust.specs.Second.{adjust_of}
use Rattle.adjust.proofs.Keeps.{adjust-kept, kept-length, adjust-stems}
use Rattle.build.specs.Place.{Placed}
use Rattle.stems.specs.declared.edge.Stems.{Stems}
use Rattle.build.specs.Ghosts.{baselined}
use Rattle.build.specs.Place.{declared_in, locked_turns, free_turns}
use Rattle.build.specs.Build.{boxed_map, initial_placed, placed_of, initial_of, built_of}
use Rattle.build.proofs.Steps.{Stable, boxed-keeps, baselined-keeps, locked-keeps, free-keeps}
use Rattle.build.proofs.Rounds.{locked-round, free-round, round_keeps}

-- ---- what all insertions keep
module _ (P : HintMap → Type 0) (keep : Stable P) where
  -- the first round keeps it
  locked-turns-keep : (st : HintState) (initial : HintMap) (given : Bool) (i : ℕ) (xs : List StemHint) (p : Placed) →
      P p.map → P (locked_turns st initial given i xs p).map
  locked-turns-keep st initial given i xs p h =
      round_keeps (locked-round st initial given) (i + length xs) (λ (j : ℕ) (q : Placed). P q.map)
      (λ j x q l. locked-keeps P keep st initial given q j x) i xs p refl h

  -- so does the second
  free-turns-keep : (st : HintState) (initial : HintMap) (i : ℕ) (xs : List StemHint) (p : Placed) → P p.map →
      P (free_turns st initial i xs p).map
  free-turns-keep st initial i xs p h =
      round_keeps (free-round st initial) (i + length xs) (λ (j : ℕ) (q : Placed). P q.map)
      (λ j x q l. free-keeps P keep st initial q j x) i xs p refl h

  module _ (st : HintState) (ss : Stems) (new : P (new_map st.scale)) where
    -- so it holds of what both builds adjust, if it holds of a new map
    boxed-holds : (initial : HintMap) (given : Bool) → P (boxed_map st initial given)
    boxed-holds initial given = boxed-keeps P keep st.do_em_box_hints initial given (new_map st.scale) new

    initial-holds : P (baselined (initial_placed st ss).map)
    initial-holds = baselined-keeps P keep _ (locked-turns-keep st _ _ 0 (declared_in ss) _ (boxed-holds _ _))

    placed-holds : (mask : HintMask) (initial : HintMap) → P (placed_of st mask initial ss)
    placed-holds mask initial =
        free-turns-keep st initial 0 (declared_in ss)
        _ (locked-turns-keep st initial true 0 (declared_in ss) _ (boxed-holds initial true))

-- ---- in order
-- what both builds adjust is in order
pub initial-placed-good : (st : HintState) (ss : Stems) → Good (initial_placed st ss).map
initial-placed-good st ss =
    locked-turns-keep Good insert-good st _ _ 0 (declared_in ss)
    _ (boxed-holds Good insert-good st ss (new-good st.scale) _ _)

pub baselined-good : (m : HintMap) → Good m → Good (baselined m)
baselined-good = baselined-keeps Good insert-good

pub placed-good : (st : HintState) (mask : HintMask) (initial : HintMap) (ss : Stems) →
    Good (placed_of st mask initial ss)
placed-good st mask initial ss = placed-holds Good insert-good st ss (new-good st.scale) mask initial

-- the adjustment keeps it in order
pub adjust-good : (m : HintMap) → Good m → Good (adjust_of m)
adjust-good m g =
    let k = adjust-kept m in
    record {
      within = rw k.len g.within;
      long = kept-length m (adjust_of m) k ∙ g.long;
      stems = adjust-stems m g.stems;
    }

-- the initial map is in order
pub initial-good : (st : HintState) (ss : Stems) → Good (initial_of st ss)
unfolding initial_of
initial-good st ss = valid-good _ (adjust-good _ (baselined-good _ (initial-placed-good st ss)))

-- so is every other map
pub built-good : (st : HintState) (mask : HintMask) (initial : HintMap) (ss : Stems) →
    Good (built_of st mask initial ss).map
unfolding built_of
built-good st mask initial ss = valid-good _ (adjust-good _ (placed-good st mask initial ss))

-- ---- valid, and of the state's scale
-- both builds give a valid map
pub initial-valid : (st : HintState) (ss : Stems) → (initial_of st ss).is_valid ≡ true
unfolding initial_of
initial-valid st ss = refl

pub built-valid : (st : HintState) (mask : HintMask) (initial : HintMap) (ss : Stems) →
    (built_of st mask initial ss).map.is_valid ≡ true
unfolding built_of
built-valid st mask initial ss = refl

put-scale : (m : HintMap) (at : ℕ) (e : Edges) → (put_edges m at e).scale ≡ m.scale
unfolding put_edges
put-scale m at (One e) = refl
put-scale m at (Two b t) = refl

module _ (st : HintState) where
  abbrev Scaled : HintMap → Type 0
  Scaled m = m.scale ≡ st.scale

  scaled : Stable Scaled
  scaled m e initial given made h = by-outcome m e initial given Scaled h (λ c. put-scale m _ _ ∙ h)

  -- both are of the state's scale
  pub initial-scale : (ss : Stems) → (initial_of st ss).scale ≡ st.scale
  unfolding initial_of
  initial-scale ss = (adjust-kept _).scale ∙ initial-holds Scaled scaled st ss refl

  pub built-scale : (mask : HintMask) (initial : HintMap) (ss : Stems) →
      (built_of st mask initial ss).map.scale ≡ st.scale
  unfolding built_of
  built-scale mask initial ss = (adjust-kept _).scale ∙ placed-holds Scaled scaled st ss refl mask initial
