-- Which stems are used after a build, and the heights that they have: those of the map's edges.
-- Assumes nothing.
use mathlib.Core.Path.{◌≡◌, refl, sym}
use mathlib.Core.Bool.{false}
use mathlib.Core.List.{List}
use Prim.Native.Nat.{ℕ, ◌<◌}
use native.Mathlib.Nat.{lt_irrefl}
use native.Mathlib.Omega.{arith}
use lib.ListN.{length, get_or, length-take}
use Rattle.stems.specs.declared.mask.HintMask.{HintMask}
use Rattle.stems.specs.declared.edge.Hint.{Hint}
use Rattle.stems.specs.Edge.{no_hint, is_top}
use Rattle.zones.specs.declared.state.HintState.{HintState}
use Rattle.hintmap.specs.declared.map.HintMap.{HintMap}
use Rattle.hintmap.specs.Map.{view}
use Rattle.stems.specs.declared.edge.Stems.{Stems}
use Rattle.build.specs.declared.map.Built.{Built}
use Rattle.build.specs.Build.{built_of}
use Rattle.build.proofs.Saved.{stem_at, Keeps, saved-keeps, Uses, saved-used, height_of, Bears, saved-heights}
use Rattle.build.proofs.Once.{once, numbered}

module _ (st : HintState) (mask : HintMask) (initial : HintMap) (ss : Stems) where
  abbrev built : Built
  built = built_of st mask initial ss

  abbrev edges : List Hint
  edges = view built.map

  -- a build changes no stem's ends, no count and no length
  pub built-keeps : Keeps ss built.stems
  unfolding built_of
  built-keeps = saved-keeps edges ss

  -- after it a stem is used exactly if it was before, or has an edge in the map
  pub used-exactly : (k : ℕ) → k < length ss.list → Uses edges k (stem_at ss k) (stem_at built.stems k)
  unfolding built_of
  used-exactly k h = saved-used edges ss k h

  -- each edge of the map that is not synthetic has its device height saved in its stem, as that of
  -- the top or of the bottom
  pub heights-saved : (i : ℕ) → i < length edges → (get_or edges i no_hint).synthetic ≡ false →
      let e = get_or edges i no_hint in
      height_of (is_top e) (stem_at built.stems e.index) ≡ e.ds_coord
  unfolding built_of
  heights-saved i h s =
      let e = get_or edges i no_hint in
      let bears : Bears (is_top e) e.index e = record { own = record { real = s; number = refl }; side = refl } in
      saved-heights (is_top e) edges ss e.index i
      (omega (arith, numbered st mask initial ss i h s, length-take ss.count ss.list))
      (record {
        there = h;
        bears = bears;
        last = λ j f g b. lt_irrefl i (rw (sym (once st mask initial ss (is_top e) e.index i j h g bears b)) at f);
      })
