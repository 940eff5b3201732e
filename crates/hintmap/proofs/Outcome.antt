-- What an insertion comes to: where a test fails, the same map; where all hold, the edges that were
-- asked for, at their place. Assumes nothing.
use mathlib.Core.Path.{◌≡◌, refl, sym, ap, ◌∙◌}
use mathlib.Core.Bool.{Bool, true, false, not, ◌&&◌, true≢false}
use mathlib.Core.List.{List, ◌++◌}
use Prim.Native.Nat.{ℕ, ◌≤◌}
use lib.ListN.{length, take, drop}
use Rattle.fixed.specs.declared.Fixed.{Fixed}
use Rattle.stems.specs.declared.edge.Hint.{Hint}
use Rattle.hintmap.specs.declared.map.HintMap.{HintMap}
use Rattle.hintmap.specs.declared.insert.Edges.{Edges}
use Rattle.hintmap.specs.declared.insert.Edges.TheVariants.{One, Two}
use Rattle.std.proofs.Common.{Option, Some, None}
use Rattle.hintmap.specs.Map.{view}
use Rattle.hintmap.specs.Insert.{first_edge, edges_of, may_enter, again, placed_by, char_clear, below_clear}
use Rattle.hintmap.specs.Insert.{above_clear}
use Rattle.hintmap.specs.Insert.{put_edges, place_for, placed_for, only_if, outcome_of, insert_by, insert_in}
use Rattle.hintmap.specs.WholeStems.{Alike, nil, cons}
use Rattle.hintmap.proofs.Alike.{like-device, alike_refl}
use Rattle.hintmap.proofs.Near.{place-below}
use Rattle.hintmap.proofs.Enter.{placed-enters}
use Rattle.hintmap.proofs.View.{view-edges}

-- each test, where it fails, brings about P: of order and room, of the edge at the place in
-- character height, of the edge before it and of it on the device
pub record Fails (m : HintMap) (e : Edges) (initial : HintMap) (given : Bool) (P : Type 0) : Type 0 where
  pub entry : may_enter m.len e ≡ false → P
  pub character : char_clear (drop (place_for m e) (view m)) e ≡ false → P
  pub below : below_clear (view m) (place_for m e) (placed_for m e initial given) ≡ false → P
  pub above : above_clear (drop (place_for m e) (view m)) (placed_for m e initial given) ≡ false → P

-- it leaves the map as it was
abbrev pub Dropped : HintMap → Edges → HintMap → Bool → Type 0
Dropped m e initial given = Fails m e initial given (insert_in m e initial given ≡ m)

-- each test holds
pub record Clear (m : HintMap) (e : Edges) (initial : HintMap) (given : Bool) : Type 0 where
  pub entry : may_enter m.len e ≡ true
  pub character : char_clear (drop (place_for m e) (view m)) e ≡ true
  pub below : below_clear (view m) (place_for m e) (placed_for m e initial given) ≡ true
  pub above : above_clear (drop (place_for m e) (view m)) (placed_for m e initial given) ≡ true

-- the edges of an outcome may be put at its place
abbrev pub Fits : HintMap → Option (ℕ × Edges) → Type 0
Fits m (Some (at, e)) = (at ≤ m.len) × (may_enter m.len e ≡ true)
Fits m None = Unit {0}

-- placed again or not, it differs on the device only
again-alike : (b : Bool) (es : List Hint) (s₀ s : Fixed) (e : Edges) →
    Alike (edges_of e) (edges_of (placed_by b es s₀ s e))
unfolding again
again-alike true es s₀ s (One e) = cons (like-device e _) nil
again-alike true es s₀ s (Two b t) = cons (like-device b _) (cons (like-device t _) nil)
again-alike false es s₀ s e = alike_refl (edges_of e)

module _ (m : HintMap) (e : Edges) (initial : HintMap) (given : Bool) where
  abbrev at : ℕ
  at = place_for m e

  abbrev p : Edges
  p = placed_for m e initial given

  -- where all hold, the edges enter
  pub passed : Clear m e initial given → outcome_of m e initial given ≡ Some (at, p)
  unfolding outcome_of
  passed c = rw (c.entry, c.character, c.below, c.above)

  inserted : Clear m e initial given → insert_in m e initial given ≡ put_edges m at p
  unfolding insert_in
  inserted c = rw (passed c)

  -- the edges that are put in have the kinds, stem numbers and character heights of those asked for
  pub placed_same : Alike (edges_of e) (edges_of p)
  placed_same = again-alike (not (first_edge e).locked && given) (view initial) initial.scale m.scale e

  -- what holds of edges that are dropped, and of those that enter by all tests, holds of the
  -- outcome
  cases : (Q : Option (ℕ × Edges) → Type 0) → Q None → (Clear m e initial given → Q (Some (at, p))) →
      Q (outcome_of m e initial given)
  unfolding outcome_of
  cases Q same put =
      go (may_enter m.len e) refl (char_clear (drop at (view m)) e) refl (below_clear (view m) at p) refl
      (above_clear (drop at (view m)) p) refl
    where
      go : (a : Bool) → may_enter m.len e ≡ a → (b : Bool) → char_clear (drop at (view m)) e ≡ b → (c : Bool) →
          below_clear (view m) at p ≡ c →
          (d : Bool) → above_clear (drop at (view m)) p ≡ d →
          Q (only_if a (only_if b (only_if c (only_if d (Some (at, p))))))
      go true f true g true h true k = put (record { entry = f; character = g; below = h; above = k })
      go true f true g true h false k = same
      go true f true g false h d k = same
      go true f false g c h d k = same
      go false f b g c h d k = same

  -- what holds of the map, and of the map with the edges put in, holds after the insertion
  pub by-outcome : (P : HintMap → Type 0) → P m → (Clear m e initial given → P (put_edges m at p)) →
      P (insert_in m e initial given)
  unfolding insert_in
  by-outcome P same put = cases (λ (o : Option (ℕ × Edges)). P (insert_by o m)) same put

  -- what is not entered leaves the map
  pub dropped : Dropped m e initial given
  dropped =
      let same : (Clear m e initial given → ⊥) → insert_in m e initial given ≡ m =
      λ no. by-outcome (λ (q : HintMap). q ≡ m) refl (λ c. absurd (no c)) in
      record {
        entry = λ t. same (λ c. true≢false (sym c.entry ∙ t));
        character = λ t. same (λ c. true≢false (sym c.character ∙ t));
        below = λ t. same (λ c. true≢false (sym c.below ∙ t));
        above = λ t. same (λ c. true≢false (sym c.above ∙ t));
      }

  -- what enters has its place in the map, and room
  pub outcome_fits : Fits m (outcome_of m e initial given)
  outcome_fits = cases (Fits m) tt (λ c. (place-below m _, placed-enters m e initial given ∙ c.entry))

  module _ (long : length m.edges ≡ 96) where
    -- the edges of the map with those put in
    pub view-placed : may_enter m.len e ≡ true →
        view (put_edges m at p) ≡ take at (view m) ++ (edges_of p ++ drop at (view m))
    view-placed f = view-edges m at (place-below m _) long p (placed-enters m e initial given ∙ f)

    -- what is entered is what was asked for, at the place that 01 says
    pub entered : Clear m e initial given →
        view (insert_in m e initial given) ≡ take at (view m) ++ (edges_of p ++ drop at (view m))
    entered c = ap view (inserted c) ∙ view-placed c.entry
