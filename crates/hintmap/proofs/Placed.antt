-- An insertion goes by the edges as they are placed: placed first, and then without an initial map, it
-- is the same. Assumes nothing.
use mathlib.Core.Path.{◌≡◌, refl, sym, ap, ◌∙◌}
use mathlib.Core.Bool.{Bool, true, false, not, ◌&&◌}
use mathlib.Core.List.{List}
use lib.ListN.{drop}
use Rattle.fixed.specs.declared.Fixed.{Fixed}
use Rattle.stems.specs.declared.edge.Hint.{Hint}
use Rattle.hintmap.specs.declared.map.HintMap.{HintMap}
use Rattle.hintmap.specs.declared.insert.Edges.{Edges}
use Rattle.hintmap.specs.declared.insert.Edges.TheVariants.{One, Two}
use Rattle.std.proofs.Common.{ℕ, Option, Some}
use Rattle.hintmap.specs.Map.{view}
use Rattle.hintmap.specs.Insert.{first_edge, may_enter, bars, again, placed_by, char_clear, below_clear, above_clear}
use Rattle.hintmap.specs.Insert.{place_for, placed_for, only_if, outcome_of, insert_by, insert_in}

and-false : (b : Bool) → (b && false) ≡ false
and-false true = refl
and-false false = refl

-- without an initial map the edges stay as they are
pub placed-none : (m : HintMap) (e : Edges) (initial : HintMap) → placed_for m e initial false ≡ e
placed-none m e initial =
    ap (λ (b : Bool). placed_by b (view initial) initial.scale m.scale e) (and-false (not (first_edge e).locked))

-- four tests of edges at their place, and of the edges as they are placed
unfoldable pub four : HintMap → Edges → Edges → Option (ℕ × Edges)
four m e p =
    only_if (may_enter m.len e)
    (only_if (char_clear (drop (place_for m e) (view m)) e)
    (only_if (below_clear (view m) (place_for m e) p)
    (only_if (above_clear (drop (place_for m e) (view m)) p) (Some (place_for m e, p)))))

-- placing leaves character heights and kinds
same_tests : (m : HintMap) (b : Bool) (es : List Hint) (s₀ s : Fixed) (e : Edges) →
    four m e (placed_by b es s₀ s e) ≡ four m (placed_by b es s₀ s e) (placed_by b es s₀ s e)
unfolding four again may_enter bars
same_tests m true es s₀ s (One e) = refl
same_tests m true es s₀ s (Two b t) = refl
same_tests m false es s₀ s e = refl

-- an outcome without an initial map
pub outcome-none : (m : HintMap) (e : Edges) (initial : HintMap) → outcome_of m e initial false ≡ four m e e
unfolding outcome_of four
outcome-none m e initial = rw (placed-none m e initial)

module _ (m : HintMap) (e : Edges) (initial other : HintMap) (given : Bool) where
  outcome-placed : outcome_of m e initial given ≡ outcome_of m (placed_for m e initial given) other false
  unfolding outcome_of four
  outcome-placed =
      same_tests m (not (first_edge e).locked && given) (view initial) initial.scale m.scale e ∙
      sym (outcome-none m (placed_for m e initial given) other)

  pub insert-placed : insert_in m e initial given ≡ insert_in m (placed_for m e initial given) other false
  unfolding insert_in
  insert-placed = ap (λ (o : Option (ℕ × Edges)). insert_by o m) outcome-placed

-- edges of which the first is locked stay where they are, whatever initial map is given
pub insert-locked : (m : HintMap) (e : Edges) (initial other : HintMap) (given : Bool) → (first_edge e).locked ≡ true →
    insert_in m e other false ≡ insert_in m e initial given
insert-locked m e initial other given l =
    let by : Bool → Edges = λ b. placed_by (not b && given) (view initial) initial.scale m.scale e in
    ap (λ (p : Edges). insert_in m p other false) (sym (ap by l)) ∙ sym (insert-placed m e initial other given)
