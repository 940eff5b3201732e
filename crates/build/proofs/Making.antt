-- The parts of a build, one after the other, are the build. Assumes nothing.
use mathlib.Core.Path.{◌≡◌, refl, sym, ap, ◌∙◌}
use mathlib.Core.Bool.{Bool, true, false}
use mathlib.Core.List.{List}
use Prim.Native.Nat.{ℕ, min}
use lib.IntN.{ℤ}
use lib.ListN.{take, replicate}
use Rattle.fixed.specs.declared.Fixed.{Fixed}
use Rattle.fixed.proofs.Counts.{take-least}
use Rattle.stems.specs.declared.mask.HintMask.{HintMask}
use Rattle.stems.specs.declared.edge.Hint.{Hint}
use Rattle.stems.specs.declared.edge.StemHint.{StemHint}
use Rattle.stems.specs.declared.edge.Stems.{Stems}
use Rattle.stems.specs.Mask.{of_bytes}
use Rattle.stems.specs.Lists.{stems_in}
use Rattle.stems.proofs.Places.{stems-long}
use Rattle.zones.specs.declared.state.HintState.{HintState}
use Rattle.hintmap.specs.declared.map.HintMap.{HintMap}
use Rattle.hintmap.specs.Map.{new_map, valid_map}
use Rattle.hintmap.specs.Lent.{map_in}
use Rattle.hintmap.proofs.Lent.{view-map}
use Rattle.adjust.specs.Second.{adjust_of}
use Rattle.adjust.specs.Adjusted.{Adjusted}
use Rattle.build.specs.Ghosts.{baselined}
use Rattle.build.specs.Place.{Placed, declared_in, locked_turns, free_turns}
use Rattle.build.specs.Build.{boxed_map, saved_all, built_with, placed_of, initial_of, built_of}
use Rattle.build.specs.Made.{placed_in, Boxed, Baselined, Locked, Freed, SavedIn, MadeInitial, MadeMap}

-- as many stems are declared as there is room for
declared-least : (ns : List ℤ) (count k : ℕ) → k ≡ min count 96 →
    declared_in (stems_in ns k) ≡ declared_in (stems_in ns count)
unfolding stems_in
declared-least ns count k e =
    ap (λ (n : ℕ). take n (stems_in ns count).list) e ∙
    take-least count 96 (stems_in ns count).list (stems-long ns count)

module _ (st : HintState) (ns : List ℤ) (count k : ℕ) (e : k ≡ min count 96) where
  abbrev s : Fixed
  s = st.scale

  abbrev ss : Stems
  ss = stems_in ns count

  -- the first round, after the em box
  locked-is : (initial : HintMap) (given : Bool) (mask : List ℕ) (n₁ n₂ : ℕ) (l₁ l₂ : List ℤ) (t₁ t₂ rest : List ℕ) →
      Boxed st.do_em_box_hints s n₁ l₁ t₁ → Locked st (stems_in ns k) l₁ t₁ n₁ mask n₂ l₂ t₂ rest →
      placed_in l₂ t₂ n₂ s rest ≡ locked_turns st initial given 0 (declared_in ss)
      (record { map = boxed_map st initial given; rest = of_bytes mask })
  locked-is initial given mask n₁ n₂ l₁ l₂ t₁ t₂ rest b l =
      l.placed initial given ∙
      ap (λ (xs : List StemHint). locked_turns st initial given 0 xs (placed_in l₁ t₁ n₁ s mask))
      (declared-least ns count k e) ∙
      ap (λ (m : HintMap). locked_turns st initial given 0 (declared_in ss) (record { map = m; rest = of_bytes mask }))
      (b.map initial given)

  pub initial-is : (n₁ n₂ n₃ : ℕ) (l₁ l₂ l₃ l₄ : List ℤ) (t₁ t₂ t₃ rest : List ℕ) (by : List ℤ) →
      Boxed st.do_em_box_hints s n₁ l₁ t₁ →
      Locked st (stems_in ns k) l₁ t₁ n₁ (replicate 12 255) n₂ l₂ t₂ rest → Baselined l₂ t₂ n₂ s n₃ l₃ t₃ →
      Adjusted l₃ t₃ n₃ l₄ by → MadeInitial st ss n₃ l₄ t₃
  unfolding initial_of
  initial-is n₁ n₂ n₃ l₁ l₂ l₃ l₄ t₁ t₂ t₃ rest by b l c a =
      let p = locked-is (new_map s) false (replicate 12 255) n₁ n₂ l₁ l₂ t₁ t₂ rest b l in
      record {
        lent = a.lent;
        map =
            ap valid_map
            (a.map s ∙ ap adjust_of (c.map ∙ ap (λ (q : Placed). baselined q.map) p));
      }

  pub map_is : (mask : HintMask) (base : List ℤ) (size : ℕ) (s₀ : Fixed) (n₁ n₂ n₃ : ℕ) (l₁ l₂ l₃ l₄ : List ℤ)
      (t₁ t₂ t₃ rest : List ℕ) (ns' by : List ℤ) → Boxed st.do_em_box_hints s n₁ l₁ t₁ →
      Locked st (stems_in ns k) l₁ t₁ n₁ mask.bytes n₂ l₂ t₂ rest →
      Freed s (stems_in ns k) l₂ t₂ n₂ rest base size s₀ n₃ l₃ t₃ → Adjusted l₃ t₃ n₃ l₄ by → SavedIn ns l₄ t₃ n₃ ns' →
      MadeMap st mask ns count base size s₀ n₃ l₄ t₃ ns'
  unfolding built_of
  map_is mask base size s₀ n₁ n₂ n₃ l₁ l₂ l₃ l₄ t₁ t₂ t₃ rest ns' by b l f a v =
      record {
        lent = a.lent;
        long = v.long;
        built = λ initial q o.
            let p = locked-is initial true mask.bytes n₁ n₂ l₁ l₂ t₁ t₂ rest b l in
            let m : map_in l₄ t₃ n₃ s ≡ adjust_of (placed_of st mask initial ss) =
            a.map s ∙ ap adjust_of (f.map st initial refl q o ∙
            ap (λ (xs : List StemHint). (free_turns st initial 0 xs (placed_in l₂ t₂ n₂ s rest)).map)
            (declared-least ns count k e) ∙ ap (λ (x : Placed). (free_turns st initial 0 (declared_in ss) x).map) p) in
            ap (λ (x : Stems). record { map = valid_map (map_in l₄ t₃ n₃ s); stems = x })
            (v.stems count ∙ ap (λ (es : List Hint). saved_all es ss) (sym (view-map l₄ t₃ n₃ a.lent.fits s))) ∙
            ap (λ (x : HintMap). built_with (valid_map x) ss) m;
      }
