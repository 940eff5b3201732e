-- A build depends on the declared stems alone: where those are the same, so is the map, and so are the
-- declared stems after it. Assumes nothing.
use mathlib.Core.Path.{◌≡◌, sym, ap, subst, ◌∙◌}
use mathlib.Core.Bool.{true, false}
use mathlib.Core.List.{List, [], ◌∷◌, ◌++◌}
use Prim.Native.Nat.{ℕ, ◌+◌, ◌<◌}
use native.Mathlib.Numerals.{add-one}
use native.Mathlib.Omega.{arith}
use lib.ListN.{length, get_or, set, length-take, length-set}
use lib.Seq.{ext_get_or, get_or-take, take-suc-set}
use Rattle.stems.specs.declared.mask.HintMask.{HintMask}
use Rattle.stems.specs.declared.edge.StemHint.{StemHint}
use Rattle.stems.specs.declared.edge.Hint.{Hint}
use Rattle.stems.specs.declared.edge.Stems.{Stems}
use Rattle.stems.specs.Mask.{all_active}
use Rattle.zones.specs.declared.state.HintState.{HintState}
use Rattle.hintmap.specs.declared.map.HintMap.{HintMap}
use Rattle.hintmap.specs.Map.{new_map, valid_map, view}
use Rattle.adjust.specs.Second.{adjust_of}
use Rattle.build.specs.Ghosts.{baselined}
use Rattle.build.specs.Place.{declared_in, locked_turns, free_turns}
use Rattle.build.specs.Build.{boxed_map, no_stem, saved_all, initial_of, built_of}
use Rattle.build.specs.Made.{SameDeclared}
use Rattle.build.proofs.Saved.{stem_at, all-length, all-count, all_alike}

-- one stem more
abbrev pub with_one : Stems → StemHint → Stems
with_one ss x = record { list = set ss.list ss.count x; count = ss.count + 1 }

declared-one : (ss : Stems) (x : StemHint) → ss.count < length ss.list →
    declared_in (with_one ss x) ≡ declared_in ss ++ (x ∷ [])
declared-one ss x h = rw (add-one, take-suc-set)

module _ (ss ss' : Stems) (a : SameDeclared ss ss') where
  pub one_alike : (x : StemHint) → ss.count < length ss.list → SameDeclared (with_one ss x) (with_one ss' x)
  one_alike x h =
      record {
        count = ap (λ (n : ℕ). n + 1) a.count;
        room = simp length-set a.room;
        declared =
            declared-one ss x h ∙ ap (λ (xs : List StemHint). xs ++ (x ∷ [])) a.declared ∙
            sym (declared-one ss' x (omega (arith, a.count, a.room)));
      }

  -- a declared stem is the same
  stem-alike : (k : ℕ) → k < ss.count → stem_at ss k ≡ stem_at ss' k
  stem-alike k h =
      let h' : k < ss'.count = omega (arith, a.count) in
      sym (get_or-take ss.count ss.list k no_stem h) ∙
      ap (λ (xs : List StemHint). get_or xs k no_stem) a.declared ∙
      get_or-take ss'.count ss'.list k no_stem h'

  -- and so it is once some edges are saved
  saved-alike : (es : List Hint) → SameDeclared (saved_all es ss) (saved_all es ss')
  saved-alike es =
      let r = saved_all es ss in
      let r' = saved_all es ss' in
      let n = all-count es ss in
      let n' = all-count es ss' in
      let l = all-length es ss in
      let l' = all-length es ss' in
      let t = length-take r.count r.list in
      let t' = length-take r'.count r'.list in
      record {
        count = n ∙ a.count ∙ sym n';
        room = l ∙ a.room ∙ sym l';
        declared =
            ext_get_or no_stem (declared_in r) (declared_in r') (omega (arith, a.count, a.room))
            (λ k h. get_or-take r.count r.list k no_stem (omega arith) ∙
            all_alike es ss ss' k (omega arith) (omega (arith, a.room)) (stem-alike k (omega arith)) ∙
            sym (get_or-take r'.count r'.list k no_stem (omega (arith, a.count))));
      }

  module _ (st : HintState) where
    pub initial-alike : initial_of st ss ≡ initial_of st ss'
    unfolding initial_of
    initial-alike =
        ap (λ (xs : List StemHint). valid_map (adjust_of (baselined (locked_turns st (new_map st.scale) false 0 xs
        (record { map = boxed_map st (new_map st.scale) false; rest = all_active })).map))) a.declared

    module _ (mask : HintMask) (initial : HintMap) where
      pub map-alike : (built_of st mask initial ss).map ≡ (built_of st mask initial ss').map
      unfolding built_of
      map-alike =
          ap (λ (xs : List StemHint). valid_map (adjust_of (free_turns st initial 0 xs
          (locked_turns st initial true 0 xs (record { map = boxed_map st initial true; rest = mask }))).map))
          a.declared

      pub stems-alike : SameDeclared (built_of st mask initial ss).stems (built_of st mask initial ss').stems
      unfolding built_of
      stems-alike =
          let m = (built_of st mask initial ss).map in
          subst (λ (x : HintMap). SameDeclared (saved_all (view m) ss) (saved_all (view x) ss')) map-alike
          (saved-alike (view m))
