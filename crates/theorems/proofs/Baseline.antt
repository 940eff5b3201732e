-- The baseline is put into an initial map exactly if it has no edges, or all lie above 0, or all
-- below: the first edge and the last tell. Assumes nothing.
use mathlib.Core.Path.{◌≡◌, refl, ap}
use mathlib.Core.Bool.{Bool, true, false, ◌||◌}
use mathlib.Core.Logic.{inl, inr}
use Prim.Native.Nat.{ℕ, ◌-◌, ◌<◌}
use native.Mathlib.Omega.{arith}
use lib.Dec.{eqb}
use lib.ListN.{get_or}
use lib.Seq.{get_or-take}
use borrow.Author.Tests.{eqb-true, eqb-false}
use Rattle.fixed.specs.declared.Fixed.{Fixed}
use Rattle.fixed.specs.Fixed.{ZERO, less_f}
use Rattle.fixed.proofs.Order.{heights}
use Rattle.stems.specs.declared.edge.Hint.{Hint}
use Rattle.stems.specs.Edge.{no_hint}
use Rattle.zones.specs.declared.state.HintState.{HintState}
use Rattle.hintmap.specs.declared.map.HintMap.{HintMap}
use Rattle.hintmap.proofs.WholeStems.{Good}
use Rattle.stems.specs.declared.edge.Stems.{Stems}
use Rattle.build.specs.Ghosts.{uncovered, baseline_by, baselined}
use Rattle.build.specs.Build.{initial_placed}
use Rattle.build.proofs.Sound.{initial-placed-good}
use Rattle.theorems.specs.Reached.{height, Sound}
use Rattle.theorems.specs.Fitting.{Uncovered, none, above, below, Baselined}
use Rattle.theorems.proofs.Sound.{sound}

module _ (m : HintMap) (g : Good m) where
  rising : Sound m
  rising = sound m g

  abbrev high : ℕ → Fixed
  high i = (get_or m.edges i no_hint).cs_coord

  -- an edge of the map is read in its array
  read : (i : ℕ) → i < m.len → height m i ≡ high i
  read i l = ap (λ (e : Hint). e.cs_coord) (get_or-take m.len m.edges i no_hint l)

  tested : (none' first last : Bool) → eqb m.len 0 ≡ none' → less_f ZERO (high 0) ≡ first →
      less_f (high (m.len - 1)) ZERO ≡ last → (none' || (first || last)) ≡ true → Uncovered m
  tested true first last e f l t = none (eqb-true m.len 0 e)
  tested false true last e f l t =
      let n = eqb-false m.len 0 e in
      above (λ i k. let r = rising.rising 0 i (omega arith) k in let q = read 0 (omega arith) in omega heights)
  tested false false true e f l t =
      let n = eqb-false m.len 0 e in
      below (λ i k. let r = rising.rising i (m.len - 1) (omega arith) (omega arith) in
      let q = read (m.len - 1) (omega arith) in omega heights)
  tested false false false e f l t = let z : ◌≡◌ {A = ℕ} 0 1 = cc in absurd (omega arith)

  covered : (none' first last : Bool) → eqb m.len 0 ≡ none' → less_f ZERO (high 0) ≡ first →
      less_f (high (m.len - 1)) ZERO ≡ last → (none' || (first || last)) ≡ false → Uncovered m → ⊥
  covered true first last e f l t u = let z : ◌≡◌ {A = ℕ} 0 1 = cc in omega arith
  covered false true last e f l t u = let z : ◌≡◌ {A = ℕ} 0 1 = cc in omega arith
  covered false false true e f l t u = let z : ◌≡◌ {A = ℕ} 0 1 = cc in omega arith
  covered false false false e f l t (none q) = eqb-false m.len 0 e q
  covered false false false e f l t (above h) =
      let n = eqb-false m.len 0 e in
      let a = h 0 (omega arith) in
      let q = read 0 (omega arith) in
      omega heights
  covered false false false e f l t (below h) =
      let n = eqb-false m.len 0 e in
      let a = h (m.len - 1) (omega arith) in
      let q = read (m.len - 1) (omega arith) in
      omega heights

  -- the test is what 01 says, of a map in order
  pub uncovered-is : uncovered m ≡ true → Uncovered m
  unfolding uncovered
  uncovered-is t = tested (eqb m.len 0) (less_f ZERO (high 0)) (less_f (high (m.len - 1)) ZERO) refl refl refl t

  pub covered-is : uncovered m ≡ false → Uncovered m → ⊥
  unfolding uncovered
  covered-is t = covered (eqb m.len 0) (less_f ZERO (high 0)) (less_f (high (m.len - 1)) ZERO) refl refl refl t

  pub baseline-put : Baselined m (baselined m)
  unfolding baselined
  baseline-put = go (uncovered m) refl
    where
      go : (b : Bool) → uncovered m ≡ b → Baselined m (baseline_by b m)
      go true e = record { put = λ u. refl; left = λ n. absurd (n (uncovered-is e)); either = inl (uncovered-is e) }
      go false e = record { put = λ u. absurd (covered-is e u); left = λ n. refl; either = inr (covered-is e) }

-- so it is in every initial build
pub initial-baseline : (st : HintState) (ss : Stems) →
    Baselined (initial_placed st ss).map (baselined (initial_placed st ss).map)
initial-baseline st ss = baseline-put (initial_placed st ss).map (initial-placed-good st ss)
