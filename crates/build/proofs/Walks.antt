-- A round as a walk over a mask takes it, from one active stem to the next, since the turn of any other
-- changes nothing. Assumes nothing.
use mathlib.Core.Path.{◌≡◌, refl, sym, ◌∙◌}
use mathlib.Core.Bool.{Bool, true, false}
use mathlib.Core.List.{List, ◌∷◌}
use Prim.Native.Nat.{ℕ, zero, suc, ◌+◌, ◌≤◌, ◌<◌}
use native.Mathlib.Numerals.{add-one}
use native.Mathlib.Omega.{arith}
use lib.Dec.{ltb}
use lib.ListN.{length, take, drop, get_or}
use borrow.Author.Tests.{ltb-true, ltb-false}
use Rattle.stems.specs.declared.edge.StemHint.{StemHint}
use Rattle.stems.specs.declared.edge.Stems.{Stems}
use Rattle.stems.specs.Mask.{is_active}
use Rattle.stems.proofs.Masks.{clear-keeps}
use Rattle.zones.specs.declared.state.HintState.{HintState}
use Rattle.zones.proofs.Taken.{taken_more, taken-ends}
use Rattle.hintmap.specs.declared.map.HintMap.{HintMap}
use Rattle.build.specs.Place.{Placed, declared_in, locked_turn, free_turn}
use Rattle.build.proofs.Steps.{locked-cases, free-cases}
use Rattle.build.proofs.Rounds.{Round}

-- the turn of a stem that is not active changes nothing, and none changes whether another stem is
-- still to be placed
pub record Passing (turn : Placed → ℕ → StemHint → Placed) : Type 0 where
  pub skips : (p : Placed) (i : ℕ) (x : StemHint) → is_active p.rest i ≡ false → turn p i x ≡ p
  pub others : (p : Placed) (i j : ℕ) (x : StemHint) → (i ≡ j → ⊥) →
      is_active (turn p i x).rest j ≡ is_active p.rest j

locked-stays : (st : HintState) (initial : HintMap) (given : Bool) (p : Placed) (i : ℕ) (x : StemHint) →
    is_active p.rest i ≡ false → locked_turn st initial given p i x ≡ p
unfolding locked_turn
locked-stays st initial given p i x a = rw a

-- so it is in the first round
pub locked-passing : (st : HintState) (initial : HintMap) (given : Bool) → Passing (locked_turn st initial given)
locked-passing st initial given =
    record {
      skips = locked-stays st initial given;
      others = λ p i j x n.
          locked-cases initial p i x (λ (q : Placed). is_active q.rest j ≡ is_active p.rest j) refl st given
          (λ e. clear-keeps p.rest i j n);
    }

free-stays : (st : HintState) (initial : HintMap) (p : Placed) (i : ℕ) (x : StemHint) →
    is_active p.rest i ≡ false → free_turn st initial p i x ≡ p
unfolding free_turn
free-stays st initial p i x a = rw a

-- and in the second
pub free-passing : (st : HintState) (initial : HintMap) → Passing (free_turn st initial)
free-passing st initial =
    record {
      skips = free-stays st initial;
      others = λ p i j x n.
          free-cases initial p i x (λ (q : Placed). is_active q.rest j ≡ is_active p.rest j) refl st (λ e. refl);
    }

-- of the first n stems what is left, taken from stem i on, gives the whole, be stem i declared or not
abbrev pub Rest : (ℕ → List StemHint → Placed → Placed) → Stems → ℕ → Placed → Placed → ℕ → Type 0
Rest turns ss n p q i = turns i (drop i (take n ss.list)) q ≡ turns 0 (declared_in ss) p

module _ {turn : Placed → ℕ → StemHint → Placed} {turns : ℕ → List StemHint → Placed → Placed} (r : Round turn turns)
    (ss : Stems) (n : ℕ) (f : n ≤ length ss.list) where
  -- a turn takes stem i
  pub rest-more : (p q q' : Placed) (i : ℕ) (d : StemHint) → i < n → Rest turns ss n p q i →
      turn q i (get_or ss.list i d) ≡ q' → Rest turns ss n p q' (i + 1)
  rest-more p q q' i d l h e =
      let s : drop i (take n ss.list) ≡
      get_or ss.list i d ∷ drop (i + 1) (take n ss.list) = taken_more n ss.list f i d l in
      rw (← e) (rw add-one (sym (r.more i (get_or ss.list i d) (drop (suc i) (take n ss.list)) q)) ∙ rw s at h)

  -- after the last stem nothing is left
  pub rest-ends : (p q : Placed) (i : ℕ) → n ≤ i → Rest turns ss n p q i → q ≡ turns 0 (declared_in ss) p
  rest-ends p q i l h = sym (r.ends i q) ∙ rw (taken-ends n ss.list f i l) at h

  -- a turn that changes nothing is passed over, be the stem declared or not
  rest-passes : (p q : Placed) (i : ℕ) (d : StemHint) → ((x : StemHint) → turn q i x ≡ q) →
      Rest turns ss n p q i → Rest turns ss n p q (i + 1)
  rest-passes p q i d s h = go (ltb i n) refl
    where
      go : (t : Bool) → ltb i n ≡ t → Rest turns ss n p q (i + 1)
      go true e = rest-more p q q i d (ltb-true i n e) h (s (get_or ss.list i d))
      go false e =
          let l = ltb-false i n e in
          rw (taken-ends n ss.list f (i + 1) (omega arith)) (r.ends (i + 1) q ∙ rest-ends p q i l h)

  -- and so are k of them
  pub rest-hops : (p q : Placed) (d : StemHint) (k i : ℕ) →
      ((j : ℕ) (x : StemHint) → i ≤ j → j < i + k → turn q j x ≡ q) → Rest turns ss n p q i →
      Rest turns ss n p q (i + k)
  rest-hops p q d zero i s h =
      let z : i + 0 ≡ i = omega arith in
      rw z h
  rest-hops p q d (suc k) i s h =
      let z : i + suc k ≡ (i + 1) + k = omega arith in
      rw z (rest-hops p q d k (i + 1) (λ j x l g. s j x (omega arith) (omega arith))
      (rest-passes p q i d (λ x. s i x (omega arith) (omega arith)) h))
