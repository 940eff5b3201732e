-- Both rounds over the stems, in the words of their loops. Assumes nothing.
use mathlib.Core.Path.{◌≡◌, refl, sym, ◌∙◌}
use mathlib.Core.Bool.{Bool}
use mathlib.Core.List.{List, [], ◌∷◌}
use Prim.Native.Nat.{ℕ, suc, ◌+◌, ◌≤◌, ◌<◌}
use native.Mathlib.Numerals.{add-one}
use native.Mathlib.Omega.{arith}
use lib.ListN.{length, take, drop, get_or}
use Rattle.stems.specs.declared.edge.StemHint.{StemHint}
use Rattle.zones.specs.declared.state.HintState.{HintState}
use Rattle.zones.proofs.Taken.{taken_more, taken-ends}
use Rattle.hintmap.specs.declared.map.HintMap.{HintMap}
use Rattle.build.specs.Place.{Placed}
use Rattle.stems.specs.declared.edge.Stems.{Stems}
use Rattle.build.specs.Place.{declared_in, locked_turn, free_turn, locked_turns, free_turns}

-- a round takes its turn for each stem
pub record Round (turn : Placed → ℕ → StemHint → Placed) (turns : ℕ → List StemHint → Placed → Placed) : Type 0 where
  pub ends : (i : ℕ) (p : Placed) → turns i [] p ≡ p
  pub more : (i : ℕ) (x : StemHint) (xs : List StemHint) (p : Placed) →
      turns i (x ∷ xs) p ≡ turns (suc i) xs (turn p i x)

-- the first round is one
pub locked-round : (st : HintState) (initial : HintMap) (given : Bool) →
    Round (locked_turn st initial given) (locked_turns st initial given)
unfolding locked_turns
locked-round st initial given = record { ends = λ i p. refl; more = λ i x xs p. refl }

-- the second round is one
pub free-round : (st : HintState) (initial : HintMap) → Round (free_turn st initial) (free_turns st initial)
unfolding free_turns
free-round st initial = record { ends = λ i p. refl; more = λ i x xs p. refl }

-- of the first n stems what is left, taken from stem i on, gives the whole
abbrev pub Left : (ℕ → List StemHint → Placed → Placed) → Stems → ℕ → Placed → Placed → ℕ → Type 0
Left turns ss n p q i = (turns i (drop i (take n ss.list)) q ≡ turns 0 (declared_in ss) p) × (i ≤ n)

module _ {turn : Placed → ℕ → StemHint → Placed} {turns : ℕ → List StemHint → Placed → Placed} (r : Round turn turns)
  where
    -- what holds at stem i, and holds at the next after a turn, holds after the round
    pub round_keeps : (n : ℕ) (P : ℕ → Placed → Type 0) →
        ((i : ℕ) (x : StemHint) (p : Placed) → i < n → P i p → P (suc i) (turn p i x)) →
        (i : ℕ) (xs : List StemHint) (p : Placed) → i + length xs ≡ n → P i p → P n (turns i xs p)
    round_keeps n P f i [] p e h =
        let q : i ≡ n = omega arith in
        rw (r.ends i p) (rw q at h)
    round_keeps n P f i (x ∷ xs) p e h =
        rw (r.more i x xs p) (round_keeps n P f (suc i) xs (turn p i x) (omega arith) (f i x p (omega arith) h))

    module _ (ss : Stems) (n : ℕ) (f : n ≤ length ss.list) where
      -- a turn takes stem i
      pub left-more : (p q q' : Placed) (i : ℕ) (d : StemHint) → i < n → Left turns ss n p q i →
          turn q i (get_or ss.list i d) ≡ q' → Left turns ss n p q' (i + 1)
      left-more p q q' i d l h e =
          let s : drop i (take n ss.list) ≡
          get_or ss.list i d ∷ drop (i + 1) (take n ss.list) = taken_more n ss.list f i d l in
          rw (← e) (
            rw add-one (sym (r.more i (get_or ss.list i d) (drop (suc i) (take n ss.list)) q)) ∙
                rw s at h.0,
            omega arith,
          )

      -- after the last stem nothing is left
      pub left-ends : (p q : Placed) (i : ℕ) → n ≤ i → Left turns ss n p q i → q ≡ turns 0 (declared_in ss) p
      left-ends p q i l h = sym (r.ends i q) ∙ rw (taken-ends n ss.list f i l) at h.0
