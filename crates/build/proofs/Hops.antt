-- A walk from one active stem to the next, by a mask of its own out of which it takes them: where it
-- stands, and what it passes over. Assumes nothing.
use mathlib.Core.Path.{◌≡◌, refl, sym, ◌∙◌}
use mathlib.Core.Bool.{true, false}
use Prim.Native.Nat.{ℕ, ◌+◌, ◌<◌, ◌≤◌}
use native.Mathlib.Omega.{arith}
use Rattle.stems.specs.declared.mask.HintMask.{HintMask}
use Rattle.stems.specs.Mask.{is_active, TookFirst}
use Rattle.stems.proofs.FirstStem.{first_off, first_on, first-behind, took-off, took-keeps}

-- the walk has come to stem i, which is still to be placed: of those that are, its own mask has the ones
-- behind it, and no other
pub record Ahead (left rest : HintMask) (i : ℕ) : Type 0 where
  pub active : i < 96 → is_active rest i ≡ true
  pub behind : (j : ℕ) → i < j → is_active left j ≡ is_active rest j
  pub done : (j : ℕ) → j ≤ i → j < 96 → is_active left j ≡ false

-- it has come there from a stem on, and those between are not to be placed
pub record Hop (left rest : HintMask) (from i : ℕ) : Type 0 where
  pub ahead : Ahead left rest i
  pub on : from ≤ i
  pub off : (j : ℕ) → from ≤ j → j < i → is_active rest j ≡ false

-- the first stem of its own mask is the next
hop : {m left rest : HintMask} {i : ℕ} (from : ℕ) → from ≤ 96 → TookFirst m i left →
    ((j : ℕ) → from ≤ j → is_active m j ≡ is_active rest j) →
    ((j : ℕ) → j < from → is_active m j ≡ false) → Hop left rest from i
hop {m} {left} {rest} {i} from l t same none =
    let on : from ≤ i = rw t.stem (first-behind m from l none) in
    record {
      ahead = record {
        active = λ h. sym (same i on) ∙ rw t.stem (first_on m (rw t.stem at h));
        behind = λ j g. took-keeps t j g ∙ same j (omega arith);
        done = took-off t;
      };
      on = on;
      off = λ j f g. sym (same j f) ∙ first_off m j (rw t.stem at g);
    }

-- at first it has all that are to be placed
pub hop-first : {left rest : HintMask} {i : ℕ} → TookFirst rest i left → Hop left rest 0 i
hop-first t = hop 0 (omega arith) t (λ j h. refl) (λ j h. absurd (omega arith))

-- it goes on when the stem has had its turn, which changes no other
pub hop-on : {left rest left' rest' : HintMask} {i i' : ℕ} → Ahead left rest i → i < 96 → TookFirst left i' left' →
    ((j : ℕ) → (i ≡ j → ⊥) → is_active rest' j ≡ is_active rest j) → Hop left' rest' (i + 1) i'
hop-on {i = i} a h t others =
    hop (i + 1) (omega arith) t (λ j l. a.behind j (omega arith) ∙ sym (others j (λ w. omega arith)))
    (λ j l. a.done j (omega arith) (omega arith))
