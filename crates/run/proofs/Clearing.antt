-- A mask of all stems, one byte more by a store; and new hints, which any lists keep with it. Assumes
-- nothing.
use mathlib.Core.Path.{◌≡◌, refl, sym, ap, ◌∙◌}
use mathlib.Core.Bool.{false}
use mathlib.Core.List.{List, []}
use Prim.Native.Nat.{ℕ, ◌+◌, ◌<◌}
use native.Mathlib.Numerals.{add-one}
use native.Mathlib.Omega.{arith}
use lib.IntN.{ℤ}
use lib.ListN.{length, take, set, replicate, replicate-append-replicate}
use lib.Seq.{take_all, take-suc-set}
use Rattle.fixed.specs.declared.Fixed.{Fixed}
use Rattle.stems.specs.Lists.{stems_in}
use Rattle.stems.proofs.Places.{stems-long}
use Rattle.zones.specs.declared.state.HintState.{HintState}
use Rattle.hintmap.specs.Map.{new_map}
use Rattle.hints.specs.Hints.{new_hints}
use Rattle.run.specs.Kept.{no_sizes, KeptMap, Kept}

module _ {A : Type 0} (l : List A) (i : ℕ) (a : A) (e : take i l ≡ replicate i a) where
  -- a store clears one place more
  pub clear-more : i < length l → take (i + 1) (set l i a) ≡ replicate (i + 1) a
  clear-more h = rw (add-one, take-suc-set, e, replicate-append-replicate i 1 a, add-one)

  -- all places are cleared
  pub clear-all : (n : ℕ) → length l ≡ n → i ≡ n → l ≡ replicate n a
  clear-all n p q = sym (take_all i l (omega arith)) ∙ e ∙ ap (λ (k : ℕ). replicate k a) q

-- any lines keep a map with no edges
no_edges : (s : Fixed) (ls : List ℤ) → KeptMap s (new_map s) ls 0 false
no_edges s ls =
    record {
      lines = record { tags = []; edges = refl };
      fits = omega arith;
      order = λ i j p q. absurd (omega arith);
      scale = refl;
      valid = refl;
    }

-- any lists keep new hints, with a mask of all
pub cleared-kept : (st : HintState) {bs : List ℕ} (ns is ms : List ℤ) → bs ≡ replicate 12 255 →
    Kept st (new_hints st.scale) no_sizes bs ns is ms
unfolding stems_in
cleared-kept st ns is ms e =
    record {
      stems = record { count = refl; room = sym (stems-long ns 0); declared = refl };
      mask = rw e;
      initial = no_edges st.scale is;
      map = no_edges st.scale ms;
    }
