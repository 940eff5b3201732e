-- What an insertion into a map's lists comes to, by the four tests at its place. Assumes nothing.
use mathlib.Core.Path.{◌≡◌, refl, sym, ◌∙◌}
use mathlib.Core.Bool.{Bool, true, false, not}
use mathlib.Core.List.{List}
use Prim.Native.Nat.{ℕ, ◌-◌, ◌≤◌, ◌<◌}
use native.Mathlib.Omega.{arith}
use lib.IntN.{ℤ}
use lib.ListN.{length, drop, drop_of_length-le}
use lib.Seq.{drop-cons}
use Rattle.stems.specs.declared.edge.Hint.{Hint}
use Rattle.stems.specs.Edge.{no_hint}
use Rattle.stems.specs.Lists.{hint_in, held}
use Rattle.hintmap.specs.declared.insert.Edges.{Edges}
use Rattle.std.proofs.Common.{Some, None}
use Rattle.hintmap.specs.Map.{place_among, clear_ahead, clear_behind}
use Rattle.hintmap.specs.Insert.{first_edge, may_enter, char_clear, below_clear, above_clear, only_if}
use Rattle.hintmap.specs.Lent.{map_in, Comes}
use Rattle.hintmap.proofs.Near.{behind-at, behind-none}
use Rattle.hintmap.proofs.Placed.{four, outcome-none}
use Rattle.hintmap.proofs.Lent.{held-length, held_at, view-map}

-- the place of edges among those that the first n places of lists hold
pub record Here (ls : List ℤ) (ts : List ℕ) (n : ℕ) (e : Edges) (at : ℕ) : Type 0 where
  pub fits : n ≤ 96
  pub place : at ≡ place_among (held ls ts n) (first_edge e).cs_coord

-- what is dropped is so under any test before
either : (b : Bool) → only_if b None ≡ None
either true = refl
either false = refl

module _ {ls : List ℤ} {ts : List ℕ} {n : ℕ} {e : Edges} {at : ℕ} (h : Here ls ts n e at) where
  abbrev es : List Hint
  es = held ls ts n

  -- the tests decide
  pub decided : {a b c d : Bool} → may_enter n e ≡ a → char_clear (drop at es) e ≡ b → below_clear es at e ≡ c →
      above_clear (drop at es) e ≡ d →
      Comes ls ts n e (only_if a (only_if b (only_if c (only_if d (Some (at, e))))))
  unfolding map_in four
  decided p q r t =
      λ s initial. sym (outcome-none (map_in ls ts n s) e initial ∙
      rw (view-map ls ts n h.fits s, sym h.place, p, q, r, t))

  -- the code asks for the edge before ahead of that in character height
  pub no-below : may_enter n e ≡ true → below_clear es at e ≡ false → Comes ls ts n e None
  no-below p r = rw (either (char_clear (drop at es) e)) at (decided p refl r refl)

  -- a test of the edge that code read at a place, or of none
  module _ (f : Hint → Bool) where
    pub tested : {x : Hint} {r b : Bool} → at < n → x ≡ hint_in ls ts at → r ≡ f x → r ≡ b →
        clear_ahead f (drop at es) ≡ not b
    unfolding clear_ahead
    tested l p q t =
        let k : at < length es = omega (arith, held-length ls ts n h.fits) in
        rw (drop-cons es at no_hint k, held_at ls ts n h.fits at l, sym p, sym q, t)

    pub none-there : n ≤ at → clear_ahead f (drop at es) ≡ true
    unfolding clear_ahead
    none-there l = rw (drop_of_length-le es {i = at} (omega (arith, held-length ls ts n h.fits)))

    pub tested-before : {x : Hint} {r b : Bool} → 0 < at → at ≤ n → x ≡ hint_in ls ts (at - 1) → r ≡ f x → r ≡ b →
        clear_behind f es at ≡ not b
    tested-before l k p q t =
        behind-at f es at l ∙ rw (held_at ls ts n h.fits (at - 1) (omega arith), sym p, sym q, t)

    pub none_before : at ≤ 0 → clear_behind f es at ≡ true
    none_before l = behind-none f es at l
