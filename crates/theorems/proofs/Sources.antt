-- Each record of a drawing's map names a stem that the drawing has, or 96: stems are declared
-- before a map is built and not while it is valid, and a build has edges of declared stems alone.
-- Assumes nothing.
use mathlib.Core.Path.{◌≡◌, refl, sym, subst, ◌∙◌}
use mathlib.Core.Bool.{Bool, true, false, not, cond, ◌&&◌, true≢false}
use mathlib.Core.List.{List, []}
use Prim.Native.Nat.{ℕ, ◌≤◌, ◌<◌}
use native.Mathlib.Omega.{arith}
use lib.Dec.{ltb, leb}
use lib.ListN.{length, get_or, length-map, length-take, get_or-map}
use borrow.Author.Tests.{ltb-true, not-true}
use Rattle.fixed.specs.declared.Fixed.{Fixed}
use Rattle.stems.specs.declared.mask.HintMask.{HintMask}
use Rattle.stems.specs.declared.edge.Hint.{Hint}
use Rattle.stems.specs.Mask.{same_mask}
use Rattle.stems.specs.Edge.{no_hint, is_pair}
use Rattle.zones.specs.declared.state.HintState.{HintState}
use Rattle.hintmap.specs.declared.map.HintMap.{HintMap}
use Rattle.hintmap.specs.Map.{view}
use Rattle.fixed.proofs.Tests.{both}
use Rattle.hintmap.proofs.Words.{pair-real}
use Rattle.build.proofs.Once.{numbered}
use Rattle.build.proofs.Used.{built-keeps}
use Rattle.hints.specs.declared.hints.Hints.{Hints}
use Rattle.hints.specs.Hints.{new_hints, stem_by, with_stem, mask_by, with_mask, initial_by, with_initial, countered}
use Rattle.hints.specs.Hints.{ready_by}
use Rattle.hints.specs.Hints.{ready_of}
use Rattle.hints.specs.Path.{has_point}
use Rattle.hints.specs.declared.drawing.Drawing.{Drawing}
use Rattle.hints.specs.Calls.{Call, stem, hint_mask, counter_mask, clear, close, draw, ready_for, hints_of, room_by}
use Rattle.hints.specs.Calls.{words_for}
use Rattle.drawing.specs.Open.{open_of}
use Rattle.listing.specs.Records.{record_of, edge_records, records_of}
use Rattle.theorems.specs.Reached.{Reached, opened, called}
use Rattle.theorems.specs.Listed.{nth, Source, stem as of_stem, none as of_none, Sourced}
use Rattle.theorems.proofs.Sound.{fine, opened-new}
use Rattle.theorems.proofs.Made.{never}

-- ---- what every drawing has
-- each edge of some that is not synthetic is one of so many stems'
abbrev Declared : ℕ → List Hint → Type 0
Declared n es =
    (i : ℕ) → i < length es → (get_or es i no_hint).synthetic ≡ false → (get_or es i no_hint).index < n

record Numbers (h : Hints) : Type 0 where
  few : h.stems.count ≤ 96
  each : h.map.is_valid ≡ true → Declared h.stems.count (view h.map)

numbers-new : (s : Fixed) → Numbers (new_hints s)
numbers-new s = record { few = omega arith; each = never }

module _ (st : HintState) (h : Hints) (f : Numbers h) where
  numbers-stem : (min max : Fixed) → Numbers (with_stem min max h)
  unfolding with_stem
  numbers-stem min max = go (not h.map.is_valid && ltb h.stems.count 96) refl
    where
      go : (b : Bool) → (not h.map.is_valid && ltb h.stems.count 96) ≡ b → Numbers (stem_by b min max h)
      go true e =
          let t = both (not h.map.is_valid) (ltb h.stems.count 96) e in
          record {
            few = omega (arith, ltb-true h.stems.count 96 t.1);
            each = λ v. never (sym (not-true h.map.is_valid t.0) ∙ v);
          }
      go false e = f

  numbers-mask : (m : HintMask) → Numbers (with_mask m h)
  unfolding with_mask
  numbers-mask m = go (same_mask m h.mask)
    where
      go : (b : Bool) → Numbers (mask_by b m h)
      go true = f
      go false = record { few = f.few; each = never }

  -- making the initial map leaves stems and current map
  numbers-initial : Numbers (with_initial st h)
  unfolding with_initial
  numbers-initial = go h.initial.is_valid
    where
      go : (b : Bool) → Numbers (initial_by b st h)
      go true = f
      go false = record { few = f.few; each = f.each }

-- a build changes no count
numbers-counter : (st : HintState) (h : Hints) → Numbers h → (m : HintMask) → Numbers (countered st m h)
unfolding countered
numbers-counter st h f m =
    let i = with_initial st h in
    let n = numbers-initial st h f in
    let k = (built-keeps st m i.initial i.stems).declared in
    record { few = rw k n.few; each = λ v. rw k (n.each v) }

-- and has edges of declared stems alone
numbers-ready : (st : HintState) (h : Hints) → Numbers h → Numbers (ready_of st h)
unfolding ready_of
numbers-ready st h f = go h.map.is_valid
  where
    go : (b : Bool) → Numbers (ready_by b st h)
    go true = f
    go false =
        let i = with_initial st h in
        let k = (built-keeps st i.mask i.initial i.stems).declared in
        record {
          few = rw k (numbers-initial st h f).few;
          each =
              λ v j l s. omega (
                arith,
                k,
                numbered st i.mask i.initial i.stems j l s,
                length-take i.stems.count i.stems.list,
              );
        }

-- every call keeps it
numbers-path : (st : HintState) (h : Hints) → Numbers h → (points : Bool) → Numbers (ready_for points st h)
numbers-path st h f true = numbers-ready st h f
numbers-path st h f false = f

numbers-call : (st : HintState) (h : Hints) → Numbers h → (c : Call) → Numbers (hints_of st h c)
numbers-call st h f (stem min max) = numbers-stem st h f min max
numbers-call st h f (hint_mask m) = numbers-mask st h f m
numbers-call st h f (counter_mask m) = numbers-counter st h f m
numbers-call st h f clear = numbers-new st.scale
numbers-call st h f close = f
numbers-call st h f (draw p) = numbers-path st h f (has_point p)

numbers-room : (b : Bool) (st : HintState) (d : Drawing) (c : Call) → Numbers d.hints →
    Numbers (room_by b st d c).hints
numbers-room true st d c f = numbers-call st d.hints f c
numbers-room false st d c f = f

numbers : {st : HintState} {d : Drawing} → Reached st d → Numbers d.hints
numbers (opened p s) =
    subst (λ (d : Drawing). Numbers d.hints) (sym (opened-new p s)) (numbers-new (open_of p s).state.scale)
numbers (called {st} {d} r c room) = numbers-room (leb (length (words_for st d c)) room) st d c (numbers r)

-- ---- so the records name stems that are there
record-source : (n : ℕ) (e : Hint) → (e.synthetic ≡ false → e.index < n) → (is_pair e ≡ true → e.synthetic ≡ false) →
    Source n (record_of e)
record-source n e l p = go e.synthetic (is_pair e) refl refl
  where
    go : (b q : Bool) → e.synthetic ≡ b → is_pair e ≡ q → Source n (record_of e)
    go false q k w = of_stem (rw k (l k))
    go true false k w = of_none (rw k) w
    go true true k w = absurd (true≢false (sym k ∙ p w))

pub sourced : {st : HintState} {d : Drawing} → Reached st d → Sourced d
unfolding records_of edge_records
sourced {d = d} r = record { few = (numbers r).few; each = go d.hints.map.is_valid refl }
  where
    m : HintMap
    m = d.hints.map

    go : (b : Bool) → m.is_valid ≡ b → (i : ℕ) → i < length (cond b (edge_records m) []) →
        Source d.hints.stems.count (nth (cond b (edge_records m) []) i)
    go true v i l =
        let k : i < length (view m) = omega (arith, length-map (view m) record_of) in
        rw (get_or-map record_of (view m) i no_hint)
        (record-source _ _ ((numbers r).each v i k) (pair-real (fine r).map.stems i k))
    go false v i l = absurd (omega arith)
