-- A map in order, with its stems whole, is sound; and every drawing that there can be has such
-- maps, of its own scale. Assumes nothing.
use mathlib.Core.Path.{◌≡◌, refl, sym, ap, subst, ◌∙◌}
use mathlib.Core.Bool.{Bool, true, false, ◌&&◌, not}
use Prim.Native.Nat.{ℕ, zero, suc, ◌+◌, ◌<◌}
use native.Mathlib.Omega.{arith}
use lib.Dec.{ltb, leb}
use lib.IntN.{pos}
use lib.ListN.{length}
use lib.Seq.{length-take-le}
use lib.Signed.{◌<ℤ◌}
use borrow.Author.Tests.{ltb-true, ltb-false}
use Rattle.fixed.specs.declared.Fixed.{Fixed}
use Rattle.fixed.specs.Fixed.{from_bits, less_f}
use Rattle.fixed.proofs.Order.{heights}
use Rattle.stems.specs.declared.mask.HintMask.{HintMask}
use Rattle.stems.specs.declared.edge.Kind.TheVariants.{PairBottom}
use Rattle.stems.specs.Mask.{same_mask}
use Rattle.zones.specs.declared.state.HintParams.{HintParams}
use Rattle.zones.specs.declared.state.HintState.{HintState}
use Rattle.zones.specs.State.{counts_fit, em_box, state_by, state_of}
use Rattle.hintmap.specs.declared.map.HintMap.{HintMap}
use Rattle.hintmap.specs.Map.{view}
use Rattle.hintmap.specs.WholeStems.{Pair, Above}
use Rattle.hintmap.proofs.WholeStems.{Good, new-good, invalid-good}
use Rattle.hintmap.proofs.Words.{stems-ascend, bottom-top, shared}
use Rattle.hintmap.proofs.Mapping.{Mapped, mapped, Serves as ServesList, below, above, serves}
use Rattle.build.proofs.Sound.{initial-good, built-good, initial-scale, built-scale}
use Rattle.hints.specs.declared.hints.Hints.{Hints}
use Rattle.hints.specs.Hints.{new_hints, stem_by, with_stem, mask_by, with_mask, initial_by, with_initial, countered}
use Rattle.hints.specs.Hints.{ready_by}
use Rattle.hints.specs.Hints.{ready_of}
use Rattle.hints.specs.Path.{has_point}
use Rattle.hints.specs.declared.drawing.Drawing.{Drawing}
use Rattle.hints.specs.Calls.{Call, stem, hint_mask, counter_mask, clear, close, draw, ready_for, hints_of, room_by}
use Rattle.hints.specs.Calls.{words_for}
use Rattle.hints.specs.Calls.{new_drawing}
use Rattle.drawing.specs.Open.{open_by, open_of}
use Rattle.theorems.specs.Reached.{Reached, opened, called, edge, height, OneStem, LastBelow, Carrier, by_edge}
use Rattle.theorems.specs.Reached.{by_first, by_scale, Serves, last, first, none, Carried, Sound}

-- ---- one carrier serves a height, and no other
module _ (m : HintMap) (h : Fixed) where
  -- there is one last edge at or below
  no-later : {j k : ℕ} → LastBelow m h j → LastBelow m h k → j < k → ⊥
  no-later {j} {k} a b l =
      let p = a.last k l b.there in
      let q = b.below in
      omega heights

  one_last : {j k : ℕ} → LastBelow m h j → LastBelow m h k → j ≡ k
  one_last {j} {k} a b = go (ltb j k) (ltb k j) refl refl
    where
      go : (s t : Bool) → ltb j k ≡ s → ltb k j ≡ t → j ≡ k
      go true t e f = absurd (no-later a b (ltb-true j k e))
      go false true e f = absurd (no-later b a (ltb-true k j f))
      go false false e f = omega (arith, ltb-false j k e, ltb-false k j f)

  not-above : {k : ℕ} → LastBelow m h k → ((j : ℕ) → j < m.len → h.bits <ℤ (height m j).bits) → ⊥
  not-above {k} b a =
      let p = a k b.there in
      let q = b.below in
      omega heights

  only_one : {b c : Carrier} → Serves m h b → Serves m h c → c ≡ b
  only_one (last k a) (last j b) = ap by_edge (one_last b a)
  only_one (last k a) (first p f) = absurd (not-above a f)
  only_one (last k a) (none e) = absurd (omega (arith, a.there))
  only_one (first p f) (last j b) = absurd (not-above b f)
  only_one (first p f) (first q g) = refl
  only_one (first p f) (none e) = absurd (omega arith)
  only_one (none e) (last j b) = absurd (omega (arith, b.there))
  only_one (none e) (first p f) = absurd (omega arith)
  only_one (none e) (none f) = refl

-- ---- a map in order, with its stems whole, is sound
one-stem : (m : HintMap) (i j : ℕ) → Pair (edge m i) (edge m j) → OneStem m i j
one-stem m i j p = record { bottom = p.bottom; top = p.top; own = p.own }

module _ (m : HintMap) (g : Good m) where
  all : length (view m) ≡ m.len
  all = length-take-le m.len m.edges (omega (arith, g.within, g.long))

  follows : (i : ℕ) → i < m.len → (edge m i).kind ≡ PairBottom → (i + 1 < m.len) × OneStem m i (i + 1)
  follows i l k =
      let f = bottom-top g.stems i (omega (arith, all)) k in
      (omega (arith, all, f.0), one-stem m i (i + 1) f.1)

  carries : (h : Fixed) → Carried m h
  carries h = go (serves (view m) h)
    where
      c : Mapped (view m) m.scale h
      c = mapped m h g.stems

      over : Above (view m) h → (j : ℕ) → j < m.len → h.bits <ℤ (height m j).bits
      over a j l = a j (omega (arith, all))

      none_below : (n : ℕ) → m.len ≡ n → Above (view m) h → Carried m h
      none_below zero e a =
          record { by = by_scale; serves = none e; only = λ x s. only_one m h (none e) s; device = c.none (all ∙ e) }
      none_below (suc n) e a =
          let f : Serves m h by_first = first (omega arith) (over a) in
          record { by = by_first; serves = f; only = λ x s. only_one m h f s; device = c.first (omega (arith, all)) a }

      go : ServesList (view m) h → Carried m h
      go (below k l) =
          let b : LastBelow m h k = record {
            there = omega (arith, all, l.there);
            below = l.below;
            last = λ j p q. l.last j p (omega (arith, all));
          } in
          record { by = by_edge k; serves = last k b; only = λ x s. only_one m h (last k b) s; device = c.last k l }
      go (above a) = none_below m.len refl a

  pub sound : Sound m
  sound =
      record {
        few = g.within;
        rising = λ i j l k. stems-ascend g.stems i j l (omega (arith, all));
        shared = λ i l e. one-stem m i (i + 1) (shared g.stems i (omega (arith, all)) e);
        followed = follows;
        carried = carries;
      }

-- ---- what every drawing has
pub record Fine (st : HintState) (h : Hints) : Type 0 where
  pub initial : Good h.initial
  pub map : Good h.map
  pub initial_scale : h.initial.scale ≡ st.scale
  pub scale : h.map.scale ≡ st.scale

fine-new : (st : HintState) → Fine st (new_hints st.scale)
fine-new st = record { initial = new-good st.scale; map = new-good st.scale; initial_scale = refl; scale = refl }

module _ (st : HintState) (h : Hints) (f : Fine st h) where
  -- the initial map, which is made if there is none, and the current map, which that leaves
  initial-by : (b : Bool) → Fine st (initial_by b st h)
  initial-by true = f
  initial-by false =
      record {
        initial = initial-good st h.stems;
        map = f.map;
        initial_scale = initial-scale st h.stems;
        scale = f.scale;
      }

  fine-stem : (min max : Fixed) → Fine st (with_stem min max h)
  unfolding with_stem
  fine-stem min max = go (not h.map.is_valid && ltb h.stems.count 96)
    where
      go : (b : Bool) → Fine st (stem_by b min max h)
      go true = record { initial = f.initial; map = f.map; initial_scale = f.initial_scale; scale = f.scale }
      go false = f

  fine-mask : (m : HintMask) → Fine st (with_mask m h)
  unfolding with_mask
  fine-mask m = go (same_mask m h.mask)
    where
      go : (b : Bool) → Fine st (mask_by b m h)
      go true = f
      go false =
          record {
            initial = f.initial;
            map = invalid-good h.map f.map;
            initial_scale = f.initial_scale;
            scale = f.scale;
          }

  fine-counter : (m : HintMask) → Fine st (countered st m h)
  unfolding countered with_initial
  fine-counter m =
      let i = initial-by h.initial.is_valid in
      record { initial = i.initial; map = i.map; initial_scale = i.initial_scale; scale = i.scale }

  pub fine-ready : Fine st (ready_of st h)
  unfolding ready_of with_initial
  fine-ready = go h.map.is_valid
    where
      go : (b : Bool) → Fine st (ready_by b st h)
      go true = f
      go false =
          let j = initial_by h.initial.is_valid st h in
          let i = initial-by h.initial.is_valid in
          record {
            initial = i.initial;
            map = built-good st j.mask j.initial j.stems;
            initial_scale = i.initial_scale;
            scale = built-scale st j.mask j.initial j.stems;
          }

  fine-path : (points : Bool) → Fine st (ready_for points st h)
  fine-path true = fine-ready
  fine-path false = f

-- every call keeps it
pub fine-call : (st : HintState) (h : Hints) → Fine st h → (c : Call) → Fine st (hints_of st h c)
fine-call st h f (stem min max) = fine-stem st h f min max
fine-call st h f (hint_mask m) = fine-mask st h f m
fine-call st h f (counter_mask m) = fine-counter st h f m
fine-call st h f clear = fine-new st
fine-call st h f close = f
fine-call st h f (draw p) = fine-path st h f (has_point p)

-- opening gives a new drawing of the scale of its zones
pub opened-by : (a b : Bool) (p : HintParams) (s : Fixed) →
    (open_by a b p s).drawing ≡ new_drawing (open_by a b p s).state.scale
unfolding state_of
opened-by true b p s = refl
opened-by false false p s = refl
opened-by false true p s = go (em_box p)
  where
    go : (e : Bool) → new_drawing s ≡ new_drawing (state_by e p s).scale
    go true = refl
    go false = refl

pub opened-new : (p : HintParams) (s : Fixed) → (open_of p s).drawing ≡ new_drawing (open_of p s).state.scale
unfolding open_of
opened-new p s = opened-by (less_f s (from_bits (pos 1))) (counts_fit p) p s

-- so every drawing that there can be has it, by a call with or without room
fine-room : (b : Bool) (st : HintState) (d : Drawing) (c : Call) → Fine st d.hints → Fine st (room_by b st d c).hints
fine-room true st d c f = fine-call st d.hints f c
fine-room false st d c f = f

pub fine : {st : HintState} {d : Drawing} → Reached st d → Fine st d.hints
fine (opened p s) =
    subst (λ (d : Drawing). Fine (open_of p s).state d.hints) (sym (opened-new p s)) (fine-new (open_of p s).state)
fine (called {st} {d} r c room) = fine-room (leb (length (words_for st d c)) room) st d c (fine r)
