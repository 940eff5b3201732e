-- What lists of numbers hold: the edge or the stem at a place, and after one is written there, the
-- same edges or stems but for that one. Assumes nothing.
use mathlib.Core.Path.{◌≡◌, refl, sym, ap, subst, ◌∙◌}
use mathlib.Core.Bool.{Bool, true, false}
use mathlib.Core.List.{List}
use Prim.Native.Nat.{ℕ, zero, suc, ◌+◌, ◌≤◌, ◌<◌}
use native.Mathlib.Omega.{arith}
use lib.Dec.{eqb, ltb}
use lib.IntN.{ℤ, pos}
use lib.ListN.{length, get_or, set, length-set}
use lib.Seq.{get_or-set_same, get_or-set_other, ext_get_or, set-get_or}
use borrow.Author.Tests.{eqb-true, eqb-false, ltb-true, ltb-false}
use denote.Param.Members.{Mut}
use mathlib.Core.Logic.{⊎_elim}
use native.Mathlib.Nat.{eq-or-lt_of_le}
use Rattle.std.specs.Fn.{Called}
use Rattle.std.specs.Array.{IsFromFnResultFrom}
use Rattle.fixed.specs.declared.Fixed.{Fixed}
use Rattle.fixed.specs.Fixed.{from_bits, ZERO, less_f}
use Rattle.stems.specs.declared.edge.Hint.{Hint}
use Rattle.stems.specs.declared.edge.StemHint.{StemHint}
use Rattle.stems.specs.declared.edge.Kind.{Kind}
use Rattle.stems.specs.declared.edge.Kind.TheVariants.{Absent, GhostBottom, GhostTop, PairBottom, PairTop}
use Rattle.stems.specs.Edge.{no_hint}
use Rattle.stems.specs.Lists.{tabulate, kind_in, kind_number, mark, tag_of, height_in, device_in, scale_in}
use Rattle.stems.specs.Lists.{decoded, hint_in, edges_in, Whole, set_line, set_lines, set_tags, Put, Copied}
use Rattle.stems.specs.Lists.{stem_in, stems_in, stem_by, mark_if, set_stem}

-- an edge with the device height and the scale of another
abbrev pub on_line : Hint → Hint → Hint
on_line e x =
    record {
      kind = x.kind;
      locked = x.locked;
      synthetic = x.synthetic;
      index = x.index;
      cs_coord = x.cs_coord;
      ds_coord = e.ds_coord;
      scale = e.scale;
    }

-- what holds before a place and at it holds before the next
pub before-next : {P : ℕ → Type 0} (i : ℕ) → ((j : ℕ) → j < i → P j) → P i → (j : ℕ) → j < i + 1 → P j
before-next {P} i f p j l = by (ltb j i) refl
  where
    by : (t : Bool) → ltb j i ≡ t → P j
    by true e = f j (ltb-true j i e)
    by false e =
        let q : i ≡ j = omega (arith, ltb-false j i e) in
        subst P q p

-- ---- the values of a function
module _ {A : Type 0} where
  pub length-tabulate : (f : ℕ → A) (n : ℕ) → length (tabulate f n) ≡ n
  unfolding tabulate
  length-tabulate f zero = refl
  length-tabulate f (suc n) = ap suc (length-tabulate (λ (i : ℕ). f (suc i)) n)

  pub get_d_tabulate : (f : ℕ → A) (n i : ℕ) (d : A) → i < n → get_or (tabulate f n) i d ≡ f i
  unfolding tabulate
  get_d_tabulate f zero i d h = absurd (omega arith)
  get_d_tabulate f (suc n) zero d h = refl
  get_d_tabulate f (suc n) (suc i) d h = get_d_tabulate (λ (j : ℕ). f (suc j)) n i d (omega arith)

  -- two functions that differ at one place alone, there
  changed-at : (f g : ℕ → A) (n i : ℕ) (x d : A) (u : Bool) (j : ℕ) → eqb j i ≡ u → i < n → j < n → g i ≡ x →
      ((k : ℕ) → k < n → (k ≡ i → ⊥) → g k ≡ f k) → g j ≡ get_or (set (tabulate f n) i x) j d
  changed-at f g n i x d true j e p q h o =
      rw (eqb-true j i e) (h ∙ sym (get_or-set_same (tabulate f n) i x d (omega (arith, length-tabulate f n))))
  changed-at f g n i x d false j e p q h o =
      o j q (eqb-false j i e) ∙
      sym (get_or-set_other (tabulate f n) i j x d (eqb-false j i e) ∙ get_d_tabulate f n j d q)

  -- and as lists
  pub changed : (f g : ℕ → A) (n i : ℕ) (x d : A) → i < n → g i ≡ x →
      ((k : ℕ) → k < n → (k ≡ i → ⊥) → g k ≡ f k) → tabulate g n ≡ set (tabulate f n) i x
  changed f g n i x d p h o =
      let l = length-tabulate g n in
      ext_get_or d _ _ (l ∙ sym (length-set (tabulate f n) i x ∙ length-tabulate f n))
      (λ j m. let q : j < n = omega (arith, l) in
      get_d_tabulate g n j d q ∙ changed-at f g n i x d (eqb j i) j refl p q h o)

-- a list that calls made, each of its own place, which leave the function as it was
pub made : {F A : Type 0} {g : Mut F (ℕ × Unit {0}) A} (f : F) (h : ℕ → A) (ys : List A) →
    ((i : ℕ) (y : A) (q : F) → Called g f (i, tt) y q → (q ≡ f) × (y ≡ h i)) → (n i : ℕ) →
    IsFromFnResultFrom g f ys i n → (j : ℕ) (d : A) → i ≤ j → j < i + n → get_or ys j d ≡ h j
made f h ys s zero i r j d l m = absurd (omega arith)
made {g} f h ys s (suc n) i r j d l m =
    let one = s i r.1 r.0 r.3 in
    ⊎_elim
    (λ e. subst (λ k. get_or ys k d ≡ h k) e (r.2.1 d ∙ one.1))
    (λ p. let rest = subst (λ q. IsFromFnResultFrom g q ys (i + 1) n) one.0 r.4 in
    made f h ys s n (i + 1) rest j d (omega arith) (omega arith))
    (eq-or-lt_of_le l)

-- ---- tags
-- a tag says what was put into it
told : (k : Kind) (l y : Bool) (i : ℕ) (h d s : Fixed) →
    decoded (kind_number k + mark l 8 + mark y 16) i h d s ≡
    record { kind = k; locked = l; synthetic = y; index = i; cs_coord = h; ds_coord = d; scale = s }
unfolding kind_in
told Absent true true i h d s = refl
told Absent true false i h d s = refl
told Absent false true i h d s = refl
told Absent false false i h d s = refl
told GhostBottom true true i h d s = refl
told GhostBottom true false i h d s = refl
told GhostBottom false true i h d s = refl
told GhostBottom false false i h d s = refl
told GhostTop true true i h d s = refl
told GhostTop true false i h d s = refl
told GhostTop false true i h d s = refl
told GhostTop false false i h d s = refl
told PairBottom true true i h d s = refl
told PairBottom true false i h d s = refl
told PairBottom false true i h d s = refl
told PairBottom false false i h d s = refl
told PairTop true true i h d s = refl
told PairTop true false i h d s = refl
told PairTop false true i h d s = refl
told PairTop false false i h d s = refl

told-edge : (e : Hint) → decoded (tag_of e) e.index e.cs_coord e.ds_coord e.scale ≡ e
told-edge e = told e.kind e.locked e.synthetic e.index e.cs_coord e.ds_coord e.scale

-- ---- edges read
pub edges-long : (l : List ℤ) (t : List ℕ) → length (edges_in l t) ≡ 96
unfolding edges_in
edges-long l t = length-tabulate (hint_in l t) 96

module _ (l : List ℤ) (t : List ℕ) (i : ℕ) (p : i < 96) where
  pub edge_in : get_or (edges_in l t) i no_hint ≡ hint_in l t i
  unfolding edges_in
  edge_in = get_d_tabulate (hint_in l t) 96 i no_hint p

  -- its heights and its scale are the lines'
  pub height-of : (get_or (edges_in l t) i no_hint).cs_coord ≡ height_in l i
  unfolding hint_in
  height-of = rw edge_in

  pub device-of : (get_or (edges_in l t) i no_hint).ds_coord ≡ device_in l i
  unfolding hint_in
  device-of = rw edge_in

  pub scale_of : (get_or (edges_in l t) i no_hint).scale ≡ scale_in l i
  unfolding hint_in
  scale_of = rw edge_in

-- ---- edges written
-- three numbers, in three segments
module _ (l : List ℤ) (i : ℕ) (a b c : ℤ) where
  abbrev three : List ℤ
  three = set (set (set l i a) (96 + i) b) (192 + i) c

  three-0 : i < 96 → 288 ≤ length l → get_or three i (pos 0) ≡ a
  three-0 p q =
      get_or-set_other (set (set l i a) (96 + i) b) (192 + i) i c (pos 0) (λ e. omega arith) ∙
      get_or-set_other (set l i a) (96 + i) i b (pos 0) (λ e. omega arith) ∙
      get_or-set_same l i a (pos 0) (omega arith)

  three-1 : i < 96 → 288 ≤ length l → get_or three (96 + i) (pos 0) ≡ b
  three-1 p q =
      get_or-set_other (set (set l i a) (96 + i) b) (192 + i) (96 + i) c (pos 0) (λ e. omega arith) ∙
      get_or-set_same (set l i a) (96 + i) b (pos 0) (simp length-set (omega arith))

  three-2 : i < 96 → 288 ≤ length l → get_or three (192 + i) (pos 0) ≡ c
  three-2 p q = get_or-set_same (set (set l i a) (96 + i) b) (192 + i) c (pos 0) (simp length-set (omega arith))

  three-other : (k : ℕ) → (k ≡ i → ⊥) → (k ≡ 96 + i → ⊥) → (k ≡ 192 + i → ⊥) → get_or three k (pos 0) ≡ get_or l k
      (pos 0)
  three-other k n₀ n₁ n₂ =
      get_or-set_other (set (set l i a) (96 + i) b) (192 + i) k c (pos 0) n₂ ∙
      get_or-set_other (set l i a) (96 + i) k b (pos 0) n₁ ∙
      get_or-set_other l i k a (pos 0) n₀

-- two numbers, in two
module _ (l : List ℕ) (i a b : ℕ) where
  abbrev two : List ℕ
  two = set (set l i a) (96 + i) b

  two-0 : i < 96 → 192 ≤ length l → get_or two i 0 ≡ a
  two-0 p q = get_or-set_other (set l i a) (96 + i) i b 0 (λ e. omega arith) ∙ get_or-set_same l i a 0 (omega arith)

  two-1 : i < 96 → 192 ≤ length l → get_or two (96 + i) 0 ≡ b
  two-1 p q = get_or-set_same (set l i a) (96 + i) b 0 (simp length-set (omega arith))

  two-other : (k : ℕ) → (k ≡ i → ⊥) → (k ≡ 96 + i → ⊥) → get_or two k 0 ≡ get_or l k 0
  two-other k n₀ n₁ = get_or-set_other (set l i a) (96 + i) k b 0 n₁ ∙ get_or-set_other l i k a 0 n₀

module _ (l : List ℤ) (t : List ℕ) (w : Whole l t) (i : ℕ) (p : i < 96) (h d s : Fixed) (tag x : ℕ) where
  here : hint_in (set_lines l i h d s) (set_tags t i tag x) i ≡ decoded tag x h d s
  unfolding hint_in
  here =
      let q : 288 ≤ length l = omega (arith, w.all) in
      let r : 192 ≤ length t = omega (arith, w.named) in
      rw (
        two-0 t i tag x p r,
        two-1 t i tag x p r,
        three-0 l i h.bits d.bits s.bits p q,
        three-1 l i h.bits d.bits s.bits p q,
        three-2 l i h.bits d.bits s.bits p q,
      )

  there : (j : ℕ) → j < 96 → (j ≡ i → ⊥) → hint_in (set_lines l i h d s) (set_tags t i tag x) j ≡ hint_in l t j
  unfolding hint_in
  there j q n =
      let a = three-other l i h.bits d.bits s.bits in
      let b = two-other t i tag x in
      rw (
        b j n (λ e. omega arith),
        b (96 + j) (λ e. omega arith) (λ e. n (omega arith)),
        a j n (λ e. omega arith) (λ e. omega arith),
        a (96 + j) (λ e. omega arith) (λ e. n (omega arith)) (λ e. omega arith),
        a (192 + j) (λ e. omega arith) (λ e. omega arith) (λ e. n (omega arith)),
      )

  -- five numbers written at a place are the edge there, and no other
  put_in : edges_in (set_lines l i h d s) (set_tags t i tag x) ≡ set (edges_in l t) i (decoded tag x h d s)
  unfolding edges_in
  put_in =
      changed (hint_in l t) (hint_in (set_lines l i h d s) (set_tags t i tag x)) 96 i (decoded tag x h d s) no_hint p
      here
      there

  put-long : Whole (set_lines l i h d s) (set_tags t i tag x)
  put-long = record { all = simp length-set w.all; named = simp length-set w.named }

-- ---- what the functions' contracts come to, in edges
module _ (l : List ℤ) (t : List ℕ) (w : Whole l t) where
  module _ (i : ℕ) (p : i < 96) (e : Hint) {l' : List ℤ} {t' : List ℕ} (m : Put l t i e l' t') where
    pub put_whole : Whole l' t'
    put_whole =
        rw (m.lines, m.tags) (put-long l t w i p e.cs_coord e.ds_coord e.scale (tag_of e) e.index)

    -- an edge put at a place is there, and no other is changed
    pub put_is : edges_in l' t' ≡ set (edges_in l t) i e
    put_is =
        rw (m.lines, m.tags)
        (put_in l t w i p e.cs_coord e.ds_coord e.scale (tag_of e) e.index ∙
        ap (set (edges_in l t) i) (told-edge e))

  module _ (i j : ℕ) (p : i < 96) (q : j < 96) {l' : List ℤ} {t' : List ℕ} (m : Copied l t i j l' t') where
    pub copied-whole : Whole l' t'
    copied-whole =
        rw (m.lines, m.tags)
        (put-long l t w j q (height_in l i) (device_in l i) (scale_in l i) (get_or t i 0) (get_or t (96 + i) 0))

    pub copied_is : edges_in l' t' ≡ set (edges_in l t) j (get_or (edges_in l t) i no_hint)
    unfolding hint_in
    copied_is =
        rw (m.lines, m.tags, edge_in l t i p)
        (put_in l t w j q (height_in l i) (device_in l i) (scale_in l i) (get_or t i 0) (get_or t (96 + i) 0))

  -- a device height and a scale that are written are that edge's alone
  module _ (i : ℕ) (p : i < 96) (e : Hint) where
    pub line-whole : Whole (set_line l i e) t
    line-whole = record { all = simp length-set w.all; named = w.named }

    same-tags : set_tags t i (get_or t i 0) (get_or t (96 + i) 0) ≡ t
    same-tags = rw (set-get_or t i 0) (set-get_or t (96 + i) 0)

    same-height : set_lines l i (height_in l i) e.ds_coord e.scale ≡ set_line l i e
    same-height = rw (set-get_or l i (pos 0))

    pub line-is : edges_in (set_line l i e) t ≡ set (edges_in l t) i (on_line e (get_or (edges_in l t) i no_hint))
    unfolding hint_in
    line-is =
        ap (λ (x : List ℤ). edges_in x t) (sym same-height) ∙
        ap (edges_in (set_lines l i (height_in l i) e.ds_coord e.scale)) (sym same-tags) ∙
        rw (edge_in l t i p)
        (put_in l t w i p (height_in l i) e.ds_coord e.scale (get_or t i 0) (get_or t (96 + i) 0))

-- ---- stems
pub stems-long : (l : List ℤ) (n : ℕ) → length (stems_in l n).list ≡ 96
unfolding stems_in
stems-long l n = length-tabulate (stem_in l) 96

pub stem-in : (l : List ℤ) (n i : ℕ) (d : StemHint) → i < 96 → get_or (stems_in l n).list i d ≡ stem_in l i
unfolding stems_in
stem-in l n i d p = get_d_tabulate (stem_in l) 96 i d p

-- five numbers, in five segments of one width
module _ (w : ℕ) (l : List ℤ) (i : ℕ) (a b c d e : ℤ) where
  abbrev l₁ : List ℤ
  l₁ = set l i a

  abbrev l₂ : List ℤ
  l₂ = set l₁ (w + i) b

  abbrev l₃ : List ℤ
  l₃ = set l₂ (w + w + i) c

  abbrev l₄ : List ℤ
  l₄ = set l₃ (w + w + w + i) d

  abbrev pub five : List ℤ
  five = set l₄ (w + w + w + w + i) e

  pub five-other : (k : ℕ) → (k ≡ i → ⊥) → (k ≡ w + i → ⊥) → (k ≡ w + w + i → ⊥) → (k ≡ w + w + w + i → ⊥) →
      (k ≡ w + w + w + w + i → ⊥) → get_or five k (pos 0) ≡ get_or l k (pos 0)
  five-other k n₀ n₁ n₂ n₃ n₄ =
      get_or-set_other l₄ (w + w + w + w + i) k e (pos 0) n₄ ∙ get_or-set_other l₃ (w + w + w + i) k d (pos 0) n₃ ∙
      get_or-set_other l₂ (w + w + i) k c (pos 0) n₂ ∙ get_or-set_other l₁ (w + i) k b (pos 0) n₁ ∙
      get_or-set_other l i k a (pos 0) n₀

  module _ (long : length l ≡ w + w + w + w + w) (p : i < w) where
    pub five-0 : get_or five i (pos 0) ≡ a
    five-0 =
        get_or-set_other l₄ (w + w + w + w + i) i e (pos 0) (λ e. omega arith) ∙
        get_or-set_other l₃ (w + w + w + i) i d (pos 0) (λ e. omega arith) ∙
        get_or-set_other l₂ (w + w + i) i c (pos 0) (λ e. omega arith) ∙
        get_or-set_other l₁ (w + i) i b (pos 0) (λ e. omega arith) ∙
        get_or-set_same l i a (pos 0) (omega arith)

    pub five-1 : get_or five (w + i) (pos 0) ≡ b
    five-1 =
        get_or-set_other l₄ (w + w + w + w + i) (w + i) e (pos 0) (λ e. omega arith) ∙
        get_or-set_other l₃ (w + w + w + i) (w + i) d (pos 0) (λ e. omega arith) ∙
        get_or-set_other l₂ (w + w + i) (w + i) c (pos 0) (λ e. omega arith) ∙
        get_or-set_same l₁ (w + i) b (pos 0) (simp length-set (omega arith))

    pub five-2 : get_or five (w + w + i) (pos 0) ≡ c
    five-2 =
        get_or-set_other l₄ (w + w + w + w + i) (w + w + i) e (pos 0) (λ e. omega arith) ∙
        get_or-set_other l₃ (w + w + w + i) (w + w + i) d (pos 0) (λ e. omega arith) ∙
        get_or-set_same l₂ (w + w + i) c (pos 0) (simp length-set (omega arith))

    pub five-3 : get_or five (w + w + w + i) (pos 0) ≡ d
    five-3 =
        get_or-set_other l₄ (w + w + w + w + i) (w + w + w + i) e (pos 0) (λ e. omega arith) ∙
        get_or-set_same l₃ (w + w + w + i) d (pos 0) (simp length-set (omega arith))

    pub five-4 : get_or five (w + w + w + w + i) (pos 0) ≡ e
    five-4 = get_or-set_same l₄ (w + w + w + w + i) e (pos 0) (simp length-set (omega arith))

-- a mark says what was put into it
pub mark-is : (b : Bool) → less_f ZERO (from_bits (mark_if b).bits) ≡ b
mark-is true = refl
mark-is false = refl

module _ (l : List ℤ) (long : length l ≡ 480) (i : ℕ) (p : i < 96) (st : StemHint) where
  abbrev mark_of : ℤ
  mark_of = (mark_if st.is_used).bits

  pub set_long : length (set_stem l i st) ≡ 480
  unfolding set_stem
  set_long = simp length-set long

  pub stem-here : stem_in (set_stem l i st) i ≡ st
  unfolding stem_in set_stem
  stem-here =
      rw (
        five-0 96 l i mark_of st.min.bits st.max.bits st.ds_min.bits st.ds_max.bits long p,
        five-1 96 l i mark_of st.min.bits st.max.bits st.ds_min.bits st.ds_max.bits long p,
        five-2 96 l i mark_of st.min.bits st.max.bits st.ds_min.bits st.ds_max.bits long p,
        five-3 96 l i mark_of st.min.bits st.max.bits st.ds_min.bits st.ds_max.bits long p,
        five-4 96 l i mark_of st.min.bits st.max.bits st.ds_min.bits st.ds_max.bits long p,
        mark-is st.is_used,
      )

  pub stem-there : (j : ℕ) → j < 96 → (j ≡ i → ⊥) → stem_in (set_stem l i st) j ≡ stem_in l j
  unfolding stem_in set_stem
  stem-there j q n =
      let o = five-other 96 l i mark_of st.min.bits st.max.bits st.ds_min.bits st.ds_max.bits in
      rw (
        o j n (λ e. omega arith) (λ e. omega arith) (λ e. omega arith) (λ e. omega arith),
        o (96 + j) (λ e. omega arith) (λ e. n (omega arith)) (λ e. omega arith) (λ e. omega arith) (λ e. omega arith),
        o (192 + j) (λ e. omega arith) (λ e. omega arith) (λ e. n (omega arith)) (λ e. omega arith) (λ e. omega arith),
        o (288 + j) (λ e. omega arith) (λ e. omega arith) (λ e. omega arith) (λ e. n (omega arith)) (λ e. omega arith),
        o (384 + j) (λ e. omega arith) (λ e. omega arith) (λ e. omega arith) (λ e. omega arith) (λ e. n (omega arith)),
      )

  -- a stem put at a place is there, and no other is changed
  pub stem-put : (n : ℕ) → (stems_in (set_stem l i st) n).list ≡ set (stems_in l n).list i st
  unfolding stems_in
  stem-put n = changed (stem_in l) (stem_in (set_stem l i st)) 96 i st st p stem-here stem-there

-- the stem that zeros are
abbrev pub zero_stem : StemHint
zero_stem = stem_by (pos 0) (pos 0) (pos 0) (pos 0) (pos 0)

-- two lists of 96 stems that agree at every place
pub all-stems : (l : List ℤ) (n : ℕ) (xs : List StemHint) → length xs ≡ 96 →
    ((j : ℕ) → j < 96 → get_or xs j zero_stem ≡ stem_in l j) → xs ≡ (stems_in l n).list
all-stems l n xs e f =
    ext_get_or zero_stem _ _ (e ∙ sym (stems-long l n))
    (λ j m. f j (omega arith) ∙ sym (stem-in l n j zero_stem (omega arith)))
