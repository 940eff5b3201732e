-- Laws of the heights that a build saves in the stems. Assumes nothing.
use mathlib.Core.Path.{◌≡◌, refl, sym, ap, ◌∙◌}
use mathlib.Core.Bool.{Bool, true, false, cond, not, ◌&&◌, false≢true}
use mathlib.Core.List.{List, [], ◌∷◌}
use mathlib.Core.Logic.{◌⊎◌, inl, inr}
use Prim.Native.Nat.{ℕ, zero, suc, ◌+◌, ◌≤◌, ◌<◌}
use native.Mathlib.Numerals.{add-one}
use native.Mathlib.Nat.{lt_irrefl}
use native.Mathlib.Omega.{arith}
use lib.Dec.{eqb}
use lib.ListN.{length, drop, get_or, set, length-set, drop_of_length-le}
use lib.Seq.{drop-cons, set_out, get_or-set_same, get_or-set_other}
use borrow.Author.Tests.{eqb-true, eqb-false, eq-eqb}
use Rattle.fixed.specs.declared.Fixed.{Fixed}
use Rattle.stems.specs.declared.edge.StemHint.{StemHint}
use Rattle.stems.specs.declared.edge.Hint.{Hint}
use Rattle.stems.specs.Edge.{no_hint, is_top}
use Rattle.stems.specs.declared.edge.Stems.{Stems}
use Rattle.build.specs.Build.{no_stem, saved_stem, saved_by, saved_in, saved_all}

-- ---- the edges one by one
-- one edge more of those to be saved
pub save-more : (es : List Hint) (ss : Stems) (i : ℕ) → i < length es →
    saved_all (drop i es) ss ≡ saved_all (drop (i + 1) es) (saved_in (get_or es i no_hint) ss)
unfolding saved_all
save-more es ss i h = rw (add-one, drop-cons es i no_hint)

-- none are left
pub save-ends : (es : List Hint) (ss : Stems) (i : ℕ) → length es ≤ i → saved_all (drop i es) ss ≡ ss
unfolding saved_all
save-ends es ss i h = rw (drop_of_length-le es h)

-- a synthetic edge is not saved
pub save-synthetic : (e : Hint) (ss : Stems) → e.synthetic ≡ true → saved_in e ss ≡ ss
unfolding saved_in
save-synthetic e ss s = rw s

-- any other edge is, in the stem of its number
pub save-stem : (e : Hint) (ss : Stems) (s : StemHint) → e.synthetic ≡ false →
    s ≡ saved_stem e (get_or ss.list e.index no_stem) →
    record { list = set ss.list e.index s; count = ss.count } ≡ saved_in e ss
unfolding saved_in
save-stem e ss s f q = rw (f, q)

-- none is whose number is past the list
pub save-past : (e : Hint) (ss : Stems) → length ss.list ≤ e.index → saved_in e ss ≡ ss
unfolding saved_in
save-past e ss h = go e.synthetic
  where
    go : (t : Bool) → saved_by t e ss ≡ ss
    go true = refl
    go false = rw (set_out ss.list e.index (saved_stem e (get_or ss.list e.index no_stem)) h)

-- ---- one stem
-- stem number k
abbrev pub stem_at : Stems → ℕ → StemHint
stem_at ss k = get_or ss.list k no_stem

-- an edge is one of stem k's
pub record Own (k : ℕ) (e : Hint) : Type 0 where
  pub real : e.synthetic ≡ false
  pub number : e.index ≡ k

-- the same as a test
abbrev pub owned_by : ℕ → Hint → Bool
owned_by k e = not e.synthetic && eqb e.index k

pub own-true : (k : ℕ) (e : Hint) → Own k e → owned_by k e ≡ true
own-true k e o = rw (o.real, o.number, eq-eqb k k refl)

pub own_of : (k : ℕ) (e : Hint) → owned_by k e ≡ true → Own k e
own_of k e t = go e.synthetic (eqb e.index k) refl refl t
  where
    go : (s u : Bool) → e.synthetic ≡ s → eqb e.index k ≡ u → (not s && u) ≡ true → Own k e
    go true u p q w = absurd (false≢true w)
    go false false p q w = absurd (false≢true w)
    go false true p q w = record { real = p; number = eqb-true e.index k q }

abbrev step_by : Bool → Hint → StemHint → StemHint
step_by true e s = saved_stem e s
step_by false e s = s

-- stem k after some edges
unfoldable after : ℕ → List Hint → StemHint → StemHint
after k [] s = s
after k (e ∷ es) s = after k es (step_by (owned_by k e) e s)

-- saving an edge keeps the list's length, the count, and the ends of every stem
pub in-length : (e : Hint) (ss : Stems) → length (saved_in e ss).list ≡ length ss.list
unfolding saved_in
in-length e ss = go e.synthetic
  where
    go : (t : Bool) → length (saved_by t e ss).list ≡ length ss.list
    go true = refl
    go false = length-set ss.list e.index (saved_stem e (get_or ss.list e.index no_stem))

in_count : (e : Hint) (ss : Stems) → (saved_in e ss).count ≡ ss.count
unfolding saved_in
in_count e ss = go e.synthetic
  where
    go : (t : Bool) → (saved_by t e ss).count ≡ ss.count
    go true = refl
    go false = refl

-- an edge changes the stem that owns it, and no other
in-at : (e : Hint) (ss : Stems) (k : ℕ) → k < length ss.list →
    stem_at (saved_in e ss) k ≡ step_by (owned_by k e) e (stem_at ss k)
unfolding saved_in
in-at e ss k h = go e.synthetic (eqb e.index k) refl
  where
    go : (t u : Bool) → eqb e.index k ≡ u → stem_at (saved_by t e ss) k ≡ step_by (not t && u) e (stem_at ss k)
    go true u q = refl
    go false true q = rw (eqb-true e.index k q) (get_or-set_same ss.list k (saved_stem e (stem_at ss k)) no_stem h)
    go false false q = get_or-set_other ss.list e.index k _ no_stem (λ w. eqb-false e.index k q (sym w))

pub all-length : (es : List Hint) (ss : Stems) → length (saved_all es ss).list ≡ length ss.list
unfolding saved_all
all-length [] ss = refl
all-length (e ∷ es) ss = all-length es (saved_in e ss) ∙ in-length e ss

pub all-count : (es : List Hint) (ss : Stems) → (saved_all es ss).count ≡ ss.count
unfolding saved_all
all-count [] ss = refl
all-count (e ∷ es) ss = all-count es (saved_in e ss) ∙ in_count e ss

-- stem k after all edges
all-at : (es : List Hint) (ss : Stems) (k : ℕ) → k < length ss.list →
    stem_at (saved_all es ss) k ≡ after k es (stem_at ss k)
unfolding saved_all after
all-at [] ss k h = refl
all-at (e ∷ es) ss k h =
    all-at es (saved_in e ss) k (rw (in-length e ss) h) ∙ ap (after k es) (in-at e ss k h)

-- ---- which stems it depends on
-- where two lists have the same stem k, they have the same one after all edges
pub all_alike : (es : List Hint) (ss ss' : Stems) (k : ℕ) → k < length ss.list → k < length ss'.list →
    stem_at ss k ≡ stem_at ss' k → stem_at (saved_all es ss) k ≡ stem_at (saved_all es ss') k
all_alike es ss ss' k h g e = all-at es ss k h ∙ ap (after k es) e ∙ sym (all-at es ss' k g)

-- ---- what is kept
-- a stem has the ends that another has
pub record Ends (s t : StemHint) : Type 0 where
  pub low : t.min ≡ s.min
  pub high : t.max ≡ s.max

-- as many stems, declared and in all, with the same ends
pub record Keeps (before later : Stems) : Type 0 where
  pub size : length later.list ≡ length before.list
  pub declared : later.count ≡ before.count
  pub ends : (k : ℕ) → k < length before.list → Ends (stem_at before k) (stem_at later k)

step-ends : (t : Bool) (e : Hint) (s : StemHint) → Ends s (step_by t e s)
step-ends true e s = record { low = refl; high = refl }
step-ends false e s = record { low = refl; high = refl }

after-ends : (k : ℕ) (es : List Hint) (s : StemHint) → Ends s (after k es s)
unfolding after
after-ends k [] s = record { low = refl; high = refl }
after-ends k (e ∷ es) s =
    let one = step-ends (owned_by k e) e s in
    let rest = after-ends k es (step_by (owned_by k e) e s) in
    record { low = rest.low ∙ one.low; high = rest.high ∙ one.high }

-- saving changes no stem's ends, no count and no length
pub saved-keeps : (es : List Hint) (ss : Stems) → Keeps ss (saved_all es ss)
saved-keeps es ss =
    record {
      size = all-length es ss;
      declared = all-count es ss;
      ends = λ k h. rw (all-at es ss k h) (after-ends k es (stem_at ss k));
    }

-- ---- which stems are used
-- an edge at place i of the list is one of stem k's
pub record Owned (k : ℕ) (es : List Hint) (i : ℕ) : Type 0 where
  pub there : i < length es
  pub own : Own k (get_or es i no_hint)

-- stem s is used after the edges, as t, exactly if it was used before or owns one of them
pub record Uses (es : List Hint) (k : ℕ) (s t : StemHint) : Type 0 where
  pub stays : s.is_used ≡ true → t.is_used ≡ true
  pub owns : (i : ℕ) → Owned k es i → t.is_used ≡ true
  pub only : t.is_used ≡ true → (s.is_used ≡ true) ⊎ ((i : ℕ) × Owned k es i)

after-used : (k : ℕ) (es : List Hint) (s : StemHint) → s.is_used ≡ true → (after k es s).is_used ≡ true
unfolding after
after-used k [] s u = u
after-used k (e ∷ es) s u = after-used k es (step_by (owned_by k e) e s) (go (owned_by k e))
  where
    go : (t : Bool) → (step_by t e s).is_used ≡ true
    go true = refl
    go false = u

after_owned : (k : ℕ) (es : List Hint) (s : StemHint) (i : ℕ) → i < length es →
    owned_by k (get_or es i no_hint) ≡ true →
    (after k es s).is_used ≡ true
unfolding after
after_owned k [] s i h o = absurd (lt_irrefl 0 (omega arith))
after_owned k (e ∷ es) s zero h o = after-used k es _ (rw o refl)
after_owned k (e ∷ es) s (suc i) h o = after_owned k es (step_by (owned_by k e) e s) i (omega arith) o

after-from : (k : ℕ) (es : List Hint) (s : StemHint) → (after k es s).is_used ≡ true →
    (s.is_used ≡ true) ⊎ ((i : ℕ) × Owned k es i)
unfolding after
after-from k [] s u = inl u
after-from k (e ∷ es) s u = go (owned_by k e) refl (after-from k es (step_by (owned_by k e) e s) u)
  where
    go : (t : Bool) → owned_by k e ≡ t → ((step_by t e s).is_used ≡ true) ⊎ ((i : ℕ) × Owned k es i) →
        (s.is_used ≡ true) ⊎ ((i : ℕ) × Owned k (e ∷ es) i)
    go true q w = inr (0, record { there = omega arith; own = own_of k e q })
    go false q (inl u') = inl u'
    go false q (inr (i, o)) = inr (suc i, record { there = omega arith; own = o.own })

-- the stems that are used after saving
pub saved-used : (es : List Hint) (ss : Stems) (k : ℕ) → k < length ss.list →
    Uses es k (stem_at ss k) (stem_at (saved_all es ss) k)
saved-used es ss k h =
    rw (all-at es ss k h)
    (record {
      stays = after-used k es (stem_at ss k);
      owns = λ i o. after_owned k es (stem_at ss k) i o.there (own-true k (get_or es i no_hint) o.own);
      only = after-from k es (stem_at ss k);
    })

-- ---- the heights that are saved
-- the height of a stem's top edge (true) or of its bottom edge
abbrev pub height_of : Bool → StemHint → Fixed
height_of top s = cond top s.ds_max s.ds_min

-- an edge is one of stem k's, and a top (true) or no top
pub record Bears (top : Bool) (k : ℕ) (e : Hint) : Type 0 where
  pub own : Own k e
  pub side : is_top e ≡ top

-- the edge at place i is the last of stem k's on its side
pub record LastOf (top : Bool) (k : ℕ) (es : List Hint) (i : ℕ) : Type 0 where
  pub there : i < length es
  pub bears : Bears top k (get_or es i no_hint)
  pub last : (j : ℕ) → i < j → j < length es → Bears top k (get_or es j no_hint) → ⊥

-- an edge of the stem on that side gives its height, and any other leaves the height
step-height : (top : Bool) (k : ℕ) (e : Hint) (s : StemHint) → Bears top k e →
    height_of top (step_by (owned_by k e) e s) ≡ e.ds_coord
step-height true k e s b = rw (own-true k e b.own, b.side)
step-height false k e s b = rw (own-true k e b.own, b.side)

step_keeps : (top : Bool) (k : ℕ) (e : Hint) (s : StemHint) → (Bears top k e → ⊥) →
    height_of top (step_by (owned_by k e) e s) ≡ height_of top s
step_keeps top k e s n = go top (owned_by k e) (is_top e) refl refl n
  where
    go : (p o t : Bool) → owned_by k e ≡ o → is_top e ≡ t → (Bears p k e → ⊥) → height_of p (step_by o e s) ≡ height_of
        p s
    go p false t q r m = refl
    go true true true q r m = absurd (m (record { own = own_of k e q; side = r }))
    go false true true q r m = rw r
    go true true false q r m = rw r
    go false true false q r m = absurd (m (record { own = own_of k e q; side = r }))

after-keeps : (top : Bool) (k : ℕ) (es : List Hint) (s : StemHint) →
    ((j : ℕ) → j < length es → Bears top k (get_or es j no_hint) → ⊥) → height_of top (after k es s) ≡ height_of top s
unfolding after
after-keeps top k [] s n = refl
after-keeps top k (e ∷ es) s n =
    after-keeps top k es (step_by (owned_by k e) e s) (λ j h. n (suc j) (omega arith)) ∙
    step_keeps top k e s (n 0 (omega arith))

after_last : (top : Bool) (k : ℕ) (es : List Hint) (s : StemHint) (i : ℕ) → LastOf top k es i →
    height_of top (after k es s) ≡ (get_or es i no_hint).ds_coord
unfolding after
after_last top k [] s i l = absurd (lt_irrefl 0 (omega arith))
after_last top k (e ∷ es) s zero l =
    after-keeps top k es (step_by (owned_by k e) e s) (λ j h. l.last (suc j) (omega arith) (omega arith)) ∙
    step-height top k e s l.bears
after_last top k (e ∷ es) s (suc i) l =
    after_last top k es (step_by (owned_by k e) e s) i
    (record { there = omega arith; bears = l.bears; last = λ j g h. l.last (suc j) (omega arith) (omega arith) })

-- a stem has the height of its last edge on a side
pub saved-heights : (top : Bool) (es : List Hint) (ss : Stems) (k i : ℕ) → k < length ss.list → LastOf top k es i →
    height_of top (stem_at (saved_all es ss) k) ≡ (get_or es i no_hint).ds_coord
saved-heights top es ss k i h l = rw (all-at es ss k h) (after_last top k es (stem_at ss k) i l)
