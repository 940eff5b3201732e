-- In a built map a stem has at most one edge of each side, and each edge that is not synthetic is a
-- declared stem's. Assumes nothing.
use mathlib.Core.Path.{◌≡◌, refl, sym, ap, ◌∙◌}
use mathlib.Core.Bool.{Bool, true, false, not, ◌&&◌, true≢false, false≢true}
use mathlib.Core.List.{List, [], ◌∷◌, ◌++◌, map}
use mathlib.Core.Logic.{◌⊎◌, inl, inr, ⊎_elim}
use Prim.Native.Nat.{ℕ, zero, suc, ◌+◌, ◌≤◌, ◌<◌}
use native.Mathlib.Nat.{le_refl}
use native.Mathlib.Omega.{arith}
use lib.Dec.{eqb, ltb}
use lib.ListN.{length, take, drop, get_or, take-append-drop}
use borrow.Author.Tests.{eqb-true, eqb-false, ltb-true, ltb-false}
use Rattle.fixed.specs.declared.Fixed.{Fixed}
use Rattle.stems.specs.declared.mask.HintMask.{HintMask}
use Rattle.stems.specs.declared.edge.StemHint.{StemHint}
use Rattle.stems.specs.declared.edge.Side.TheVariants.{Bottom, Top}
use Rattle.stems.specs.declared.edge.Hint.{Hint}
use Rattle.stems.specs.Mask.{is_active, cleared}
use Rattle.stems.specs.declared.edge.Shape.{Shape}
use Rattle.stems.specs.declared.edge.Shape.TheVariants.{BottomGhost, TopGhost, Pair}
use Rattle.stems.specs.Edge.{no_hint, top_k, is_top, shape_of}
use Rattle.stems.proofs.Masks.{clear-off, clear-keeps}
use Rattle.stems.proofs.Edges.{setup-index}
use Rattle.zones.specs.declared.state.HintState.{HintState}
use Rattle.hintmap.specs.declared.map.HintMap.{HintMap}
use Rattle.hintmap.specs.declared.insert.Edges.{Edges}
use Rattle.hintmap.specs.declared.insert.Edges.TheVariants.{One, Two}
use Rattle.hintmap.specs.Map.{new_map, view}
use Rattle.hintmap.specs.Insert.{chosen, first_edge, edges_of, again, placed_by, put_edges, place_for, placed_for}
use Rattle.hintmap.specs.Insert.{insert_in}
use Rattle.hintmap.specs.WholeStems.{Made}
use Rattle.hintmap.proofs.Outcome.{Clear, by-outcome, view-placed}
use Rattle.hintmap.proofs.WholeStems.{Good, new-good, insert-good}
use Rattle.hintmap.proofs.Made.{made-setup}
use Rattle.adjust.specs.Second.{adjust_of}
use Rattle.adjust.proofs.Keeps.{still, adjust-kept}
use Rattle.build.specs.Place.{Placed}
use Rattle.stems.specs.declared.edge.Stems.{Stems}
use Rattle.build.specs.Ghosts.{em_bottom, em_top, em_boxed}
use Rattle.build.specs.Place.{declared_in, locked_turn, free_turn}
use Rattle.build.specs.Build.{boxed_map, locked_placed, placed_of, built_of}
use Rattle.build.proofs.Steps.{boxed-keeps, prepared-like, made-prepared, made-box-bottom, locked-cases}
use Rattle.build.proofs.Steps.{free-cases}
use Rattle.build.proofs.Rounds.{locked-round, free-round, round_keeps}
use Rattle.build.proofs.Saved.{owned_by, own-true, own_of, Bears}

-- ---- counting
-- an edge is one of stem k's, and a top (true) or no top, as a test
abbrev side_by : Bool → Bool → Bool
side_by true t = t
side_by false t = not t

abbrev bears_by : Bool → ℕ → Hint → Bool
bears_by top k e = owned_by k e && side_by top (is_top e)

abbrev more_by : Bool → ℕ → ℕ
more_by true n = suc n
more_by false n = n

-- how many such edges a list has
unfoldable tally : Bool → ℕ → List Hint → ℕ
tally top k [] = 0
tally top k (e ∷ es) = more_by (bears_by top k e) (tally top k es)

-- the test says what Bears says
bears-true : (top : Bool) (k : ℕ) (e : Hint) → Bears top k e → bears_by top k e ≡ true
bears-true true k e b = rw (own-true k e b.own, b.side)
bears-true false k e b = rw (own-true k e b.own, b.side)

no-bears : (top : Bool) (k : ℕ) (e : Hint) → (Bears top k e → ⊥) → bears_by top k e ≡ false
no-bears top k e n = go top (owned_by k e) (is_top e) refl refl n
  where
    go : (p o t : Bool) → owned_by k e ≡ o → is_top e ≡ t → (Bears p k e → ⊥) → (o && side_by p t) ≡ false
    go p false t q r m = refl
    go true true true q r m = absurd (m (record { own = own_of k e q; side = r }))
    go false true true q r m = refl
    go true true false q r m = refl
    go false true false q r m = absurd (m (record { own = own_of k e q; side = r }))

more-add : (b : Bool) (n m : ℕ) → more_by b (n + m) ≡ more_by b n + m
more-add true n m = omega arith
more-add false n m = refl

more-one : (b : Bool) → more_by b 0 ≤ 1
more-one true = omega arith
more-one false = omega arith

more-least : (b : Bool) (n : ℕ) → n ≤ more_by b n
more-least true n = omega arith
more-least false n = omega arith

module _ (top : Bool) (k : ℕ) where
  tally-append : (xs ys : List Hint) → tally top k (xs ++ ys) ≡ tally top k xs + tally top k ys
  unfolding tally
  tally-append [] ys = omega arith
  tally-append (x ∷ xs) ys =
      ap (more_by (bears_by top k x)) (tally-append xs ys) ∙ more-add (bears_by top k x) (tally top k xs)
      (tally top k ys)

  -- an edge that bears counts, and two count twice
  tally-has : (es : List Hint) (j : ℕ) → j < length es → Bears top k (get_or es j no_hint) → 1 ≤ tally top k es
  unfolding tally
  tally-has [] j h b = absurd (omega arith)
  tally-has (e ∷ es) zero h b = rw (bears-true top k e b) (omega arith)
  tally-has (e ∷ es) (suc j) h b =
      omega (arith, tally-has es j (omega arith) b, more-least (bears_by top k e) (tally top k es))

  tally-two : (es : List Hint) (i j : ℕ) → i < j → j < length es → Bears top k (get_or es i no_hint) →
      Bears top k (get_or es j no_hint) → 2 ≤ tally top k es
  unfolding tally
  tally-two es i zero l h a b = absurd (omega arith)
  tally-two [] i (suc j) l h a b = absurd (omega arith)
  tally-two (e ∷ es) zero (suc j) l h a b = rw (bears-true top k e a) (omega (arith, tally-has es j (omega arith) b))
  tally-two (e ∷ es) (suc i) (suc j) l h a b =
      omega (arith, tally-two es i j (omega arith) (omega arith) a b, more-least (bears_by top k e) (tally top k es))

  -- what is placed again counts as before
  tally-again : (b : Bool) (es : List Hint) (s₀ s : Fixed) (e : Edges) →
      tally top k (edges_of (placed_by b es s₀ s e)) ≡ tally top k (edges_of e)
  unfolding tally again
  tally-again true es s₀ s (One e) = refl
  tally-again true es s₀ s (Two b t) = refl
  tally-again false es s₀ s e = refl

  -- an insertion adds no more than what is put in
  tally-insert : (m : HintMap) (e : Edges) (initial : HintMap) (given : Bool) → Good m →
      tally top k (view (insert_in m e initial given)) ≤ tally top k (view m) + tally top k (edges_of e)
  tally-insert m e initial given g =
      by-outcome m e initial given
      (λ (n : HintMap). tally top k (view n) ≤ tally top k (view m) + tally top k (edges_of e)) (omega arith) put
    where
      at : ℕ
      at = place_for m e

      p : Edges
      p = placed_for m e initial given

      put : Clear m e initial given →
          tally top k (view (put_edges m at p)) ≤ tally top k (view m) + tally top k (edges_of e)
      put c =
          let cut : tally top k (view m) ≡
          tally top k (take at (view m)) + tally top k (drop at (view m)) = ap (tally top k)
          (sym (take-append-drop at (view m))) ∙ tally-append (take at (view m)) (drop at (view m)) in
          let same : tally top k (edges_of p) ≡
          tally top k (edges_of e) = tally-again (not (first_edge e).locked && given) (view initial) initial.scale
          m.scale e in
          rw (
            view-placed m e initial given g.long c.entry,
            tally-append (take at (view m)) (edges_of p ++ drop at (view m)),
            tally-append (edges_of p) (drop at (view m)),
          ) (omega arith)

  -- one stem has at most one edge of a side
  tally-made : (e : Edges) → Made e → tally top k (edges_of e) ≤ 1
  unfolding tally Made
  tally-made (One e) s = more-one (bears_by top k e)
  tally-made (Two b t) s = go top
    where
      go : (p : Bool) → more_by (bears_by p k b) (more_by (bears_by p k t) 0) ≤ 1
      go true =
          rw (no-bears true k b (λ w. true≢false (sym w.side ∙ ap top_k s.bottom))) (more-one (bears_by true k t))
      go false =
          rw (no-bears false k t (λ w. false≢true (sym w.side ∙ ap top_k s.top))) (more-one (bears_by false k b))

  -- two edges that are not counted add nothing, whatever a shape has of them
  tally-chosen : (h : Shape) (b t : Hint) → (Bears top k b → ⊥) → (Bears top k t → ⊥) →
      tally top k (edges_of (chosen h b t)) ≡ 0
  unfolding tally chosen
  tally-chosen (BottomGhost h) b t p q = rw (no-bears top k b p)
  tally-chosen (TopGhost h) b t p q = rw (no-bears top k t q)
  tally-chosen (Pair l h) b t p q = rw (no-bears top k b p, no-bears top k t q)

  -- the adjustment leaves the count
  tally-still : (n : ℕ) (es : List Hint) → tally top k (take n (map still es)) ≡ tally top k (take n es)
  unfolding tally
  tally-still zero es = refl
  tally-still (suc n) [] = refl
  tally-still (suc n) (e ∷ es) = ap (more_by (bears_by top k e)) (tally-still n es)

  tally-adjust : (m : HintMap) → tally top k (view (adjust_of m)) ≡ tally top k (view m)
  tally-adjust m =
      let a = adjust-kept m in
      let n = m.len in
      rw a.len (sym (tally-still n (adjust_of m).edges) ∙
      ap (λ (es : List Hint). tally top k (take n es)) a.edges ∙ tally-still n m.edges)

-- ---- through a build
-- a map in order, which has at most one edge of a side for each stem, and none for the stems of Q
record Places (Q : ℕ → Type 0) (m : HintMap) : Type 0 where
  order : Good m
  most : (top : Bool) (k : ℕ) → tally top k (view m) ≤ 1
  none : (top : Bool) (k : ℕ) → Q k → tally top k (view m) ≡ 0

module _ (Q R : ℕ → Type 0) (m : HintMap) (has : Places Q m) where
  -- for fewer stems
  places-fewer : ((k : ℕ) → R k → Q k) → Places R m
  places-fewer f = record { order = has.order; most = has.most; none = λ top k r. has.none top k (f k r) }

  -- with the edges of a stem that had none
  places-more : (i : ℕ) (h : Shape) (b t : Hint) → b.index ≡ i → t.index ≡ i → Made (chosen h b t) → Q i → (R i → ⊥) →
      ((k : ℕ) → (k ≡ i → ⊥) → R k → Q k) →
      (initial : HintMap) (given : Bool) → Places R (insert_in m (chosen h b t) initial given)
  places-more i h b t p q made new old keep initial given =
      record {
        order = insert-good m (chosen h b t) initial given made has.order;
        most = λ top k. go top k (eqb k i) refl;
        none = λ top k r.
            let d : k ≡ i → ⊥ = λ w. old (rw w at r) in
            omega (arith, add top k, other top k d, has.none top k (keep k d r));
      }
    where
      add : (top : Bool) (k : ℕ) →
          tally top k (view (insert_in m (chosen h b t) initial given)) ≤ tally top k (view m) + tally top k
          (edges_of (chosen h b t))
      add top k = tally-insert top k m (chosen h b t) initial given has.order

      other : (top : Bool) (k : ℕ) → (k ≡ i → ⊥) → tally top k (edges_of (chosen h b t)) ≡ 0
      other top k d = tally-chosen top k h b t (λ w. d (sym w.own.number ∙ p)) (λ w. d (sym w.own.number ∙ q))

      go : (top : Bool) (k : ℕ) (x : Bool) → eqb k i ≡ x →
          tally top k (view (insert_in m (chosen h b t) initial given)) ≤ 1
      go top k true e =
          omega (arith, add top k, tally-made top k (chosen h b t) made, has.none top k (rw (eqb-true k i e) new))
      go top k false e = omega (arith, add top k, other top k (eqb-false k i e), has.most top k)

-- the em box is of no stem
boxed-none : (wanted : Bool) (initial : HintMap) (given : Bool) (s : Fixed) (top : Bool) (k : ℕ) →
    tally top k (view (em_boxed wanted initial given (new_map s))) ≡ 0
unfolding tally em_boxed em_bottom em_top
boxed-none true initial given s top k =
    let low = One (em_bottom s) in
    let high = One (em_top s) in
    let one = insert_in (new_map s) low initial given in
    let a : tally top k (edges_of low) ≡ 0 = refl in
    let b : tally top k (edges_of high) ≡ 0 = refl in
    omega (
      arith,
      tally-insert top k (new_map s) low initial given (new-good s),
      tally-insert top k one high initial given
          (insert-good (new_map s) low initial given (made-box-bottom s) (new-good s)),
    )
boxed-none false initial given s top k = refl

-- in the first round the stems from i on have no edge yet, nor have those that are not handled
abbrev Waits : ℕ → HintMask → ℕ → Type 0
Waits i rest k = (i ≤ k) ⊎ (is_active rest k ≡ true)

locked-places : (st : HintState) (initial : HintMap) (given : Bool) (i : ℕ) (x : StemHint) (p : Placed) →
    Places (Waits i p.rest) p.map →
    let q = locked_turn st initial given p i x in
    Places (Waits (suc i) q.rest) q.map
locked-places st initial given i x p has =
    locked-cases initial p i x (λ (q : Placed). Places (Waits (suc i) q.rest) q.map)
    (places-fewer (Waits i p.rest) (Waits (suc i) p.rest) p.map has (λ k. ⊎_elim (λ h. inl (omega arith)) inr))
    st given
    (λ e. places-more (Waits i p.rest) (Waits (suc i) (cleared p.rest i)) p.map has i (shape_of x) _ _
    (sym (prepared-like st x i).0.index ∙ setup-index x i st.scale Bottom)
    (sym (prepared-like st x i).1.index ∙ setup-index x i st.scale Top)
    (made-prepared st x i) (inl (le_refl i))
    (⊎_elim (λ h. omega arith) (λ a. true≢false (sym a ∙ clear-off p.rest i)))
    (λ k d. ⊎_elim (λ h. inl (omega arith)) (λ a. inr (sym (clear-keeps p.rest i k (λ w. d (sym w))) ∙ a)))
    initial given)

-- in the second those from i on that are not handled have none yet, and those past the n that are
-- declared have none
abbrev Awaits : ℕ → ℕ → HintMask → ℕ → Type 0
Awaits n i rest k = (n ≤ k) ⊎ ((i ≤ k) × (is_active rest k ≡ true))

free-places : (n : ℕ) (st : HintState) (initial : HintMap) (i : ℕ) (x : StemHint) (p : Placed) → i < n →
    Places (Awaits n i p.rest) p.map →
    let q = free_turn st initial p i x in
    Places (Awaits n (suc i) q.rest) q.map
free-places n st initial i x p l has =
    let waits : (k : ℕ) → Awaits n (suc i) p.rest k →
    Awaits n i p.rest k = λ k. ⊎_elim inl (λ h. inr (omega arith, h.1)) in
    free-cases initial p i x (λ (q : Placed). Places (Awaits n (suc i) q.rest) q.map)
    (places-fewer (Awaits n i p.rest) (Awaits n (suc i) p.rest) p.map has waits)
    st
    (λ e. places-more (Awaits n i p.rest) (Awaits n (suc i) p.rest) p.map has i (shape_of x) _ _
    (setup-index x i st.scale Bottom) (setup-index x i st.scale Top) (made-setup x i st.scale)
    (inr (le_refl i, e)) (⊎_elim (λ h. omega arith) (λ h. omega arith)) (λ k d. waits k) initial true)

module _ (st : HintState) (mask : HintMask) (initial : HintMap) (ss : Stems) where
  abbrev edges : List Hint
  edges = view (built_of st mask initial ss).map

  abbrev n : ℕ
  n = length (declared_in ss)

  boxed-places : (Q : ℕ → Type 0) → Places Q (boxed_map st initial true)
  boxed-places Q =
      let none = boxed-none st.do_em_box_hints initial true st.scale in
      record {
        order =
            boxed-keeps Good insert-good st.do_em_box_hints initial true (new_map st.scale)
            (new-good st.scale);
        most = λ top k. omega (arith, none top k);
        none = λ top k q. none top k;
      }

  built-places : Places (λ (k : ℕ). n ≤ k) (placed_of st mask initial ss)
  built-places =
      let p = locked_placed st mask initial ss in
      let one : Places (Waits n p.rest) p.map = round_keeps (locked-round st initial true) n
      (λ (i : ℕ) (q : Placed). Places (Waits i q.rest) q.map) (λ i x q l. locked-places st initial true i x q)
      0 (declared_in ss) _ (omega arith) (boxed-places _) in
      let two = round_keeps (free-round st initial) n (λ (i : ℕ) (q : Placed). Places (Awaits n i q.rest) q.map)
      (free-places n st initial) 0 (declared_in ss) p (omega arith)
      (places-fewer _ _ _ one (λ k. ⊎_elim inl (λ h. inr h.1))) in
      places-fewer _ _ _ two (λ k. inl)

  built-tally : (top : Bool) (k : ℕ) → tally top k edges ≡ tally top k (view (placed_of st mask initial ss))
  unfolding built_of
  built-tally top k = tally-adjust top k (placed_of st mask initial ss)

  -- two edges of one stem that are both tops, or both no tops, stand at one place
  pub once : (top : Bool) (k i j : ℕ) → i < length edges → j < length edges → Bears top k (get_or edges i no_hint) →
      Bears top k (get_or edges j no_hint) → i ≡ j
  once top k i j h l a b = go (ltb i j) refl (ltb j i) refl
    where
      go : (x : Bool) → ltb i j ≡ x → (y : Bool) → ltb j i ≡ y → i ≡ j
      go true e y f =
          absurd (omega (
            arith,
            tally-two top k edges i j (ltb-true i j e) l a b,
            built-tally top k,
            built-places.most top k,
          ))
      go false e true f =
          absurd (omega (
            arith,
            tally-two top k edges j i (ltb-true j i f) h b a,
            built-tally top k,
            built-places.most top k,
          ))
      go false e false f = omega (arith, ltb-false i j e, ltb-false j i f)

  -- an edge that is not synthetic is a declared stem's
  pub numbered : (i : ℕ) → i < length edges → (get_or edges i no_hint).synthetic ≡ false →
      (get_or edges i no_hint).index < length (declared_in ss)
  numbered i h s = go (ltb e.index n) refl
    where
      e : Hint
      e = get_or edges i no_hint

      go : (x : Bool) → ltb e.index n ≡ x → e.index < n
      go true w = ltb-true e.index n w
      go false w =
          absurd (omega (
            arith,
            tally-has (is_top e) e.index edges i h
                (record { own = record { real = s; number = refl }; side = refl }),
            built-tally (is_top e) e.index,
            built-places.none (is_top e) e.index (ltb-false e.index n w),
          ))
