-- Both rounds over stems in lists, into a map in lists: how a round starts, goes on and ends, and what
-- a turn puts in, in the words of code. Assumes nothing.
use mathlib.Core.Path.{◌≡◌, refl}
use mathlib.Core.Bool.{Bool, true, false, not, ◌&&◌}
use mathlib.Core.List.{List}
use Prim.Native.Nat.{ℕ, ◌+◌, ◌-◌, ◌≤◌, ◌<◌}
use native.Mathlib.Omega.{arith}
use lib.IntN.{ℤ}
use lib.ListN.{length}
use Rattle.fixed.specs.declared.Fixed.{Fixed}
use Rattle.stems.specs.declared.mask.HintMask.{HintMask}
use Rattle.stems.specs.declared.edge.StemHint.{StemHint}
use Rattle.stems.specs.declared.edge.Side.TheVariants.{Bottom, Top}
use Rattle.stems.specs.declared.edge.Hint.{Hint}
use Rattle.stems.specs.declared.edge.Shape.{Shape}
use Rattle.stems.specs.Mask.{is_active, cleared, TookFirst}
use Rattle.stems.specs.Edge.{shape_of, setup_of}
use Rattle.stems.specs.Lists.{stem_in, stems_in}
use Rattle.stems.proofs.Places.{zero_stem, stems-long, stem-in}
use Rattle.zones.specs.declared.state.HintState.{HintState}
use Rattle.zones.specs.declared.capture.Captured.{Captured}
use Rattle.hintmap.specs.declared.map.HintMap.{HintMap}
use Rattle.hintmap.specs.declared.insert.Edges.{Edges}
use Rattle.hintmap.specs.Insert.{chosen, first_edge, placed_for, insert_in}
use Rattle.hintmap.specs.Lent.{LinesOf, PlacedBy}
use Rattle.hintmap.proofs.Placed.{insert-placed}
use Rattle.build.specs.Place.{Placed, declared_in, prepared_of, locked_turn, free_turn}
use Rattle.build.proofs.Rounds.{Round, Left, left-more, left-ends}
use Rattle.build.proofs.Walks.{Passing, Rest, rest-more, rest-ends, rest-hops}
use Rattle.build.proofs.Hops.{Ahead, Hop, hop-first, hop-on}
use Rattle.build.proofs.Locking.{insert-locked}

-- ---- a round over stems in a list
module _ {turn : Placed → ℕ → StemHint → Placed} {turns : ℕ → List StemHint → Placed → Placed} (r : Round turn turns)
    (ns : List ℤ) (n : ℕ) (fits : n ≤ 96) (p : Placed) where
  -- each of the stems has its place
  few : n ≤ length (stems_in ns n).list
  few = omega (arith, stems-long ns n)

  -- at first all turns are left
  pub round-starts : Left turns (stems_in ns n) n p p 0
  unfolding stems_in
  round-starts = (refl, omega arith)

  -- a turn takes the stem at place i
  pub round-goes : (q q' : Placed) (i : ℕ) → i < n → Left turns (stems_in ns n) n p q i → turn q i (stem_in ns i) ≡ q' →
      Left turns (stems_in ns n) n p q' (i + 1)
  round-goes q q' i l h e =
      left-more r (stems_in ns n) n few p q q' i zero_stem l h (rw (stem-in ns n i zero_stem (omega arith)) e)

  -- after the last stem nothing is left
  pub round-ends : (q : Placed) (i : ℕ) → n ≤ i → Left turns (stems_in ns n) n p q i →
      q ≡ turns 0 (declared_in (stems_in ns n)) p
  round-ends q i l h = left-ends r (stems_in ns n) n few p q i l h

-- ---- a walk over the stems in a list that are to be placed
module _ {turn : Placed → ℕ → StemHint → Placed} {turns : ℕ → List StemHint → Placed → Placed} (r : Round turn turns)
    (s : Passing turn) (ns : List ℤ) (n : ℕ) (fits : n ≤ 96) (p : Placed) where
  -- each of the stems has its place
  all-there : n ≤ length (stems_in ns n).list
  all-there = omega (arith, stems-long ns n)

  -- stems that are not to be placed are passed over
  hopped : (q : Placed) {left : HintMask} {from i : ℕ} → Hop left q.rest from i →
      Rest turns (stems_in ns n) n p q from → Rest turns (stems_in ns n) n p q i
  hopped q {from = from} {i = i} h l =
      let k : from + (i - from) ≡ i = omega (arith, h.on) in
      rw k at (rest-hops r (stems_in ns n) n all-there p q zero_stem (i - from) from
      (λ j x f g. s.skips q j x (h.off j f (omega (arith, h.on)))) l)

  -- a walk starts at the first stem that is to be placed
  pub walk-starts : {left : HintMask} {i : ℕ} → TookFirst p.rest i left → Rest turns (stems_in ns n) n p p i
  unfolding stems_in
  walk-starts t = hopped p (hop-first t) refl

  -- a turn changes no other stem, so the walk goes on ..
  pub walk-hops : (q q' : Placed) {left left' : HintMask} {i i' : ℕ} {x : StemHint} → i < n → Ahead left q.rest i →
      TookFirst left i' left' → turn q i x ≡ q' → Hop left' q'.rest (i + 1) i'
  walk-hops q q' {i = i} {x = x} l a t e = hop-on a (omega arith) t (λ j d. rw (← e) (s.others q i j x d))

  -- .. and with it the round, by the stem at place i
  pub walk-goes : (q q' : Placed) {left : HintMask} {i i' : ℕ} → i < n → Hop left q'.rest (i + 1) i' →
      turn q i (stem_in ns i) ≡ q' → Rest turns (stems_in ns n) n p q i → Rest turns (stems_in ns n) n p q' i'
  walk-goes q q' {i = i} l h e g =
      hopped q' h
      (rest-more r (stems_in ns n) n all-there p q q' i zero_stem l g (rw (stem-in ns n i zero_stem (omega arith)) e))

  -- behind the last stem nothing is left
  pub walk-ends : (q : Placed) (i : ℕ) → n ≤ i → Rest turns (stems_in ns n) n p q i →
      q ≡ turns 0 (declared_in (stems_in ns n)) p
  walk-ends q i l h = rest-ends r (stems_in ns n) n all-there p q i l h

-- ---- the turn of stem i
module _ (st : HintState) (initial : HintMap) (m : HintMap) (rest : HintMask) (i : ℕ) (x : StemHint) where
  abbrev so_far : Placed
  so_far = record { map = m; rest = rest }

  -- in the first round a stem that is not active changes nothing
  pub locked-skips : (given : Bool) → is_active rest i ≡ false → locked_turn st initial given so_far i x ≡ so_far
  unfolding locked_turn
  locked-skips given a = rw a

  -- nor does it in the second
  pub free-skips : is_active rest i ≡ false → free_turn st initial so_far i x ≡ so_far
  unfolding free_turn
  free-skips a = rw a

  -- in the first round an active stem that is neither locked nor captured changes nothing
  pub locked-leaves : (given : Bool) {c : Captured} → is_active rest i ≡ true → c ≡ prepared_of st x i →
      c.captured ≡ false → locked_turn st initial given so_far i x ≡ so_far
  unfolding locked_turn
  locked-leaves given a q t = rw (a, ← q, t)

  -- there one that is locked or captured is put in as it is, and is handled
  pub locked-puts : (given : Bool) {h : Shape} {c : Captured} {e : Edges} {m' : HintMap} {rest' : HintMask} →
      is_active rest i ≡ true → h ≡ shape_of x → c ≡ prepared_of st x i → c.captured ≡ true →
      e ≡ chosen h c.bottom c.top → m' ≡ insert_in m e initial false → rest' ≡ cleared rest i →
      locked_turn st initial given so_far i x ≡ record { map = m'; rest = rest' }
  unfolding locked_turn
  locked-puts given a p q t w u v =
      rw (a, ← p, ← q, t, ← w, u, v, insert-locked st x i p q t w m initial given)

  -- in the second an active stem is put in as the lines of the initial map place it
  pub free-puts : {s s₀ : Fixed} {ls : List ℤ} {n : ℕ} {h : Shape} {b t : Hint} {e e' : Edges} {m' : HintMap} →
      st.scale ≡ s → initial.scale ≡ s₀ → LinesOf initial ls n → m.scale ≡ s → is_active rest i ≡ true →
      h ≡ shape_of x → b ≡ setup_of x i s Bottom → t ≡ setup_of x i s Top → e ≡ chosen h b t →
      PlacedBy ls n s₀ s e e' → m' ≡ insert_in m e' initial false →
      free_turn st initial so_far i x ≡ record { map = m'; rest = rest }
  unfolding free_turn
  free-puts {e = e} {e' = e'} j k l z a p q t w f u =
      let r : placed_for m e initial true ≡ e' =
      rw (and-true (not (first_edge e).locked), k, z, l.edges, f l.tags) in
      rw (a, j, ← p, ← q, ← t, ← w, u, insert-placed m e initial initial true, r)
    where
      and-true : (b : Bool) → (b && true) ≡ b
      and-true true = refl
      and-true false = refl
