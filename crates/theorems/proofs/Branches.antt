-- Neither of two branches of the Rust is ever entered: the walk down of a mapping goes nowhere, on
-- every list of edges; and at every insertion of every build at least one edge is valid, whatever
-- the stems, the zones and the mask. Assumes nothing.
use mathlib.Core.Path.{◌≡◌, refl, sym, ap, subst, ◌∙◌}
use mathlib.Core.Bool.{Bool, true, false, cond, not, ◌&&◌}
use mathlib.Core.List.{List, [], ◌∷◌, ◌++◌}
use Prim.Native.Nat.{ℕ, zero, suc, ◌+◌, ◌≤◌, ◌<◌}
use native.Mathlib.Nat.{le_refl}
use native.Mathlib.Omega.{arith}
use lib.Dec.{eqb}
use lib.ListN.{length, get_or}
use borrow.Author.Tests.{ne_eqb}
use Rattle.fixed.specs.declared.Fixed.{Fixed}
use Rattle.fixed.specs.Fixed.{ZERO, less_f, at_most_f}
use Rattle.fixed.proofs.Order.{heights}
use Rattle.stems.specs.declared.mask.HintMask.{HintMask}
use Rattle.stems.specs.declared.edge.StemHint.{StemHint}
use Rattle.stems.specs.declared.edge.Stems.{Stems}
use Rattle.stems.specs.declared.edge.Kind.TheVariants.{GhostBottom}
use Rattle.stems.specs.declared.edge.Side.TheVariants.{Bottom, Top}
use Rattle.stems.specs.declared.edge.Hint.{Hint}
use Rattle.stems.specs.declared.edge.Shape.{Shape}
use Rattle.stems.specs.declared.edge.Shape.TheVariants.{BottomGhost, TopGhost, Pair}
use Rattle.stems.specs.Mask.{all_active, is_active}
use Rattle.stems.specs.Edge.{no_hint, shape_of, edge_of, setup_of}
use Rattle.stems.proofs.Masks.{clear-off, clear-keeps}
use Rattle.stems.proofs.Edges.{setup-kind}
use Rattle.zones.specs.declared.state.HintState.{HintState}
use Rattle.hintmap.specs.declared.map.HintMap.{HintMap}
use Rattle.hintmap.specs.declared.insert.Edges.{Edges}
use Rattle.hintmap.specs.Map.{new_map, view, leading, count_by, reach, line, line_by, map_of}
use Rattle.hintmap.specs.Insert.{chosen, outcome_of, insert_in}
use Rattle.hintmap.specs.WholeStems.{Like}
use Rattle.hintmap.proofs.Alike.{like-refl}
use Rattle.hintmap.proofs.Walk.{serves-at}
use Rattle.build.specs.Ghosts.{ghost_at, em_bottom, em_top, em_boxed, uncovered, baseline_by, baselined}
use Rattle.build.specs.Place.{declared_in, prepared_of, put_by, locked_by, locked_turn, locked_turns, free_by}
use Rattle.build.specs.Place.{free_turn}
use Rattle.build.specs.Place.{Placed, free_turns}
use Rattle.build.specs.Build.{boxed_map, initial_placed, locked_placed}
use Rattle.build.proofs.Steps.{prepared-like, locked-cases}
use Rattle.build.proofs.Rounds.{locked-round, round_keeps}
use Rattle.hints.specs.declared.drawing.Drawing.{Drawing}
use Rattle.run.specs.Run.{Asked}
use Rattle.script.specs.Script.{zones_of, calls_in, drawing_in}
use Rattle.theorems.specs.Demand1.{Checked}
use Rattle.theorems.specs.Reached.{Reached, current_map}
use Rattle.theorems.specs.Branches.{up, down, mapped_at, NoWayBack, Handed, handed, OneValid, EachValid, taken_of}
use Rattle.theorems.specs.Branches.{inserted, Inserts, handed_if, locked_handed, free_handed, base_handed}
use Rattle.theorems.specs.Branches.{InitialInserts, BuiltInserts, begun, NeverEntered}
use Rattle.theorems.proofs.Demand3.{reached}

-- ---- the walk down
-- an edge that the walk up has passed is at or below the height
module _ (h : Fixed) where
  passed-by : (t : Bool) (e : Hint) (es : List Hint) →
      ((i : ℕ) → i < reach es h → at_most_f (get_or es i no_hint).cs_coord h ≡ true) →
      at_most_f e.cs_coord h ≡ t → (i : ℕ) → i < count_by t (reach es h) →
      at_most_f (get_or (e ∷ es) i no_hint).cs_coord h ≡ true
  passed-by true e es ih p zero l = p
  passed-by true e es ih p (suc i) l = ih i (omega arith)
  passed-by false e es ih p i l = absurd (omega arith)

  passed : (es : List Hint) (i : ℕ) → i < reach es h → at_most_f (get_or es i no_hint).cs_coord h ≡ true
  unfolding leading
  passed [] i l = absurd (omega arith)
  passed (e ∷ es) i l = passed-by (at_most_f e.cs_coord h) e es (passed es) refl i l

  -- so the edge where the walk ends, if it is not the first, is not above the height
  not-above : (es : List Hint) (i : ℕ) → reach es h ≡ suc i → less_f h (get_or es i no_hint).cs_coord ≡ false
  not-above es i q =
      let t = passed es i (omega (arith, q)) in
      omega heights

  -- on every list the walk down from there goes nowhere
  pub no_way_back : (es : List Hint) → down es h (up es h) ≡ up es h
  unfolding down leading
  no_way_back [] = refl
  no_way_back (e ∷ es) = go (reach es h) refl
    where
      go : (k : ℕ) → reach es h ≡ k → down (e ∷ es) h k ≡ k
      go zero q = refl
      go (suc i) q = rw (not-above es i q)

  -- and on every list a height is mapped by the edge where the walk up ends
  pub map-up : (es : List Hint) (s : Fixed) → map_of es s h ≡ mapped_at es (up es h) s h
  unfolding map_of mapped_at
  map-up [] s = refl
  map-up (e ∷ es) s = rw (serves-at e es h) (go (reach es h) refl)
    where
      under : (t : Bool) → line e (cond t s e.scale) h ≡ cond t (line e s h) (line e e.scale h)
      under true = refl
      under false = refl

      go : (k : ℕ) → reach es h ≡ k → line_by (get_or (e ∷ es) k no_hint) s h ≡ cond (eqb k 0 && less_f h e.cs_coord)
          (line e s h) (line (get_or (e ∷ es) k no_hint) (get_or (e ∷ es) k no_hint).scale h)
      go zero q = under (less_f h e.cs_coord)
      go (suc i) q = rw (not-above es i q, ne_eqb (suc i) 0 (λ w. omega arith))

  pub goes-nowhere : (m : HintMap) → NoWayBack m h
  goes-nowhere m =
      let n = no_way_back (view m) in
      record {
        nowhere = n;
        device = map-up (view m) m.scale ∙ ap (λ (k : ℕ). mapped_at (view m) k m.scale h) (sym n);
      }

-- ---- what is handed over
-- two edges that differ from those of a stem on the device only: one is valid, and those that are
-- taken are those that the stem's shape has
record Fits (h : Handed) (e : Edges) : Type 0 where
  taken : taken_of h ≡ e
  one : OneValid h

by_shape : (h : Shape) (i : ℕ) (s : Fixed) (b t : Hint) → b.kind ≡ (edge_of h Bottom i s).kind →
    t.kind ≡ (edge_of h Top i s).kind → Fits (handed b t) (chosen h b t)
unfolding edge_of chosen
by_shape (BottomGhost h) i s b t p q = record { taken = rw (p, q); one = rw p }
by_shape (TopGhost h) i s b t p q = record { taken = rw (p, q); one = rw (p, q) }
by_shape (Pair l h) i s b t p q = record { taken = rw (p, q); one = rw p }

fits-like : (x : StemHint) (i : ℕ) (s : Fixed) (b t : Hint) → Like (setup_of x i s Bottom) b →
    Like (setup_of x i s Top) t → Fits (handed b t) (chosen (shape_of x) b t)
fits-like x i s b t p q =
    by_shape (shape_of x) i s b t (sym p.kind ∙ setup-kind x i s Bottom) (sym q.kind ∙ setup-kind x i s Top)

-- ---- insertions one after another
module _ (initial : HintMap) (given : Bool) where
  inserts-if : (b : Bool) {h : Handed} {e : Edges} → Fits h e → (m : HintMap) →
      Inserts initial given (handed_if b h) m (cond b (insert_in m e initial given) m)
  unfolding inserted EachValid
  inserts-if true f m =
      record { made = ap (λ (x : Edges). insert_in m x initial given) (sym f.taken); valid = (f.one, tt) }
  inserts-if false f m = record { made = refl; valid = tt }

  inserts-none : (m : HintMap) → Inserts initial given [] m m
  unfolding inserted EachValid
  inserts-none m = record { made = refl; valid = tt }

  inserted-more : (hs ks : List Handed) (m : HintMap) →
      inserted initial given (hs ++ ks) m ≡ inserted initial given ks (inserted initial given hs m)
  unfolding inserted
  inserted-more [] ks m = refl
  inserted-more (h ∷ hs) ks m = inserted-more hs ks (insert_in m (taken_of h) initial given)

  each_more : (hs ks : List Handed) → EachValid hs → EachValid ks → EachValid (hs ++ ks)
  unfolding EachValid
  each_more [] ks v w = w
  each_more (h ∷ hs) ks v w = (v.0, each_more hs ks v.1 w)

  inserts-then : {hs ks : List Handed} {m n o : HintMap} → Inserts initial given hs m n → Inserts initial given ks n o →
      Inserts initial given (hs ++ ks) m o
  inserts-then {hs} {ks} {m} a b =
      record {
        made = b.made ∙ ap (inserted initial given ks) a.made ∙ sym (inserted-more hs ks m);
        valid = each_more hs ks a.valid b.valid;
      }

  -- ---- the rounds over the stems
  module _ (st : HintState) (mask : HintMask) where
    -- what is still to be placed is what is active, from stem i on
    abbrev Agrees : ℕ → HintMask → Type 0
    Agrees i rest = (k : ℕ) → i ≤ k → is_active rest k ≡ is_active mask k

    -- a stem's turn in the first round, from p to q, where it is active or not, and locked or
    -- captured or not
    record Turned (i : ℕ) (x : StemHint) (p q : Placed) (active captured : Bool) : Type 0 where
      map : Inserts initial given (handed_if (active && captured)
          (handed (prepared_of st x i).bottom (prepared_of st x i).top)) p.map q.map
      rest : Agrees (suc i) q.rest
      here : is_active q.rest i ≡ (active && not captured)

    module _ (i : ℕ) (x : StemHint) (p : Placed) (a : Agrees i p.rest) where
      left : (b : Bool) → is_active mask i ≡ b → Agrees (suc i) p.rest × (is_active p.rest i ≡ b)
      left b e = (λ k l. a k (omega arith), a i (le_refl i) ∙ e)

      put : (c : Bool) → is_active mask i ≡ true →
          Turned i x p (put_by c initial given p i (shape_of x) (prepared_of st x i)) true c
      put true e =
          let l = prepared-like st x i in
          record {
            map = inserts-if true (fits-like x i st.scale _ _ l.0 l.1) p.map;
            rest = λ k l. clear-keeps p.rest i k (λ w. omega arith) ∙ a k (omega arith);
            here = clear-off p.rest i;
          }
      put false e = record { map = inserts-none p.map; rest = (left true e).0; here = (left true e).1 }

      turn : (b : Bool) → is_active mask i ≡ b →
          Turned i x p (locked_by b st initial given p i x) b (prepared_of st x i).captured
      turn true e = put (prepared_of st x i).captured e
      turn false e = record { map = inserts-none p.map; rest = (left false e).0; here = (left false e).1 }

      locked-turned : Turned i x p (locked_turn st initial given p i x) (is_active mask i) (prepared_of st x i).captured
      unfolding locked_turn
      locked-turned = rw (a i (le_refl i)) (turn (is_active mask i) refl)

    -- the first round inserts the active stems that are locked or captured, in order
    locked-inserts : (i : ℕ) (xs : List StemHint) (p : Placed) → Agrees i p.rest →
        Inserts initial given (locked_handed st mask i xs) p.map (locked_turns st initial given i xs p).map
    unfolding locked_turns locked_handed
    locked-inserts i [] p a = inserts-none p.map
    locked-inserts i (x ∷ xs) p a =
        let t = locked-turned i x p a in
        inserts-then t.map (locked-inserts (suc i) xs (locked_turn st initial given p i x) t.rest)

    -- and leaves the others, from stem i on
    unfoldable Rest : HintMask → ℕ → List StemHint → Type 0
    Rest rest i [] = Unit {0}
    Rest rest i (x ∷ xs) =
        (is_active rest i ≡ (is_active mask i && not (prepared_of st x i).captured)) × Rest rest (suc i) xs

    locked-keeps : (k : ℕ) (v : Bool) (i : ℕ) (xs : List StemHint) (p : Placed) → k < i → is_active p.rest k ≡ v →
        is_active (locked_turns st initial given i xs p).rest k ≡ v
    locked-keeps k v i xs p l e =
        (round_keeps (locked-round st initial given) (i + length xs)
        (λ (j : ℕ) (q : Placed). (k < j) × (is_active q.rest k ≡ v))
        (λ j x q m h. (
          omega arith,
          locked-cases initial q j x (λ (r : Placed). is_active r.rest k ≡ v) h.1 st given
              (λ w. clear-keeps q.rest j k (λ u. omega (arith, h.0)) ∙ h.1),
        ))
        i xs p refl (l, e)).1

    locked-rest : (i : ℕ) (xs : List StemHint) (p : Placed) → Agrees i p.rest →
        Rest (locked_turns st initial given i xs p).rest i xs
    unfolding locked_turns Rest
    locked-rest i [] p a = tt
    locked-rest i (x ∷ xs) p a =
        let t = locked-turned i x p a in (
          locked-keeps i _ (suc i) xs (locked_turn st initial given p i x) (omega arith) t.here,
          locked-rest (suc i) xs (locked_turn st initial given p i x) t.rest,
        )

-- the second round inserts the active stems that are left, in order
module _ (st : HintState) (mask : HintMask) (initial : HintMap) where
  abbrev own : ℕ → StemHint → Handed
  own i x = handed (setup_of x i st.scale Bottom) (setup_of x i st.scale Top)

  free-turned : (i : ℕ) (x : StemHint) (p : Placed) (b : Bool) →
      Inserts initial true (handed_if b (own i x)) p.map (free_by b st initial p i x).map ×
      ((free_by b st initial p i x).rest ≡ p.rest)
  free-turned i x p true =
      (inserts-if initial true true (fits-like x i st.scale _ _ (like-refl _) (like-refl _)) p.map, refl)
  free-turned i x p false = (inserts-none initial true p.map, refl)

  free-inserts : (i : ℕ) (xs : List StemHint) (p : Placed) → Rest initial true st mask p.rest i xs →
      Inserts initial true (free_handed st mask i xs) p.map (free_turns st initial i xs p).map
  unfolding free_turns free_handed free_turn Rest
  free-inserts i [] p r = inserts-none initial true p.map
  free-inserts i (x ∷ xs) p r =
      let q = free_turn st initial p i x in
      let t = free-turned i x p (is_active p.rest i) in
      inserts-then initial true
      (subst (λ (b : Bool). Inserts initial true (handed_if b (own i x)) p.map q.map) r.0 t.0)
      (free-inserts (suc i) xs q (subst (λ (m : HintMask). Rest initial true st mask m (suc i) xs) (sym t.1) r.1))

-- ---- the edges of no stem
module _ (initial : HintMap) (given : Bool) (m : HintMap) where
  box-inserts : (wanted : Bool) →
      Inserts initial given
      (handed_if wanted (handed (em_bottom m.scale) no_hint) ++
      handed_if wanted (handed no_hint (em_top m.scale))) m (em_boxed wanted initial given m)
  unfolding em_boxed em_bottom em_top inserted EachValid
  box-inserts true = record { made = refl; valid = (refl, (refl, tt)) }
  box-inserts false = record { made = refl; valid = tt }

-- no initial map is read where none is given
base-inserts : (initial m : HintMap) → Inserts initial false (base_handed m) m (baselined m)
unfolding baselined inserted EachValid insert_in outcome_of
base-inserts initial m = go (uncovered m)
  where
    go : (b : Bool) →
        Inserts initial false (handed_if b (handed (ghost_at GhostBottom ZERO ZERO m.scale) no_hint)) m
        (baseline_by b m)
    go true = record { made = refl; valid = (refl, tt) }
    go false = record { made = refl; valid = tt }

-- ---- at every insertion of every build at least one edge is valid
pub initial-inserts : (st : HintState) (ss : Stems) → InitialInserts st ss
initial-inserts st ss =
    let new = new_map st.scale in
    inserts-then new false (box-inserts new false new st.do_em_box_hints)
    (inserts-then new false
    (locked-inserts new false st all_active 0 (declared_in ss)
    (record { map = boxed_map st new false; rest = all_active }) (λ k l. refl))
    (base-inserts new (initial_placed st ss).map))

pub built-inserts : (st : HintState) (mask : HintMask) (initial : HintMap) (ss : Stems) →
    BuiltInserts st mask initial ss
built-inserts st mask initial ss =
    let p : Placed = record { map = boxed_map st initial true; rest = mask } in
    inserts-then initial true (box-inserts initial true (new_map st.scale) st.do_em_box_hints)
    (inserts-then initial true (locked-inserts initial true st mask 0 (declared_in ss) p (λ k l. refl))
    (free-inserts st mask initial 0 (declared_in ss) (locked_placed st mask initial ss)
    (locked-rest initial true st mask 0 (declared_in ss) p (λ k l. refl))))

-- ---- neither is entered from any drawing, whatever its hints
pub never-entered : (st : HintState) (d : Drawing) → NeverEntered st d
never-entered st d =
    record {
      points = λ h. goes-nowhere h (current_map st d);
      edges = λ h. goes-nowhere h (begun st d).initial;
      initial = initial-inserts st d.hints.stems;
      current = built-inserts st d.hints.mask (begun st d).initial (begun st d).stems;
      counter = λ m. built-inserts st m (begun st d).initial (begun st d).stems;
    }

-- so of every drawing that there can be
pub never-reached : {st : HintState} {d : Drawing} → Reached st d → NeverEntered st d
never-reached {st} {d} r = never-entered st d

-- and of every drawing on the way of a script's run
pub never-in : (s : List ℕ) → Checked s → (cs ds : List Asked) → calls_in s ≡ cs ++ ds →
    NeverEntered (zones_of s) (drawing_in s cs)
never-in s k cs ds e = never-reached (reached s k cs)
