-- A script's pieces, with their starts left out and made anew: no test of the writer holds and they
-- are the same exactly if their masks lie end to end, and else the answer is BAD_MASK. Assumes nothing.
use mathlib.Core.Path.{◌≡◌, refl, sym, ap, ◌∙◌}
use mathlib.Core.Bool.{Bool, true, false, cond, true≢false}
use mathlib.Core.List.{List, [], ◌∷◌, ◌++◌, map}
use Prim.Native.Nat.{ℕ, suc, ◌+◌, ◌-◌, ◌≤◌}
use native.Mathlib.Omega.{arith}
use lib.ListN.{length, get_or, length-append}
use borrow.Author.Tests.{le-ltb, ltb-false}
use Rattle.words.specs.Rows.{Row, first_or}
use Rattle.header.specs.Header.{outside}
use Rattle.header.proofs.Tests.{before-end}
use Rattle.commands.specs.Commands.{operands_of}
use Rattle.writer.specs.Refusals.{WriteAnswer}
use Rattle.writer.specs.Pieces.{Piece, joined, Whole, is_mask, given_operands, starts_from, unstarted}
use Rattle.writer.specs.Refusals.{write_number, piece_rows}
use Rattle.writer.proofs.PieceFaults.{NoneHold, taken-left}
use Rattle.round_trips.specs.RoundTrips.{Part, LieFrom}
use Rattle.round_trips.proofs.WordBytes.{Small, small-both}

-- a piece, by its kind and its operands
abbrev piece : ℕ → List ℕ → Piece
piece k os = record { kind = k; operands = os }

-- pieces of kinds 1 to 9, none of them cut off; a mask has its start and its length
pub data Sound : List Piece → Type 0 where
  none : Sound []
  mask : {k a b : ℕ} {ps : List Piece} → is_mask k ≡ true → outside 1 9 k ≡ false → Small (k ∷ a ∷ b ∷ []) → Sound ps →
      Sound (piece k (a ∷ b ∷ []) ∷ ps)
  plain : {k : ℕ} {os : List ℕ} {ps : List Piece} → is_mask k ≡ false → outside 1 9 k ≡ false →
      length os ≡ operands_of k → Small (k ∷ os) → Sound ps → Sound (piece k os ∷ ps)

-- where the masks lie
abbrev pub part_of : Piece → Part
part_of p = record { start = get_or p.operands 0 0; bytes = get_or p.operands 1 0 }

-- of all pieces
unfoldable pub parts_of_pieces : List Piece → List Part
parts_of_pieces [] = []
parts_of_pieces (p ∷ ps) = cond (is_mask p.kind) (part_of p ∷ []) [] ++ parts_of_pieces ps

-- ---- without their starts
-- none is cut off
pub bare-whole : {ps : List Piece} → Sound ps → Whole given_operands (map unstarted ps)
unfolding given_operands
bare-whole none = tt
bare-whole (mask e r w h) = (rw e, bare-whole h)
bare-whole (plain e r n w h) = (rw e n, bare-whole h)

-- their words are below 2^32
pub bare-small : {ps : List Piece} → Sound ps → Small (joined (map unstarted ps))
unfolding joined
bare-small none = tt
bare-small (mask e r w h) = (w.0, rw e (w.1.1.0, bare-small h))
bare-small (plain {k} {os} {ps} e r n w h) =
    (w.0, rw e (small-both os (joined (map unstarted ps)) w.1 (bare-small h)))

-- and with new starts as many as before
pub same_length : {ps : List Piece} (n : ℕ) → Sound ps →
    length (joined (starts_from n (map unstarted ps))) ≡ length (joined ps)
unfolding starts_from joined
same_length n none = refl
same_length n (mask e r w h) = rw (e, same_length _ h)
same_length n (plain {k} {os} {ps} e r o w h) =
    rw e
    (ap suc (length-append os _ ∙ ap (λ (x : ℕ). length os + x) (same_length _ h) ∙ sym (length-append os (joined ps))))

-- ---- the writer's tests
-- they hold only where they say BAD_MASK
abbrev Masked : List (Row WriteAnswer) → Type 0
Masked [] = Unit {0}
Masked (r ∷ rs) = (r.fault ≡ true → write_number r.said ≡ 5) × Masked rs

-- so of a script's pieces, none of which is bad
pub masked : {ps : List Piece} (place left : ℕ) → Sound ps → Masked (piece_rows place left (map unstarted ps))
unfolding piece_rows given_operands
masked place left none = ((λ q. refl), tt)
masked place left (mask {k} {a} {b} e r w h) =
    rw (e, r) ((λ q. absurd (true≢false (sym q))), ((λ q. refl), masked (place + 2) (left - b) h))
masked place left (plain {k} {os} e r n w h) =
    let g = le-ltb (length os) (operands_of k) (omega arith) in
    rw (e, r, g) ((λ q. absurd (true≢false (sym q))), ((λ q. refl), masked (place + length (k ∷ os)) (left - 0) h))

-- where the answer is not BAD_MASK none of them holds
pub none-masked : (ok : WriteAnswer) (rs qs : List (Row WriteAnswer)) → Masked rs →
    (write_number (first_or ok (rs ++ qs)) ≡ 5 → ⊥) → NoneHold rs
unfolding first_or
none-masked ok [] qs m n = tt
none-masked ok (r ∷ rs) qs m n = go r.fault refl n (λ k. none-masked ok rs qs m.1 k)
  where
    rest : WriteAnswer
    rest = first_or ok (rs ++ qs)

    go : (b : Bool) → r.fault ≡ b → (write_number (cond b r.said rest) ≡ 5 → ⊥) →
        ((write_number rest ≡ 5 → ⊥) → NoneHold rs) → NoneHold (r ∷ rs)
    go true f k g = absurd (k (m.0 f))
    go false f k g = (f, g k)

-- ---- end to end
-- of masks that lie end to end no test holds, and the new starts are the old ones
pub lie-start : {ps : List Piece} (place n end : ℕ) → end ≤ 65536 → Sound ps → LieFrom n end (parts_of_pieces ps) →
    (n ≤ end) × (NoneHold (piece_rows place (end - n) (map unstarted ps)) × (starts_from n (map unstarted ps) ≡ ps))
unfolding starts_from parts_of_pieces piece_rows given_operands
lie-start place n end few none q = (omega arith, ((le-ltb 0 (end - n) (omega arith), tt), refl))
lie-start place n end few (mask {k} {a} {b} {ps} e r w h) q =
    let u : (a ≡ n) × LieFrom (n + b) end (parts_of_pieces ps) = rw e at q in
    let v = lie-start (place + 2) (n + b) end few h u.1 in
    let d : end - n - b ≡ end - (n + b) = omega arith in
    let t = before-end b (end - n) b (omega (arith, v.0)) (omega (arith, v.0)) in
    (omega (arith, v.0), (rw (e, r) (refl, (t, rw d v.1.0)), rw e (rw (v.1.1, u.0))))
lie-start place n end few (plain {k} {os} {ps} e r o w h) q =
    let u : LieFrom n end (parts_of_pieces ps) = rw e at q in
    let v = lie-start (place + length (k ∷ os)) n end few h u in
    let d : end - n - 0 ≡ end - n = omega arith in
    let z : n + 0 ≡ n = omega arith in
    let g = le-ltb (length os) (operands_of k) (omega arith) in
    let t = before-end 0 (end - n) 0 (omega arith) (omega arith) in
    (v.0, (rw (e, r) (g, (t, rw d v.1.0)), rw e (rw (z, v.1.1))))

-- and masks for which both hold lie end to end
pub start-lie : {ps : List Piece} (place n left : ℕ) → Sound ps → NoneHold (piece_rows place left (map unstarted ps)) →
    starts_from n (map unstarted ps) ≡ ps → LieFrom n (n + left) (parts_of_pieces ps)
unfolding starts_from parts_of_pieces piece_rows
start-lie place n left none t q = omega (arith, ltb-false 0 left t.0)
start-lie place n left (mask {k} {a} {b} {ps} e r w h) t q =
    let u = rw e at t.1 in
    let l = taken-left b left u.0 in
    let v : piece k (n ∷ b ∷ []) ∷ starts_from (n + b) (map unstarted ps) ≡ piece k (a ∷ b ∷ []) ∷ ps = rw e at q in
    let d : n + b + (left - b) ≡ n + left = omega arith in
    let g : piece k (a ∷ b ∷ []) ≡ piece k (n ∷ b ∷ []) = cc in
    let f : a ≡ n = ap (λ (p : Piece). get_or p.operands 0 0) g in
    rw e (f, rw d at (start-lie (place + 2) (n + b) (left - b) h u.1 (cc)))
start-lie place n left (plain {k} {os} {ps} e r o w h) t q =
    let u = rw e at t.1 in
    let v : piece k os ∷ starts_from (n + 0) (map unstarted ps) ≡ piece k os ∷ ps = rw e at q in
    let d : n + 0 + (left - 0) ≡ n + left = omega arith in
    let z : n + 0 ≡ n = omega arith in
    rw e (rw z at (rw d at (start-lie (place + length (k ∷ os)) (n + 0) (left - 0) h u.1 (cc))))
