-- Pieces that the writer takes, with the starts of their masks: whole, their words below 2^32, and
-- without the starts the pieces again. Assumes nothing.
use mathlib.Core.Path.{◌≡◌, refl, ap}
use mathlib.Core.Bool.{Bool, true, false, cond}
use mathlib.Core.List.{List, [], ◌∷◌, map}
use Prim.Native.Nat.{ℕ, zero, suc, ◌+◌, ◌-◌, ◌<◌, ◌^◌}
use native.Mathlib.Omega.{arith}
use lib.Dec.{ltb}
use lib.ListN.{length, take, drop, length-take}
use borrow.Author.Tests.{ltb-false}
use Rattle.fixed.proofs.Tests.{both_false}
use Rattle.header.specs.Header.{outside}
use Rattle.commands.specs.Commands.{operands_of}
use Rattle.writer.specs.Pieces.{Piece, pieces_by, pieces_of, piece_words, joined, Whole, is_mask, given_operands}
use Rattle.writer.specs.Pieces.{bytes_taken, started, starts_from, unstarted}
use Rattle.writer.specs.Refusals.{piece_rows}
use Rattle.writer.proofs.Cutting.{started-whole}
use Rattle.writer.proofs.PieceFaults.{NoneHold, taken-left}
use Rattle.round_trips.proofs.WordBytes.{Small, small-front, small-back, small-both}

-- ---- whole pieces
-- where no test of the writer holds of at most f pieces none of them is cut off
whole_by : (f place left : ℕ) (ws : List ℕ) → NoneHold (piece_rows place left (pieces_by f given_operands ws)) →
    Whole given_operands (pieces_by f given_operands ws)
unfolding pieces_by piece_rows
whole_by zero place left ws c = tt
whole_by (suc f) place left [] c = tt
whole_by (suc f) place left (k ∷ ws) c =
    let n = given_operands k in
    let p : Piece = record { kind = k; operands = take n ws } in
    let l = length p.operands in
    let e = ltb-false l n (both_false (outside 1 9 k) (ltb l n) c.0).1 in (
      omega (arith, length-take n ws),
      whole_by f (place + length (piece_words p)) (left - bytes_taken p) (drop n ws) c.1.1,
    )

-- nor is one of all
pub given-whole : (place left : ℕ) (ws : List ℕ) → NoneHold (piece_rows place left (pieces_of given_operands ws)) →
    Whole given_operands (pieces_of given_operands ws)
unfolding pieces_of
given-whole place left ws c = whole_by (length ws) place left ws c

-- ---- with the starts of their masks
-- they are whole
pub starts-whole : (n : ℕ) (ps : List Piece) → Whole given_operands ps → Whole operands_of (starts_from n ps)
unfolding starts_from
starts-whole n [] h = tt
starts-whole n (p ∷ ps) h = (started-whole n p h.0, starts-whole (n + bytes_taken p) ps h.1)

-- a piece without its start again
unstarted-back : (n : ℕ) (p : Piece) → unstarted (started n p) ≡ p
unstarted-back n p = by (is_mask p.kind)
  where
    put : Bool → List ℕ
    put b = cond b (n ∷ p.operands) p.operands

    by : (b : Bool) → record { kind = p.kind; operands = cond b (drop 1 (put b)) (put b) } ≡ p
    by true = refl
    by false = refl

-- and so are all
pub starts-back : (n : ℕ) (ps : List Piece) → map unstarted (starts_from n ps) ≡ ps
unfolding starts_from
starts-back n [] = refl
starts-back n (p ∷ ps) =
    rw (unstarted-back n p) (ap (λ (l : List Piece). p ∷ l) (starts-back (n + bytes_taken p) ps))

-- ---- their words
-- a start below 2^32 leaves a piece's words so
started-small : (n : ℕ) (p : Piece) → n < 2 ^ 32 → Small (piece_words p) → Small (piece_words (started n p))
started-small n p h s = (s.0, by (is_mask p.kind))
  where
    by : (b : Bool) → Small (cond b (n ∷ p.operands) p.operands)
    by true = (h, s.1)
    by false = s.1

-- and so are all words, where the masks are among so few bytes
pub starts-small : (n place left : ℕ) (ps : List Piece) → NoneHold (piece_rows place left ps) → n + left < 2 ^ 32 →
    Small (joined ps) → Small (joined (starts_from n ps))
unfolding starts_from joined piece_rows
starts-small n place left [] c h s = tt
starts-small n place left (p ∷ ps) c h s =
    let t = bytes_taken p in
    let l = taken-left t left c.1.0 in
    small-both (piece_words (started n p)) (joined (starts_from (n + t) ps))
    (started-small n p (omega arith) (small-front (piece_words p) (joined ps) s))
    (starts-small (n + t) (place + length (piece_words p)) (left - t) ps c.1.1 (omega (arith, l))
    (small-back (piece_words p) (joined ps) s))
