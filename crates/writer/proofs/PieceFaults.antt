-- Laws of the writer's tests: what each turn of a walk over the pieces finds, and tests of which none
-- holds. Assumes nothing.
use mathlib.Core.Path.{◌≡◌, refl, sym, ap, ◌∙◌}
use mathlib.Core.Bool.{Bool, true, false, cond}
use mathlib.Core.List.{List, [], ◌∷◌, ◌++◌, append-nil}
use Prim.Native.Nat.{ℕ, ◌+◌, ◌-◌, ◌≤◌, ◌<◌}
use native.Mathlib.Omega.{arith}
use lib.Dec.{ltb}
use lib.ListN.{length, take, drop, get_or, length-take, length-drop, drop_of_length-le}
use borrow.Author.Tests.{ltb-false}
use Rattle.fixed.specs.declared.Fixed.{Fixed}
use Rattle.fixed.proofs.Tests.{both_false}
use Rattle.zones.specs.declared.state.HintParams.{HintParams}
use Rattle.words.specs.Words.{negative}
use Rattle.words.specs.Rows.{Row, first_or}
use Rattle.words.proofs.Rows.{in-turn}
use Rattle.header.specs.Header.{outside}
use Rattle.writer.specs.Refusals.{WriteAnswer}
use Rattle.writer.specs.declared.write_answer.WriteRefusal.{WriteRefusal}
use Rattle.writer.specs.declared.write_answer.WriteRefusal.TheVariants.{BadScale, BadBlues, BadCommand, BadMask}
use Rattle.writer.specs.declared.write_answer.WriteRefusal.TheVariants.{ScriptRoom}
use Rattle.std.proofs.Common.{Ok, Err}
use Rattle.std.specs.Result.{result_and}
use Rattle.writer.specs.Pieces.{Piece, pieces_of, piece_words, given_operands, piece_at, bytes_taken}
use Rattle.writer.specs.Refusals.{write_number, given_rows, bad_piece, too_long, piece_rows, FineParams}
use Rattle.writer.proofs.Cutting.{piece-at, no_pieces, cut_at}

-- the answer of the tests from a word on, with so many bytes not yet taken
abbrev pub found : List ℕ → ℕ → ℕ → WriteAnswer
found ws i left = first_or (Ok 0) (piece_rows i left (pieces_of given_operands (drop i ws)))

-- the word behind a piece
abbrev pub next_piece : List ℕ → ℕ → ℕ
next_piece ws i = i + 1 + given_operands (get_or ws i 0)

module _ (ws : List ℕ) (i : ℕ) (h : i < length ws) where
  -- a piece that is not bad ends among the words
  pub piece-there : bad_piece (piece_at ws i) ≡ false → next_piece ws i ≤ length ws
  piece-there e =
      let n = given_operands (get_or ws i 0) in
      let b = (both_false (outside 1 9 (get_or ws i 0)) (ltb (length (take n (drop (i + 1) ws))) n) e).1 in
      ltb-false (length ws) (i + 1 + n) (sym (cut_at ws i n h) ∙ b)

  -- and has all its words
  pub piece-words : next_piece ws i ≤ length ws → i + length (piece_words (piece_at ws i)) ≡ next_piece ws i
  piece-words e =
      let n = given_operands (get_or ws i 0) in
      omega (arith, length-take n (drop (i + 1) ws), length-drop (i + 1) ws)

  module _ (left : ℕ) where
    -- the tests of a piece, then those behind it
    found_at : found ws i left ≡
        cond (bad_piece (piece_at ws i)) (Err (BadCommand i))
        (cond (too_long (bytes_taken (piece_at ws i)) left) (Err (BadMask i))
        (first_or (Ok 0)
        (piece_rows (i + length (piece_words (piece_at ws i))) (left - bytes_taken (piece_at ws i))
        (pieces_of given_operands (drop (next_piece ws i) ws)))))
    unfolding first_or piece_rows
    found_at = ap (λ (ps : List Piece). first_or (Ok 0) (piece_rows i left ps)) (piece-at ws i h)

    -- a bad piece
    pub found-bad : bad_piece (piece_at ws i) ≡ true → Err (BadCommand i) ≡ found ws i left
    found-bad e = sym (rw e at found_at)

    -- a mask that is too long
    pub found-long : bad_piece (piece_at ws i) ≡ false → too_long (bytes_taken (piece_at ws i)) left ≡ true →
        Err (BadMask i) ≡ found ws i left
    found-long e l = sym (rw (e, l) at found_at)

    -- and neither
    pub found-next : bad_piece (piece_at ws i) ≡ false → too_long (bytes_taken (piece_at ws i)) left ≡ false →
        found ws i left ≡ found ws (next_piece ws i) (left - bytes_taken (piece_at ws i))
    found-next e l =
        (rw (e, l) at found_at) ∙
        ap (λ (k : ℕ). first_or (Ok 0)
        (piece_rows k (left - bytes_taken (piece_at ws i)) (pieces_of given_operands (drop (next_piece ws i) ws))))
        (piece-words (piece-there e))

-- behind the last piece no byte may be left
pub found-end : (ws : List ℕ) (i left : ℕ) → length ws ≤ i →
    found ws i left ≡ cond (ltb 0 left) (Err (BadMask i)) (Ok 0)
unfolding first_or piece_rows
found-end ws i left h =
    ap (λ (l : List ℕ). first_or (Ok 0) (piece_rows i left (pieces_of given_operands l)))
    (drop_of_length-le ws h) ∙
    ap (λ (ps : List Piece). first_or (Ok 0) (piece_rows i left ps)) (no_pieces given_operands)

-- a mask that is not too long takes no more bytes than are left
pub taken-left : (len left : ℕ) → too_long len left ≡ false → len ≤ left
taken-left len left e = ltb-false left len (both_false (negative len) (ltb left len) e).1

-- ---- tests of which none holds
module _ {A : Type 0} where
  -- each test fails
  abbrev pub NoneHold : List (Row A) → Type 0
  NoneHold [] = Unit {0}
  NoneHold (r ∷ rs) = (r.fault ≡ false) × NoneHold rs

  -- nor of two lists
  pub none_both : (rs qs : List (Row A)) → NoneHold rs → NoneHold qs → NoneHold (rs ++ qs)
  none_both [] qs c d = d
  none_both (r ∷ rs) qs c d = (c.0, none_both rs qs c.1 d)

  -- so of the first of two lists
  pub none-front : (rs qs : List (Row A)) → NoneHold (rs ++ qs) → NoneHold rs
  none-front [] qs c = tt
  none-front (r ∷ rs) qs c = (c.0, none-front rs qs c.1)

  -- and of the second
  pub none-back : (rs qs : List (Row A)) → NoneHold (rs ++ qs) → NoneHold qs
  none-back [] qs c = c
  none-back (r ∷ rs) qs c = none-back rs qs c.1

  -- they leave the answer to the tests behind them
  pub none-onward : (ok : A) (rs qs : List (Row A)) → NoneHold rs → first_or ok (rs ++ qs) ≡ first_or ok qs
  unfolding first_or
  none-onward ok [] qs c = refl
  none-onward ok (r ∷ rs) qs c =
      ap (λ (t : Bool). cond t r.said (first_or ok (rs ++ qs))) c.0 ∙ none-onward ok rs qs c.1

  -- or it is that for where none holds
  pub none-answer : (ok : A) (rs : List (Row A)) → NoneHold rs → first_or ok rs ≡ ok
  unfolding first_or
  none-answer ok rs c = ap (first_or ok) (sym (append-nil rs)) ∙ none-onward ok rs [] c

-- so the counts are fine where no test of them holds
pub counts-fine : (scale : Fixed) (p : HintParams) → NoneHold (given_rows scale p) → FineParams p
unfolding given_rows
counts-fine scale p c =
    let f = c.1 in
    record {
      blues = ltb-false 7 p.blues.count f.0;
      others = ltb-false 7 p.other_blues.count f.1.0;
      family = ltb-false 7 p.family_blues.count f.1.1.0;
      family_others = ltb-false 7 p.family_other_blues.count f.1.1.1.0;
    }

-- ---- tests that all refuse
-- what each says is numbered from 1
abbrev pub Refuse : List (Row WriteAnswer) → Type 0
Refuse [] = Unit {0}
Refuse (r ∷ rs) = (0 < write_number r.said) × Refuse rs

-- those of scale and counts
pub given-refuse : (scale : Fixed) (p : HintParams) → Refuse (given_rows scale p)
unfolding given_rows
given-refuse scale p = (omega arith, (omega arith, (omega arith, (omega arith, (omega arith, tt)))))

-- those of the pieces
pub pieces-refuse : (place left : ℕ) (ps : List Piece) → Refuse (piece_rows place left ps)
unfolding piece_rows
pieces-refuse place left [] = (omega arith, tt)
pieces-refuse place left (p ∷ ps) =
    (omega arith, (omega arith, pieces-refuse (place + length (piece_words p)) (left - bytes_taken p) ps))

-- so is every refusal
pub err-number : (r : WriteRefusal) → 0 < write_number (Err r)
err-number BadScale = omega arith
err-number (BadBlues p) = omega arith
err-number (BadCommand p) = omega arith
err-number (BadMask p) = omega arith
err-number ScriptRoom = omega arith

-- a refusal is not the answer for where none refuses
pub not-fine : (a : WriteAnswer) → 0 < write_number a → a ≡ Ok 0 → ⊥
not-fine a h e = absurd (omega (arith, ap write_number e))

-- and where the answer is numbered 0 none holds
pub none-hold : (ok : WriteAnswer) (rs : List (Row WriteAnswer)) → Refuse rs → write_number (first_or ok rs) ≡ 0 →
    NoneHold rs
unfolding first_or
none-hold ok [] h e = tt
none-hold ok (r ∷ rs) h e = by r.fault refl e (λ q. none-hold ok rs h.1 q)
  where
    by : (b : Bool) → r.fault ≡ b → write_number (cond b r.said (first_or ok rs)) ≡ 0 →
        (write_number (first_or ok rs) ≡ 0 → NoneHold rs) → NoneHold (r ∷ rs)
    by true f q g = absurd (omega (arith, h.0, q))
    by false f q g = (f, g q)

-- so it is that for where none does
pub fine-is : (rs : List (Row WriteAnswer)) → Refuse rs → write_number (first_or (Ok 0) rs) ≡ 0 →
    first_or (Ok 0) rs ≡ Ok 0
fine-is rs h e = none-answer (Ok 0) rs (none-hold (Ok 0) rs h e)

-- the tests of what is given: behind those of scale and counts those of the pieces
pub given_in_turn : (scale : Fixed) (p : HintParams) (qs : List (Row WriteAnswer)) →
    first_or (Ok 0) (given_rows scale p ++ qs) ≡
    result_and (first_or (Ok 0) (given_rows scale p)) (first_or (Ok 0) qs)
unfolding given_rows
given_in_turn scale p qs = in-turn 0 (Ok 0) (given_rows scale p) qs refl
