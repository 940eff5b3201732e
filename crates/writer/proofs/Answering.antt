-- Laws of the writer's answer: a refusal before the room is looked at stands, after that the room
-- decides, and where it does not refuse no test holds. Assumes nothing.
use mathlib.Core.Path.{◌≡◌, sym, ap, ◌∙◌}
use mathlib.Core.Bool.{Bool, true, false, cond, not}
use mathlib.Core.List.{List, [], ◌∷◌, ◌++◌, append_assoc}
use Prim.Native.Nat.{ℕ, ◌≤◌, ◌<◌}
use native.Mathlib.Omega.{arith}
use lib.Dec.{eqb, ltb}
use lib.IntN.{pos}
use lib.ListN.{length}
use borrow.Author.Tests.{eqb-true, eq-eqb, ne_eqb, ltb-false, not-false}
use Rattle.fixed.specs.Fixed.{from_bits, less_f}
use Rattle.fixed.proofs.Tests.{both_false}
use Rattle.words.specs.Rows.{Row, first_or}
use Rattle.words.specs.Bytes.{over}
use Rattle.words.proofs.Rows.{found-else}
use Rattle.writer.specs.Refusals.{WriteAnswer}
use Rattle.writer.specs.declared.write_answer.WriteRefusal.TheVariants.{ScriptRoom}
use Rattle.std.proofs.Common.{Ok, Err}
use Rattle.writer.specs.ToWrite.{Given, pieces_in, script_for}
use Rattle.writer.specs.Refusals.{write_number, write_refuses, given_rows, piece_rows, room_row, write_rows}
use Rattle.writer.specs.Refusals.{write_answer, buffer_by, write_of, Wrote, FineParams}
use Rattle.writer.proofs.PieceFaults.{Refuse, given-refuse, pieces-refuse, not-fine, none-hold}
use Rattle.writer.proofs.PieceFaults.{fine-is, NoneHold}
use Rattle.writer.proofs.PieceFaults.{none-front, none-back, none-onward, none-answer, counts-fine}

-- tests in two lists refuse if those of each do
refuse-both : (rs qs : List (Row WriteAnswer)) → Refuse rs → Refuse qs → Refuse (rs ++ qs)
refuse-both [] qs h k = k
refuse-both (r ∷ rs) qs h k = (h.0, refuse-both rs qs h.1 k)

-- ---- what the tests before the room leave
module _ (g : Given) where
  -- those of scale and counts, then those of the pieces
  abbrev pub before : List (Row WriteAnswer)
  before = given_rows g.scale g.params ++ piece_rows 0 (length g.masks) (pieces_in g.commands)

  -- all of them refuse
  all-refuse : Refuse before
  all-refuse =
      refuse-both (given_rows g.scale g.params) (piece_rows 0 (length g.masks) (pieces_in g.commands))
      (given-refuse g.scale g.params) (pieces-refuse 0 (length g.masks) (pieces_in g.commands))

  -- an answer numbered 0 is that for where none holds
  pub before-fine : write_number (first_or (Ok 0) before) ≡ 0 → first_or (Ok 0) before ≡ Ok 0
  before-fine e = fine-is before all-refuse e

  -- and none does
  none_before : first_or (Ok 0) before ≡ Ok 0 → NoneHold before
  none_before e = none-hold (Ok 0) before all-refuse (ap write_number e)

  -- so none of those of the pieces
  pub fine-pieces : first_or (Ok 0) before ≡ Ok 0 →
      first_or (Ok 0) (piece_rows 0 (length g.masks) (pieces_in g.commands)) ≡ Ok 0
  fine-pieces e = none-answer (Ok 0) _ (none-back (given_rows g.scale g.params) _ (none_before e))

  -- and the counts are fine
  pub fine-params : first_or (Ok 0) before ≡ Ok 0 → FineParams g.params
  fine-params e = counts-fine g.scale g.params (none-front (given_rows g.scale g.params) _ (none_before e))

  -- ---- the answer
  module _ (room : ℕ) where
    abbrev done : WriteAnswer
    done = Ok (length (script_for g))

    -- the test of the room
    abbrev last : List (Row WriteAnswer)
    last = room_row (length (script_for g)) room ∷ []

    -- it stands behind the others
    in_two : write_answer g room ≡ first_or done (before ++ last)
    unfolding write_answer write_rows
    in_two =
        ap (first_or done)
        (sym (append_assoc (given_rows g.scale g.params)
        (piece_rows 0 (length g.masks) (pieces_in g.commands)) last))

    -- a refusal before it stands
    pub refused-before : 0 < write_number (first_or (Ok 0) before) →
        write_answer g room ≡ first_or (Ok 0) before
    refused-before h =
        in_two ∙ found-else (Ok 0) done before last (not-fine (first_or (Ok 0) before) h)

    -- and after that the room decides
    pub by-room : first_or (Ok 0) before ≡ Ok 0 →
        write_answer g room ≡ cond (room_row (length (script_for g)) room).fault (Err ScriptRoom) done
    unfolding first_or
    by-room e = in_two ∙ none-onward done before last (none_before e)

    -- an answer that does not refuse is given where none holds
    none-held : write_refuses (write_answer g room) ≡ false → NoneHold (before ++ last)
    none-held e =
        none-hold done (before ++ last) (refuse-both before last all-refuse (omega arith, tt))
        (ap write_number (sym in_two) ∙
        eqb-true (write_number (write_answer g room)) 0 (not-false (eqb (write_number (write_answer g room)) 0) e))

-- ---- what an answer that does not refuse leaves
-- the scale is 1 bit or more, the counts and the commands are fine, and the script is short
pub record Unrefused (g : Given) : Type 0 where
  pub scaled : less_f g.scale (from_bits (pos 1)) ≡ false
  pub params : FineParams g.params
  pub pieces : NoneHold (piece_rows 0 (length g.masks) (pieces_in g.commands))
  pub short : length (script_for g) ≤ 65536

-- so they are where it does not refuse
pub unrefused : (g : Given) (room : ℕ) → write_refuses (write_answer g room) ≡ false → Unrefused g
unfolding given_rows
unrefused g room e =
    let size = length (script_for g) in
    let rs = given_rows g.scale g.params in
    let qs = piece_rows 0 (length g.masks) (pieces_in g.commands) in
    let c = none-held g room e in
    let f = none-front (before g) (room_row size room ∷ []) c in
    let behind = (none-back (before g) (room_row size room ∷ []) c).0 in
    record {
      scaled = f.0;
      params = counts-fine g.scale g.params (none-front rs qs f);
      pieces = none-back rs qs f;
      short = ltb-false 65536 size (both_false (ltb room size) (ltb 65536 size) behind).1;
    }

-- ---- the answer and the buffer
module _ (g : Given) (lent : List ℕ) where
  -- a refusal leaves the buffer
  pub wrote_nothing : (a : WriteAnswer) → a ≡ write_answer g (length lent) → 0 < write_number a →
      Wrote (write_of g lent) a lent
  unfolding write_of
  wrote_nothing a e h =
      let n : eqb (write_number (write_answer g (length lent))) 0 ≡ false =
      ne_eqb (write_number (write_answer g (length lent))) 0 (λ z. absurd (omega (arith, ap write_number e, z, h))) in
      record { answer = e; memory = sym (ap (λ (b : Bool). buffer_by (not b) (script_for g) lent) n) }

  -- and else the script is written over it
  pub wrote-script : (n : ℕ) (left : List ℕ) → Ok n ≡ write_answer g (length lent) →
      left ≡ over (script_for g) lent → Wrote (write_of g lent) (Ok n) left
  unfolding write_of
  wrote-script n left e m =
      let z : eqb (write_number (write_answer g (length lent))) 0 ≡ true =
      eq-eqb (write_number (write_answer g (length lent))) 0 (sym (ap write_number e)) in
      record { answer = e; memory = m ∙ sym (ap (λ (b : Bool). buffer_by (not b) (script_for g) lent) z) }
