-- What the writer's contract says is written is what reads back and makes the calls. Assumes nothing.
use mathlib.Core.Path.{◌≡◌, refl, subst, sym, ap, ◌∙◌}
use mathlib.Core.Bool.{Bool, true, false, cond, not}
use mathlib.Core.List.{List}
use Prim.Native.Nat.{ℕ, ◌<◌}
use native.Mathlib.Omega.{arith}
use lib.Dec.{eqb}
use lib.ListN.{length, take, drop}
use lib.Seq.{take_at}
use borrow.Author.Tests.{eq-eqb, eqb-true, eqb-false}
use Rattle.words.specs.Rows.{first_or}
use Rattle.words.specs.Bytes.{over}
use Rattle.writer.specs.declared.write_answer.WriteRefusal.TheVariants.{ScriptRoom}
use Rattle.std.proofs.Common.{Ok, Err}
use Rattle.writer.specs.ToWrite.{Given, script_for}
use Rattle.writer.specs.Refusals.{write_number, written_bytes, write_refuses, room_row, write_answer, buffer_by}
use Rattle.writer.specs.Refusals.{write_of, Wrote}
use Rattle.writer.proofs.Answering.{before, before-fine, refused-before, by-room}
use Rattle.round_trips.specs.RoundTrips.{HeldGiven, SaysBack, WrittenBack}
use Rattle.round_trips.proofs.Written.{written_back}

-- an answer that is OK says how many bytes the script has
pub says-size : (g : Given) (room n : ℕ) → write_answer g room ≡ Ok n → n ≡ length (script_for g)
says-size g room n e = by (eqb (write_number (first_or (Ok 0) (before g))) 0) refl
  where
    fits : (b : Bool) → cond b (Err ScriptRoom) (Ok (length (script_for g))) ≡ Ok n → n ≡ length (script_for g)
    fits true f = absurd (omega (arith, ap write_number f))
    fits false f = sym (ap written_bytes f)

    by : (b : Bool) → eqb (write_number (first_or (Ok 0) (before g))) 0 ≡ b → n ≡ length (script_for g)
    by true f =
        let o = before-fine g (eqb-true (write_number (first_or (Ok 0) (before g))) 0 f) in
        fits (room_row (length (script_for g)) room).fault (sym (by-room g room o) ∙ e)
    by false f =
        let h : 0 < write_number (first_or (Ok 0) (before g)) =
        omega (arith, eqb-false (write_number (first_or (Ok 0) (before g))) 0 f) in
        absurd (omega (arith, h, ap write_number (sym (refused-before g room h) ∙ e)))

-- so the bytes that are said to be written are the script
written-bytes : (g : Given) (lent : List ℕ) (n : ℕ) (left : List ℕ) → Wrote (write_of g lent) (Ok n) left →
    take n left ≡ script_for g
unfolding write_of over
written-bytes g lent n left w =
    let a = sym w.answer in
    let z : eqb (write_number (write_answer g (length lent))) 0 ≡ true = eq-eqb _ 0 (ap write_number a) in
    let m : left ≡ over (script_for g) lent =
    w.memory ∙ ap (λ (b : Bool). buffer_by (not b) (script_for g) lent) z in
    ap (take n) m ∙
    take_at (script_for g) (drop (length (script_for g)) lent) n (sym (says-size g (length lent) n a))

-- and they read back
pub wrote-back : (g : Given) (lent : List ℕ) (n : ℕ) (left : List ℕ) → HeldGiven g →
    Wrote (write_of g lent) (Ok n) left → WrittenBack g n left
unfolding write_of
wrote-back g lent n left h w =
    let z : write_refuses (write_answer g (length lent)) ≡ false =
    ap not (eq-eqb (write_number (write_answer g (length lent))) 0 (ap write_number (sym w.answer))) in
    subst (SaysBack g) (sym (written-bytes g lent n left w)) (written_back g (length lent) h z)
