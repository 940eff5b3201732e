-- Laws of the program's answer: without a look where there are too many words or bytes, and else the
-- writer's. An answer that is OK counts the script's bytes, and any other none. Assumes nothing.
use mathlib.Core.Path.{◌≡◌, refl, sym, ap, ◌∙◌}
use mathlib.Core.Bool.{Bool, true, false, cond, not}
use mathlib.Core.List.{List, []}
use Prim.Native.Nat.{ℕ, ◌≤◌, ◌<◌}
use native.Mathlib.Omega.{arith}
use lib.Dec.{eqb, ltb}
use lib.ListN.{length}
use borrow.Author.Tests.{ltb-false, lt-ltb, le-ltb, eqb-true, eqb-false}
use Rattle.fixed.proofs.Tests.{both_false}
use Rattle.words.specs.Words.{raw_at}
use Rattle.words.specs.Rows.{first_or}
use Rattle.writer.specs.Refusals.{WriteAnswer}
use Rattle.writer.specs.declared.write_answer.WriteRefusal.TheVariants.{BadScale, BadBlues, BadCommand, BadMask}
use Rattle.writer.specs.declared.write_answer.WriteRefusal.TheVariants.{ScriptRoom}
use Rattle.std.proofs.Common.{Ok, Err}
use Rattle.writer.specs.ToWrite.{Given, script_for}
use Rattle.writer.specs.Refusals.{write_number, written_bytes, write_refuses, room_row, write_answer, buffer_by}
use Rattle.writer.specs.Refusals.{write_of, Wrote}
use Rattle.writer.proofs.Answering.{before, before-fine, refused-before, by-room}
use Rattle.assemble.specs.Asked.{asked_by, asked_in, too_many, answer_to, answer_in}

-- ---- the tests of the counts
module _ (b : List ℕ) where
  pub many-commands : 16384 < raw_at b 65 → too_many b ≡ true
  many-commands h = rw (lt-ltb 16384 (raw_at b 65) h)

  pub many-masks : raw_at b 65 ≤ 16384 → 65536 < raw_at b 66 → too_many b ≡ true
  many-masks h k = rw (le-ltb 16384 (raw_at b 65) h, lt-ltb 65536 (raw_at b 66) k)

  few : raw_at b 65 ≤ 16384 → raw_at b 66 ≤ 65536 → too_many b ≡ false
  few h k = rw (le-ltb 16384 (raw_at b 65) h, le-ltb 65536 (raw_at b 66) k)

  by-counts : {t : Bool} → too_many b ≡ t → answer_to b ≡ cond t (Err ScriptRoom) (write_answer (asked_in b) 65536)
  unfolding answer_to
  by-counts e = ap (λ (t : Bool). cond t (Err ScriptRoom) (write_answer (asked_in b) 65536)) e

  -- ---- the answer and the buffer
  module _ (lent : List ℕ) where
    abbrev left_by : WriteAnswer → List ℕ
    left_by a = buffer_by (write_refuses a) (script_for (asked_in b)) lent

    pub not-looked : too_many b ≡ true → Wrote (answer_in b lent) (Err ScriptRoom) lent
    unfolding answer_in
    not-looked e = record { answer = sym (by-counts e); memory = sym (ap left_by (by-counts e)) }

    pub looked : length lent ≡ 65536 → {n m : ℕ} → n ≡ raw_at b 65 → m ≡ raw_at b 66 → n ≤ 16384 → m ≤ 65536 →
        {a : WriteAnswer} {left : List ℕ} → Wrote (write_of (asked_by b n m) lent) a left → Wrote (answer_in b lent) a
        left
    unfolding answer_in write_of asked_in
    looked l {n} {m} p q h k w =
        let g : asked_by b n m ≡ asked_in b = rw (p, q) in
        let e : write_answer (asked_by b n m) (length lent) ≡ answer_to b =
        rw (g, l) (sym (by-counts (few (omega (arith, p, h)) (omega (arith, q, k))))) in
        record {
          answer = w.answer ∙ e;
          memory =
              w.memory ∙ ap (λ (x : WriteAnswer). buffer_by (write_refuses x) (script_for (asked_by b n m)) lent) e ∙
              ap (λ (x : Given). buffer_by (write_refuses (answer_to b)) (script_for x) lent) g;
        }

-- ---- the bytes that an answer counts
refused_none : (a : WriteAnswer) → 0 < write_number a → written_bytes a ≡ 0
refused_none (Ok n) h = absurd (omega arith)
refused_none (Err BadScale) h = refl
refused_none (Err (BadBlues p)) h = refl
refused_none (Err (BadCommand p)) h = refl
refused_none (Err (BadMask p)) h = refl
refused_none (Err ScriptRoom) h = refl

-- an answer counts a script's bytes if it is OK
abbrev Counts : List ℕ → WriteAnswer → Type 0
Counts s a = write_number a ≡ 0 → (a ≡ Ok (length s)) × (length s ≤ 65536)

-- the writer's does
module _ (g : Given) (room : ℕ) where
  abbrev n : ℕ
  n = length (script_for g)

  abbrev fault : WriteAnswer
  fault = first_or (Ok 0) (before g)

  by-room-test : (t : Bool) → (room_row n room).fault ≡ t → Counts (script_for g) (cond t (Err ScriptRoom) (Ok n))
  by-room-test true e z = absurd (omega (arith, z))
  by-room-test false e z = (refl, ltb-false 65536 n (both_false (ltb room n) (ltb 65536 n) e).1)

  writer-counts : Counts (script_for g) (write_answer g room)
  writer-counts = by (eqb (write_number fault) 0) refl
    where
      by : (t : Bool) → eqb (write_number fault) 0 ≡ t → Counts (script_for g) (write_answer g room)
      by true e =
          rw (by-room g room (before-fine g (eqb-true (write_number fault) 0 e)))
          (by-room-test (room_row n room).fault refl)
      by false e =
          let h : 0 < write_number fault = omega (arith, eqb-false (write_number fault) 0 e) in
          λ z. absurd (omega (arith, h, ap write_number (refused-before g room h), z))

-- and so does the program's
module _ (b : List ℕ) where
  abbrev script : List ℕ
  script = script_for (asked_in b)

  answer-counts : Counts script (answer_to b)
  answer-counts = by (too_many b) refl
    where
      by : (t : Bool) → too_many b ≡ t → Counts script (answer_to b)
      by true e = rw (by-counts b e) (λ z. absurd (omega (arith, z)))
      by false e = rw (by-counts b e) (writer-counts (asked_in b) 65536)

  pub counted : (written_bytes (answer_to b) ≡ length (cond (write_refuses (answer_to b)) [] script)) ×
      (length (cond (write_refuses (answer_to b)) [] script) ≤ 65536)
  counted = by (eqb (write_number (answer_to b)) 0) refl
    where
      by : (t : Bool) → eqb (write_number (answer_to b)) 0 ≡ t →
          (written_bytes (answer_to b) ≡ length (cond (not t) [] script)) × (length (cond (not t) [] script) ≤ 65536)
      by true e = let w = answer-counts (eqb-true (write_number (answer_to b)) 0 e) in (ap written_bytes w.0, w.1)
      by false e = (refused_none (answer_to b) (omega (arith, eqb-false (write_number (answer_to b)) 0 e)), omega arith)
