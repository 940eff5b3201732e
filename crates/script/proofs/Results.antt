-- Laws of a whole result: each of the ways in which a script can end. Assumes nothing.
use mathlib.Core.Path.{◌≡◌, refl, sym, ap, ◌∙◌}
use mathlib.Core.Bool.{Bool, true, false}
use mathlib.Core.List.{List, [], ◌∷◌, ◌++◌}
use Prim.Native.Nat.{ℕ, suc, ◌+◌, ◌*◌, ◌≤◌, ◌<◌}
use native.Mathlib.Omega.{arith}
use lib.Dec.{ltb}
use lib.IntN.{ℤ}
use lib.ListN.{length, take, drop, length-drop}
use lib.Seq.{length-take-le, take-append_seam, drop_at, drop-drop}
use borrow.Author.Tests.{lt-ltb, le-ltb, eq-eqb, ne_eqb}
use Rattle.std.specs.Prelude.{Ok, Err}
use Rattle.pen.specs.Records.{written}
use Rattle.words.specs.declared.answer.Refusal.TheVariants.{NoRoom}
use Rattle.hints.specs.Calls.{new_drawing}
use Rattle.words.specs.Words.{raw_at, number_at}
use Rattle.words.specs.Answers.{Answer, first_of, number_of, refuses}
use Rattle.words.proofs.Answers.{numbered, says}
use Rattle.commands.proofs.Laws.{at_most}
use Rattle.run.specs.Room.{Fitted, fitted}
use Rattle.run.proofs.Bounds.{ten-each, calls-many}
use Rattle.script.specs.Script.{commands_in, calls_in, check_rows, zones_of, steps_in, result_words, Result, left_by}
use Rattle.script.specs.Script.{ended_by, result_by, script_of, Scripted}
use Rattle.script.proofs.Passed.{Passed}

-- an answer numbered from 1 refuses
pub refused : (a : Answer) → 0 < number_of a → refuses a ≡ true
refused a h = rw (ne_eqb (number_of a) 0 (omega arith))

pub taken : (a : Answer) → number_of a ≡ 0 → refuses a ≡ false
taken a h = rw (eq-eqb (number_of a) 0 h)

-- what a whole result says of an answer and an output
scripted : {o : Result} {a : Answer} {left : List ℤ} → o ≡ record { answer = a; left = left } → Scripted o a left
scripted e =
    record { answer = says (sym (ap (λ (x : Result). x.answer) e)); memory = sym (ap (λ (x : Result). x.left) e) }

module _ (s : List ℕ) (out : List ℤ) where
  -- a fault
  pub by-fault : refuses (first_of (check_rows s)) ≡ true → Scripted (script_of s out) (first_of (check_rows s)) out
  unfolding script_of
  by-fault r = scripted (ap (λ (b : Bool). result_by b (ltb (length out) 4) s out) r)

  module _ (r : refuses (first_of (check_rows s)) ≡ false) where
    -- an output of under 4 words
    pub by_size : length out < 4 → Scripted (script_of s out) (Err (NoRoom (raw_at s 4))) out
    unfolding script_of
    by_size h =
        scripted (ap (λ (b : Bool). result_by b (ltb (length out) 4) s out) r ∙
        ap (λ (b : Bool). result_by false b s out) (lt-ltb (length out) 4 h))

    module _ (h : 4 ≤ length out) where
      -- what the run writes
      abbrev pub ran : Fitted
      ran = fitted (length (drop 4 out)) (steps_in s)

      run_of : script_of s out ≡ ended_by ran out
      unfolding script_of
      run_of =
          ap (λ (b : Bool). result_by b (ltb (length out) 4) s out) r ∙
          ap (λ (b : Bool). result_by false b s out) (le-ltb (length out) 4 h) ∙
          ap (λ (n : ℕ). ended_by (fitted n (steps_in s)) out) (sym (length-drop 4 out))

      -- a run that was refused
      pub by-room : refuses ran.said ≡ true →
          Scripted (script_of s out) ran.said (take 4 out ++ written ran.words (drop 4 out))
      by-room e =
          scripted (run_of ∙ ap (λ (b : Bool). record { answer = ran.said; left = left_by b ran.words out }) e)

      -- and one that was not
      pub by-run : refuses ran.said ≡ false →
          Scripted (script_of s out) ran.said (written (result_words ran.words) out)
      by-run e =
          scripted (run_of ∙ ap (λ (b : Bool). record { answer = ran.said; left = left_by b ran.words out }) e)

-- a header before words that stand behind it
pub header-before : (a b c d : ℤ) (ws out : List ℤ) → 4 ≤ length out →
    written (a ∷ b ∷ c ∷ d ∷ []) (take 4 out ++ written ws (drop 4 out)) ≡ written (a ∷ b ∷ c ∷ d ∷ ws) out
unfolding written
header-before a b c d ws out h =
    let n : 4 + length ws ≡ suc (suc (suc (suc (length ws)))) = omega arith in
    ap (λ (l : List ℤ). a ∷ b ∷ c ∷ d ∷ l)
    (drop_at (take 4 out) (ws ++ drop (length ws) (drop 4 out)) 4 (length-take-le 4 out h) ∙
    ap (λ (l : List ℤ). ws ++ l) (drop-drop (length ws) 4 out ∙ ap (λ (k : ℕ). drop k out) n))

-- the words behind it
pub behind : (ws out : List ℤ) → 4 ≤ length out → take (length ws) (drop 4 (take 4 out ++ written ws (drop 4 out))) ≡ ws
unfolding written
behind ws out h =
    ap (take (length ws)) (drop_at (take 4 out) (ws ++ drop (length ws) (drop 4 out)) 4 (length-take-le 4 out h)) ∙
    take-append_seam ws (drop (length ws) (drop 4 out))

-- a result has no more words than a header can say
pub short : (s : List ℕ) (room : ℕ) → Passed s → length (fitted room (steps_in s)).words ≤ 163840
unfolding steps_in
short s room p =
    omega (
      arith,
      p.fine.ends,
      p.fine.short,
      ten-each (zones_of s) (new_drawing (number_at (raw_at s) 1)) (calls_in s) room,
      calls-many s (4 * raw_at s 6) (commands_in s),
      at_most (raw_at s 4) (raw_at (drop (4 * raw_at s 4) s)) (raw_at s 5),
    )

-- a result by the tests' answer
abbrev pub tested_by : Answer → List ℕ → List ℤ → Result
tested_by (Err r) s out = record { answer = Err r; left = out }
tested_by (Ok tt) s out = result_by false (ltb (length out) 4) s out

pub tested : (s : List ℕ) (out : List ℤ) → script_of s out ≡ tested_by (first_of (check_rows s)) s out
unfolding script_of
tested s out = by (first_of (check_rows s)) refl
  where
    by : (a : Answer) → first_of (check_rows s) ≡ a →
        result_by (refuses (first_of (check_rows s))) (ltb (length out) 4) s out ≡ tested_by a s out
    by (Ok tt) e = ap (λ (a : Answer). result_by (refuses a) (ltb (length out) 4) s out) e
    by (Err r) e =
        ap (λ (a : Answer). result_by (refuses a) (ltb (length out) 4) s out) e ∙
        ap (λ (b : Bool). result_by b (ltb (length out) 4) s out) (refused (Err r) (numbered r)) ∙
        ap (λ (a : Answer). record { answer = a; left = out }) e
