-- `run_script` answers a script and leaves the output as its definition says, whichever way it
-- ends. Assumes nothing.
use mathlib.Core.Path.{◌≡◌, sym, ap, ◌∙◌}
use mathlib.Core.List.{List, [], ◌∷◌, ◌++◌}
use Prim.Native.Nat.{ℕ, ◌-◌, ◌≤◌}
use native.Mathlib.Omega.{arith}
use lib.IntN.{ℤ, pos}
use lib.ListN.{length, take, drop}
use borrow.Rule.Slice.PartMut.{put_mid, same_len_mid}
use Rattle.std.specs.Prelude.{Ok, Err}
use Rattle.pen.specs.Records.{written}
use Rattle.pen.proofs.Lent.{lent, back}
use Rattle.words.specs.declared.answer.Refusal.{Refusal}
use Rattle.words.specs.Answers.{Answer, first_of, refuses}
use Rattle.words.proofs.Answers.{numbered, says, says_is}
use Rattle.run.specs.declared.running.Ran.{Ran}
use Rattle.run.specs.Room.{Fitted}
use Rattle.run.specs.Run.{ending_of, Ended}
use Rattle.script.specs.Count.{records_in}
use Rattle.script.specs.Script.{check_rows, script_of, Scripted}
use Rattle.script.proofs.Counting.{few-records}
use Rattle.script.proofs.Passed.{passed}
use Rattle.script.proofs.Results.{refused, by_size, ran, by-room, by-run, header-before, behind, short}
use Rattle.script.proofs.whole.run_script.Goals as goal

-- the run of a script that passes all tests, over the words behind the header
module _ (s : List ℕ) (out : List ℤ) (ok : first_of (check_rows s) ≡ Ok tt) (enough : 4 ≤ length out) where
  abbrev fit : Fitted
  fit = ran s out (ap refuses ok) enough

  few : length fit.words ≤ 163840
  few = short s (length (drop 4 out)) (passed s ok)

  module _ (r : Ran) (part : List ℤ) (e : Ended (ending_of fit (drop 4 out)) r part) where
    abbrev mid : List ℤ
    mid = put_mid 4 (length out - 4) out part

    home : mid ≡ take 4 out ++ written fit.words (drop 4 out)
    home = back 4 out part ∙ ap (λ (l : List ℤ). take 4 out ++ l) e.memory

    -- the words among which records are counted are those of the run
    counted : {n : ℕ} → n ≡ records_in (take r.words (take (length mid - 4) (drop 4 mid))) → n ≡ records_in fit.words
    counted c =
        c ∙ ap records_in (ap (take r.words) (lent mid 4 ∙ ap (drop 4) home) ∙
        ap (λ (k : ℕ). take k (drop 4 (take 4 out ++ written fit.words (drop 4 out)))) e.words ∙
        behind fit.words out enough)

    -- without room for all, the records before stand
    stopped : {r : Refusal} {a : Answer} → fit.said ≡ Err r → a ≡ Err r → Scripted (script_of s out) a mid
    stopped {r} f h =
        rw (h ∙ sym f, home) (by-room s out (ap refuses ok) enough (refused fit.said (rw f (numbered r))))

    -- with room for all, the header stands before the records
    sealed : (n : ℕ) (left : List ℤ) → r.answer ≡ Ok tt → n ≡ records_in fit.words →
        left ≡ written (pos 1 ∷ pos n ∷ pos 4 ∷ pos r.words ∷ []) mid → Scripted (script_of s out) (Ok tt) left
    sealed n left o m l =
        let ws = fit.words in
        let f : fit.said ≡ Ok tt = sym (says_is e.answer) ∙ o in
        let b = by-run s out (ap refuses ok) enough (ap refuses f) in
        record {
          answer = says (sym f ∙ says_is b.answer);
          memory =
              l ∙ ap (λ (n : ℕ). written (pos 1 ∷ pos n ∷ pos 4 ∷ pos r.words ∷ []) mid) m ∙
              ap (λ (n : ℕ). written (pos 1 ∷ pos (records_in ws) ∷ pos 4 ∷ pos n ∷ []) mid) e.words ∙
              ap (written (pos 1 ∷ pos (records_in ws) ∷ pos 4 ∷ pos (length ws) ∷ [])) home ∙
              header-before (pos 1) (pos (records_in ws)) (pos 4) (pos (length ws)) ws out enough ∙ b.memory;
        }

pub natural-requires : goal.natural-requires
natural-requires c =
    let ok : first_of (check_rows c.args.script.now) ≡ Ok tt = grind arith in
    omega (arith, (passed _ ok).fine.enough)

pub returns-then-out-lt-RESULT_HEADER : goal.returns-then-out-lt-RESULT_HEADER
returns-then-out-lt-RESULT_HEADER c =
    let ok : first_of (check_rows c.args.script.now) ≡ Ok tt = grind arith in
    rw c.natural.ensures.0 (by_size _ _ (ap refuses ok) c.if-out-lt-RESULT_HEADER.true)

pub returns-in_err-ran : goal.returns-in_err-ran
returns-in_err-ran c =
    let ok : first_of (check_rows c.args.script.now) ≡ Ok tt = grind arith in
    let out = c.args.out.now in
    let enough : 4 ≤ length out = omega (arith, c.if-out-lt-RESULT_HEADER.false) in
    let e = rw lent at c.run_commands-ran.ensures in
    let r = c.in_err-ran.field-0.0 in
    let f : (fit _ out ok enough).said ≡ Err r = sym (says_is e.answer) ∙ c.in_err-ran.was in
    stopped _ out ok enough c.run_commands-ran.result c.run_commands-ran.new.out e f (grind arith)

pub overflow_cast-records : goal.overflow_cast-records
overflow_cast-records c =
    let ok : first_of (check_rows c.args.script.now) ≡ Ok tt = grind arith in
    let out = c.args.out.now in
    let enough : 4 ≤ length out = omega (arith, c.if-out-lt-RESULT_HEADER.false) in
    let e = rw lent at c.run_commands-ran.ensures in
    let n = counted _ out ok enough c.run_commands-ran.result c.run_commands-ran.new.out e
    c.count_records-records.ensures in
    record { fits = omega (arith, n, few-records (fit _ out ok enough).words, few _ out ok enough) }

pub overflow_cast-ran : goal.overflow_cast-ran
overflow_cast-ran c =
    let ok : first_of (check_rows c.args.script.now) ≡ Ok tt = grind arith in
    let out = c.args.out.now in
    let enough : 4 ≤ length out = omega (arith, c.if-out-lt-RESULT_HEADER.false) in
    let e = rw lent at c.run_commands-ran.ensures in
    record { fits = omega (arith, e.words, few _ out ok enough) }

pub seal-requires : goal.seal-requires
seal-requires c =
    let ok : first_of (check_rows c.args.script.now) ≡ Ok tt = grind arith in
    let out = c.args.out.now in
    let enough : 4 ≤ length out = omega (arith, c.if-out-lt-RESULT_HEADER.false) in
    let e = rw lent at c.run_commands-ran.ensures in
    let n = counted _ out ok enough c.run_commands-ran.result c.run_commands-ran.new.out e
    c.count_records-records.ensures in
    let long = same_len_mid 4 (length out - 4) out c.run_commands-ran.new.out c.run_commands-ran.auto.out in (
      omega (arith, long, enough),
      (
        omega (arith, n, few-records (fit _ out ok enough).words, few _ out ok enough),
        omega (arith, e.words, few _ out ok enough),
      ),
    )

pub returns : goal.returns
returns c =
    let ok : first_of (check_rows c.args.script.now) ≡ Ok tt = grind arith in
    let out = c.args.out.now in
    let enough : 4 ≤ length out = omega (arith, c.if-out-lt-RESULT_HEADER.false) in
    let e = rw lent at c.run_commands-ran.ensures in
    let r = c.run_commands-ran.result in
    let part = c.run_commands-ran.new.out in
    let n = counted _ out ok enough r part e c.count_records-records.ensures in
    sealed _ out ok enough r part e c.count_records-records.result c.seal.new.out c.in_ok-ran.was n c.seal.ensures
