-- Demand 1: an answer is given exactly when its row of 01's table says so, with its place, and the
-- row says every output word. Assumes nothing.
use mathlib.Core.Path.{◌≡◌, refl, sym, ap, subst, ◌∙◌}
use mathlib.Core.Bool.{Bool, true, false}
use mathlib.Core.List.{List, [], ◌∷◌, ◌++◌}
use mathlib.Core.Logic.{◌⊎◌, inl, inr}
use Prim.Native.Nat.{ℕ, zero, suc, ◌-◌, ◌≤◌, ◌<◌}
use native.Mathlib.Omega.{arith}
use lib.Dec.{ltb}
use lib.IntN.{ℤ}
use lib.ListN.{length}
use borrow.Author.Tests.{lt-ltb, le-ltb, ltb-true, ltb-false}
use Rattle.std.specs.Prelude.{Ok, Err}
use Rattle.words.specs.declared.answer.Refusal.TheVariants.{BadScript, BadScale, BadBlues, BadCommand, BadMask}
use Rattle.words.specs.declared.answer.Refusal.TheVariants.{NoRoom}
use Rattle.words.specs.Words.{raw_at}
use Rattle.words.specs.Rows.{Row, row_at, First}
use Rattle.words.specs.Answers.{Answer, first_of, number_of, place_of, refuses}
use Rattle.words.proofs.Rows.{first-given, first_gives, found, onward}
use Rattle.words.proofs.Answers.{refusal, not-refused, is-refused}
use Rattle.header.specs.Header.{header_rows}
use Rattle.header.specs.Params.{param_rows}
use Rattle.header.proofs.Fine.{header-refusing, params-refusing}
use Rattle.commands.specs.declared.reading.Command.{Command}
use Rattle.commands.specs.Commands.{CommandAt}
use Rattle.commands.specs.Faults.{is_bad, has_bad_mask, command_rows}
use Rattle.run.specs.Room.{Step, words_along, Fitted, fitted}
use Rattle.run.proofs.Rooms.{fits_whole, fits-until, Over, fits-or-not}
use Rattle.script.specs.Script.{commands_in, check_rows, steps_in, Result, ended_by, script_of}
use Rattle.theorems.specs.Demand1.{Overflow, HeaderFine, Checked, header, pairs, FaultWhen, small}
use Rattle.theorems.specs.Demand1.{records, When, Left}
use Rattle.theorems.proofs.Params.{scale-answer, blues-answer, pairs-answer, params-or-row}
use Rattle.theorems.proofs.Faults.{command-answer, mask-answer, Fault, fine-or-fault}

-- tests that say only BadScript
abbrev OnlyScript : List (Row Answer) → Type 0
OnlyScript [] = Unit {0}
OnlyScript (r ∷ rs) = (r.said ≡ Err (BadScript (place_of r.said))) × OnlyScript rs

says-script : (rs : List (Row Answer)) → OnlyScript rs → (k : ℕ) → k < length rs →
    (row_at (Ok tt) rs k).said ≡ Err (BadScript (place_of (row_at (Ok tt) rs k).said))
says-script [] o k h = absurd (omega arith)
says-script (r ∷ rs) o zero h = o.0
says-script (r ∷ rs) o (suc k) h = says-script rs o.1 k (omega arith)

module _ (s : List ℕ) where
  -- those of the header do
  only-script : OnlyScript (header_rows s)
  unfolding header_rows
  only-script = (refl, (refl, (refl, (refl, (refl, (refl, (refl, (refl, (refl, tt)))))))))

  -- ---- all tests
  by-header : (a : Answer) → 0 < number_of a → first_of (header_rows s) ≡ a → first_of (check_rows s) ≡ a
  unfolding check_rows
  by-header a h e =
      found (Ok tt) (header_rows s) (param_rows (raw_at s) ++
      command_rows (raw_at s 7) (commands_in s)) (refusal (rw e h)) ∙
      e

  module _ (h : HeaderFine s) where
    past-header : first_of (check_rows s) ≡ first_of (param_rows (raw_at s) ++ command_rows (raw_at s 7)
        (commands_in s))
    unfolding check_rows
    past-header =
        onward (Ok tt) (header_rows s) (param_rows (raw_at s) ++ command_rows (raw_at s 7) (commands_in s))
        (header-refusing s) h

    by-params : (a : Answer) → 0 < number_of a → first_of (param_rows (raw_at s)) ≡ a → first_of (check_rows s) ≡ a
    by-params a l e =
        past-header ∙ found (Ok tt) (param_rows (raw_at s)) (command_rows (raw_at s 7) (commands_in s)) (refusal
        (rw e l)) ∙
        e

    by-commands : first_of (param_rows (raw_at s)) ≡ Ok tt →
        first_of (check_rows s) ≡ first_of (command_rows (raw_at s 7) (commands_in s))
    by-commands p =
        past-header ∙ onward (Ok tt) (param_rows (raw_at s)) (command_rows (raw_at s 7) (commands_in s))
        (params-refusing s)
        p

    in-commands : {cs : List CommandAt} {a : Answer} → first_of (param_rows (raw_at s)) ≡ Ok tt → commands_in s ≡ cs →
        first_of (command_rows (raw_at s 7) cs) ≡ a → first_of (check_rows s) ≡ a
    in-commands p e f = by-commands p ∙ ap (λ (l : List CommandAt). first_of (command_rows (raw_at s 7) l)) e ∙ f

  module _ (out : List ℤ) where
    -- ---- what a script ends with
    by-fault : (a : Answer) → refuses a ≡ true → first_of (check_rows s) ≡ a →
        script_of s out ≡ record { answer = a; left = out }
    unfolding script_of
    by-fault a r e = rw (e, r) (ap (λ (b : Answer). record { answer = b; left = out }) e)

    by_size : Checked s → length out < 4 → script_of s out ≡ record { answer = Err (NoRoom (raw_at s 4)); left = out }
    unfolding script_of
    by_size c h = rw (c, lt-ltb (length out) 4 h)

    by-run : Checked s → 4 ≤ length out → (f : Fitted) → fitted (length out - 4) (steps_in s) ≡ f →
        script_of s out ≡ ended_by f out
    unfolding script_of
    by-run c h f e = rw (c, le-ltb (length out) 4 h) (ap (λ (g : Fitted). ended_by g out) e)

    -- where a row is met its answer is given, and its words are left: of OK, of NO_ROOM without and
    -- with room for a header, and of all
    ok-ends : (w : When s out (Ok tt)) → script_of s out ≡ record { answer = Ok tt; left = Left s out (Ok tt) w }
    ok-ends w = by-run w.checked (omega arith) _ (fits_whole (length out - 4) (steps_in s) (omega arith))

    small-ends : (p : ℕ) (c : Checked s) (h : length out < 4) (e : p ≡ raw_at s 4) →
        script_of s out ≡ record { answer = Err (NoRoom p); left = Left s out (Err (NoRoom p)) (small c h e) }
    small-ends p c h e = by_size c h ∙ ap (λ (q : ℕ). record { answer = Err (NoRoom q); left = out }) (sym e)

    records-ends : (p : ℕ) (c : Checked s) (h : 4 ≤ length out) (before : List Step)
        (o : Overflow s (length out - 4) p before) →
        script_of s out ≡ record { answer = Err (NoRoom p); left = Left s out (Err (NoRoom p)) (records c h before o) }
    records-ends p c h before o =
        by-run c h _
        (ap (fitted (length out - 4)) o.split ∙
        fits-until (length out - 4) before o.at o.after o.fit o.past ∙
        ap (λ (q : ℕ). record { said = Err (NoRoom q); words = words_along before }) o.place)

    ends : (a : Answer) (w : When s out a) → script_of s out ≡ record { answer = a; left = Left s out a w }
    ends (Ok tt) w = ok-ends w
    ends (Err (BadScript p)) (header f) =
        by-fault (Err (BadScript p)) refl
        (by-header (Err (BadScript p)) (omega arith) (first_gives (Ok tt) (header_rows s) (Err (BadScript p)) f))
    ends (Err (BadScript p)) (pairs h c f n e) =
        by-fault (Err (BadScript p)) refl
        (by-params h (Err (BadScript p)) (omega arith) (pairs-answer s c f n ∙
        ap (λ (q : ℕ). Err (BadScript q)) (sym e)))
    ends (Err BadScale) w =
        by-fault (Err BadScale) refl (by-params w.header (Err BadScale) (omega arith) (scale-answer s w.scale))
    ends (Err (BadBlues p)) w =
        by-fault (Err (BadBlues p)) refl
        (by-params w.header (Err (BadBlues p)) (omega arith)
        (blues-answer s p w.least w.most w.scale w.before w.count))
    ends (Err (BadCommand p)) w =
        by-fault (Err (BadCommand p)) refl
        (in-commands w.header w.params w.split
        (command-answer (raw_at s 7) w.before w.at w.after w.fine w.holds ∙ ap (λ (q : ℕ). Err (BadCommand q)) w.place))
    ends (Err (BadMask p)) w =
        by-fault (Err (BadMask p)) refl
        (in-commands w.header w.params w.split
        (mask-answer (raw_at s 7) w.before w.at w.after w.fine w.holds ∙ ap (λ (q : ℕ). Err (BadMask q)) w.place))
    ends (Err (NoRoom p)) (small c h e) = small-ends p c h e
    ends (Err (NoRoom p)) (records c h before o) = records-ends p c h before o

    -- ---- every script meets a row
    abbrev Met : Type 0
    Met = (a : Answer) × When s out a

    header_row : (a : Answer) → First (Ok tt) (header_rows s) a → Met
    header_row a f = (
      (Err (BadScript p)),
      header (record
          { place = f.place; there = f.there; holds = f.holds; says = e; before = f.before }),
    )
      where
        p : ℕ
        p = place_of (row_at (Ok tt) (header_rows s) f.place).said

        e : (row_at (Ok tt) (header_rows s) f.place).said ≡ Err (BadScript p)
        e = says-script (header_rows s) only-script f.place f.there

    run_row : Checked s → 4 ≤ length out →
        (length (words_along (steps_in s)) ≤ length out - 4) ⊎ Over (length out - 4) (steps_in s) → Met
    run_row c h (inl f) = (Ok tt, record { checked = c; room = omega arith })
    run_row c h (inr o) = (
      (Err (NoRoom o.at.place)),
      records c h o.before
          (record { at = o.at; after = o.after; split = o.split; fit = o.fit; past = o.past; place = refl }),
    )

    checked-row : Checked s → (b : Bool) → ltb (length out) 4 ≡ b → Met
    checked-row c true e = (Err (NoRoom (raw_at s 4)), small c (ltb-true (length out) 4 e) refl)
    checked-row c false e = run_row c (ltb-false (length out) 4 e) (fits-or-not (length out - 4) (steps_in s))

    command-row : HeaderFine s → first_of (param_rows (raw_at s)) ≡ Ok tt →
        (first_of (command_rows (raw_at s 7) (commands_in s)) ≡ Ok tt) ⊎ Fault (raw_at s 7) (commands_in s) → Met
    command-row h p (inl f) = checked-row (by-commands h p ∙ f) (ltb (length out) 4) refl
    command-row h p (inr o) = by o.holds
      where
        when : (faulty : Command → Bool) → faulty o.at.command ≡ true → FaultWhen s faulty o.at.place
        when faulty e =
            record {
              header = h;
              params = p;
              before = o.before;
              at = o.at;
              after = o.after;
              split = o.split;
              fine = o.fine;
              holds = e;
              place = refl;
            }

        by : (is_bad o.at.command ≡ true) ⊎ (has_bad_mask (raw_at s 7) o.at.command ≡ true) → Met
        by (inl e) = (Err (BadCommand o.at.place), when is_bad e)
        by (inr e) = (Err (BadMask o.at.place), when (has_bad_mask (raw_at s 7)) e)

    params-row : HeaderFine s → (first_of (param_rows (raw_at s)) ≡ Ok tt) ⊎ Met → Met
    params-row h (inl p) = command-row h p (fine-or-fault (raw_at s 7) (commands_in s))
    params-row h (inr m) = m

    some-row : (b : Bool) → refuses (first_of (header_rows s)) ≡ b → Met
    some-row true e =
        header_row (first_of (header_rows s))
        (first-given (Ok tt) (header_rows s) (first_of (header_rows s)) (refusal (is-refused (first_of
        (header_rows s)) e))
        refl)
    some-row false e =
        let h = not-refused (first_of (header_rows s)) e in
        params-row h (params-or-row s out h)

-- the answer is given only when its row says so
pub given : (s : List ℕ) (out : List ℤ) (a : Answer) → (script_of s out).answer ≡ a → When s out a
given s out a e =
    let m = some-row s out (refuses (first_of (header_rows s))) refl in
    subst (When s out) (sym (ap (λ (r : Result). r.answer) (ends s out m.0 m.1)) ∙ e) m.1

-- and whenever it does
pub gives : (s : List ℕ) (out : List ℤ) (a : Answer) → When s out a → (script_of s out).answer ≡ a
gives s out a w = ap (λ (r : Result). r.answer) (ends s out a w)

-- with these words left
pub left : (s : List ℕ) (out : List ℤ) (a : Answer) (w : When s out a) → (script_of s out).left ≡ Left s out a w
left s out a w = ap (λ (r : Result). r.left) (ends s out a w)
