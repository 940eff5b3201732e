-- Laws of the tests of the commands: the first command with a fault gives the answer. Assumes
-- nothing.
use mathlib.Core.Path.{◌≡◌, refl, ap, ◌∙◌}
use mathlib.Core.Bool.{Bool, true, false}
use mathlib.Core.List.{List, [], ◌∷◌, ◌++◌}
use mathlib.Core.Logic.{◌⊎◌, inl, inr}
use Prim.Native.Nat.{ℕ}
use Rattle.std.specs.Prelude.{Ok, Err}
use Rattle.words.specs.declared.answer.Refusal.TheVariants.{BadCommand, BadMask}
use Rattle.words.specs.Rows.{first_or}
use Rattle.words.specs.Answers.{first_of}
use Rattle.words.proofs.Rows.{onward}
use Rattle.commands.specs.declared.reading.Marking.TheVariants.{Bad, Stem, Mask, Counter, Clear, Close}
use Rattle.commands.specs.declared.reading.Command.{Command}
use Rattle.commands.specs.declared.reading.Command.TheVariants.{Mark, Draw}
use Rattle.commands.specs.Commands.{CommandAt}
use Rattle.commands.specs.Faults.{is_bad, has_bad_mask, command_rows}
use Rattle.commands.proofs.Laws.{rows-refusing}

module _ (bytes : ℕ) where
  -- a bad command has no mask
  one-fault : (c : Command) → has_bad_mask bytes c ≡ true → is_bad c ≡ false
  one-fault (Mark Bad) e = cc
  one-fault (Mark (Stem min max)) e = refl
  one-fault (Mark (Mask start len)) e = refl
  one-fault (Mark (Counter start len)) e = refl
  one-fault (Mark Clear) e = refl
  one-fault (Mark Close) e = refl
  one-fault (Draw p) e = refl

  rows_append : (bs cs : List CommandAt) → command_rows bytes (bs ++ cs) ≡ command_rows bytes bs ++ command_rows bytes
      cs
  unfolding command_rows
  rows_append [] cs = refl
  rows_append (b ∷ bs) cs = rw (rows_append bs cs)

  -- behind commands without a fault
  module _ (before : List CommandAt) (at : CommandAt) (after : List CommandAt)
      (fine : first_of (command_rows bytes before) ≡ Ok tt) where
    behind : first_of (command_rows bytes (before ++ at ∷ after)) ≡ first_of (command_rows bytes (at ∷ after))
    behind =
        ap first_of (rows_append before (at ∷ after)) ∙
        onward (Ok tt) (command_rows bytes before) (command_rows bytes (at ∷ after)) (rows-refusing bytes before) fine

    pub command-answer : is_bad at.command ≡ true →
        first_of (command_rows bytes (before ++ at ∷ after)) ≡ Err (BadCommand at.place)
    unfolding command_rows first_or
    command-answer e = behind ∙ rw e

    pub mask-answer : has_bad_mask bytes at.command ≡ true →
        first_of (command_rows bytes (before ++ at ∷ after)) ≡ Err (BadMask at.place)
    unfolding command_rows first_or
    mask-answer e = behind ∙ rw (one-fault at.command e, e)

  -- the first command with a fault
  pub record Fault (cs : List CommandAt) : Type 0 where
    pub before : List CommandAt
    pub at : CommandAt
    pub after : List CommandAt
    pub split : cs ≡ before ++ at ∷ after
    pub fine : first_of (command_rows bytes before) ≡ Ok tt
    pub holds : (is_bad at.command ≡ true) ⊎ (has_bad_mask bytes at.command ≡ true)

  -- no command has one, or there is a first
  pub fine-or-fault : (cs : List CommandAt) → (first_of (command_rows bytes cs) ≡ Ok tt) ⊎ Fault cs
  unfolding command_rows first_or
  fine-or-fault [] = inl refl
  fine-or-fault (c ∷ cs) = by (is_bad c.command) (has_bad_mask bytes c.command) refl refl (fine-or-fault cs)
    where
      by : (u v : Bool) → is_bad c.command ≡ u → has_bad_mask bytes c.command ≡ v →
          (first_of (command_rows bytes cs) ≡ Ok tt) ⊎ Fault cs →
          (first_of (command_rows bytes (c ∷ cs)) ≡ Ok tt) ⊎ Fault (c ∷ cs)
      by true v e f w = inr (record { before = []; at = c; after = cs; split = refl; fine = refl; holds = inl e })
      by false true e f w = inr (record { before = []; at = c; after = cs; split = refl; fine = refl; holds = inr f })
      by false false e f (inl h) = inl (rw (e, f) h)
      by false false e f (inr o) =
          inr (record {
            before = c ∷ o.before;
            at = o.at;
            after = o.after;
            split = ap (λ (l : List CommandAt). c ∷ l) o.split;
            fine = rw (e, f) o.fine;
            holds = o.holds;
          })
