-- Commands elsewhere: behind other words they are the same commands, with the same faults, and among
-- other bytes the same calls, which write the same words. Assumes nothing.
use mathlib.Core.Path.{◌≡◌, refl, sym, ap, ◌∙◌}
use mathlib.Core.Bool.{Bool, true, false, cond}
use mathlib.Core.List.{List, [], ◌∷◌, ◌++◌, map}
use Prim.Native.Nat.{ℕ, zero, suc, ◌+◌, ◌≤◌, ◌<◌}
use native.Mathlib.Omega.{arith}
use lib.Dec.{ltb}
use lib.IntN.{ℤ}
use lib.ListN.{length, take, drop}
use borrow.Author.Tests.{ltb-true, ltb-false}
use Rattle.std.specs.Prelude.{Ok, Err}
use Rattle.stems.specs.Mask.{mask_of}
use Rattle.zones.specs.declared.state.HintState.{HintState}
use Rattle.hints.specs.declared.drawing.Drawing.{Drawing}
use Rattle.hints.specs.Calls.{hint_mask, counter_mask, next_of, words_for}
use Rattle.words.specs.declared.answer.Refusal.TheVariants.{BadCommand, BadMask}
use Rattle.words.specs.Rows.{first_or}
use Rattle.words.specs.Answers.{first_of}
use Rattle.words.proofs.Rows.{none-holds}
use Rattle.words.proofs.Answers.{both_ok}
use Rattle.header.proofs.Tests.{refusing}
use Rattle.commands.specs.declared.reading.Marking.TheVariants.{Bad, Stem, Mask, Counter, Clear, Close}
use Rattle.commands.specs.declared.reading.Command.{Command}
use Rattle.commands.specs.declared.reading.Command.TheVariants.{Mark, Draw}
use Rattle.commands.specs.Commands.{operands_of, command_of, next_at, read_at, CommandAt, commands_from, commands_of}
use Rattle.commands.specs.Faults.{is_bad, has_bad_mask, fault_rows, command_rows}
use Rattle.commands.proofs.Laws.{mask-inside}
use Rattle.run.specs.Room.{words_along}
use Rattle.run.specs.Run.{Asked, call_of, calls_of, steps_of}
use Rattle.round_trips.proofs.Commands.{command-moved}
use Rattle.round_trips.proofs.CallsMade.{bytes-there}
use Rattle.own_scripts.specs.OwnScripts.{behind}

-- ---- behind other words
abbrev pub command_behind : ℕ → CommandAt → CommandAt
command_behind b c = record { place = b + c.place; command = c.command }

-- words that are alike up to n
module _ (v w : ℕ → ℕ) (n : ℕ) (alike : (j : ℕ) → j < n → v j ≡ w j) where
  -- are the same command at word i, where it ends among them
  command-alike : (i k : ℕ) → i + 1 + operands_of k ≤ n → command_of v i k ≡ command_of w i k
  command-alike i k h =
      let here : ℕ → ℕ = λ j. w (i + j) in
      command-moved here v i k (λ j l. alike (i + j) (omega arith)) ∙
      sym (command-moved here w i k (λ j l. refl))

  -- or are both bad
  read_alike : (i : ℕ) → i < n → (read_at v n i).command ≡ (read_at w n i).command
  unfolding read_at
  read_alike i h = rw (alike i h) (by (ltb n (next_at w i)) refl)
    where
      by : (t : Bool) → ltb n (next_at w i) ≡ t →
          cond t (Mark Bad) (command_of v i (w i)) ≡ cond t (Mark Bad) (command_of w i (w i))
      by true e = refl
      by false e = command-alike i (w i) (ltb-false n (next_at w i) e)

  -- so they are the same commands
  module _ (b : ℕ) where
    from-alike : (f i : ℕ) → commands_from f b v n i ≡ map (command_behind b) (commands_from f 0 w n i)
    unfolding commands_from
    from-alike zero i = refl
    from-alike (suc f) i = by (ltb i n) refl (from-alike f (next_at w i))
      where
        by : (t : Bool) → ltb i n ≡ t →
            commands_from f b v n (next_at w i) ≡ map (command_behind b) (commands_from f 0 w n (next_at w i)) →
            cond t (record { place = b + i; command = (read_at v n i).command } ∷ commands_from f b v n (next_at v i))
            [] ≡
            map (command_behind b)
            (cond t (record { place = 0 + i; command = (read_at w n i).command } ∷ commands_from f 0 w n (next_at w i))
            [])
        by true e again =
            let h = ltb-true i n e in
            let z : 0 + i ≡ i = omega arith in
            rw (read_alike i h, alike i h, again, z)
        by false e again = refl

    pub commands-alike : commands_of b v n ≡ map (command_behind b) (commands_of 0 w n)
    unfolding commands_of
    commands-alike = from-alike n 0

-- their first fault is the same
pub faults-behind : (b bytes : ℕ) (cs : List CommandAt) →
    first_of (command_rows bytes (map (command_behind b) cs)) ≡ behind b (first_of (command_rows bytes cs))
unfolding first_or command_rows
faults-behind b bytes [] = refl
faults-behind b bytes (c ∷ cs) = by (is_bad c.command) (has_bad_mask bytes c.command) (faults-behind b bytes cs)
  where
    by : (s t : Bool) →
        first_of (command_rows bytes (map (command_behind b) cs)) ≡ behind b (first_of (command_rows bytes cs)) →
        cond s (Err (BadCommand (b + c.place)))
        (cond t (Err (BadMask (b + c.place))) (first_of (command_rows bytes (map (command_behind b) cs)))) ≡
        behind b (cond s (Err (BadCommand c.place)) (cond t (Err (BadMask c.place)) (first_of (command_rows bytes cs))))
    by true t again = refl
    by false true again = refl
    by false false again = again

-- ---- among other bytes
abbrev pub asked_behind : ℕ → Asked → Asked
asked_behind b c = record { place = b + c.place; call = c.call }

-- where no command has a fault the first has no bad mask
first_fine : (bytes : ℕ) (c : CommandAt) (cs : List CommandAt) → first_of (command_rows bytes (c ∷ cs)) ≡ Ok tt →
    (has_bad_mask bytes c.command ≡ false) × (first_of (command_rows bytes cs) ≡ Ok tt)
unfolding command_rows
first_fine bytes c cs e =
    let rs = fault_rows bytes c.place c.command in
    let r = refusing rs refl in
    let b = both_ok rs (command_rows bytes cs) r e in
    (none-holds (Ok tt) rs r b.0 1, b.1)

-- behind so many bytes of a script stand the mask bytes
module _ (s masks zeros : List ℕ) (from : ℕ) (there : drop from s ≡ masks ++ zeros) where
  -- a mask that ends among them has the same bytes
  mask-alike : (start len : ℕ) → start + len ≤ length masks →
      take len (drop (from + start) s) ≡ take len (drop (0 + start) masks)
  mask-alike start len h =
      let z : 0 + start ≡ start = omega arith in
      rw z (bytes-there s masks zeros from there start len h)

  -- so a command is the same call
  call-alike : (c : Command) → has_bad_mask (length masks) c ≡ false → call_of s from c ≡ call_of masks 0 c
  call-alike (Mark Bad) e = refl
  call-alike (Mark (Stem min max)) e = refl
  call-alike (Mark (Mask start len)) e =
      ap (λ (bs : List ℕ). hint_mask (mask_of bs)) (mask-alike start len (mask-inside start len (length masks) e))
  call-alike (Mark (Counter start len)) e =
      ap (λ (bs : List ℕ). counter_mask (mask_of bs)) (mask-alike start len (mask-inside start len (length masks) e))
  call-alike (Mark Clear) e = refl
  call-alike (Mark Close) e = refl
  call-alike (Draw p) e = refl

  -- and so are all of them
  pub calls-alike : (b : ℕ) (cs : List CommandAt) → first_of (command_rows (length masks) cs) ≡ Ok tt →
      calls_of s from (map (command_behind b) cs) ≡ map (asked_behind b) (calls_of masks 0 cs)
  unfolding calls_of
  calls-alike b [] e = refl
  calls-alike b (c ∷ cs) e =
      let f = first_fine (length masks) c cs e in
      rw (call-alike c.command f.0, calls-alike b cs f.1)

-- ---- the words of calls
-- do not depend on their places
pub words-behind : (b : ℕ) (st : HintState) (d : Drawing) (cs : List Asked) →
    words_along (steps_of st d (map (asked_behind b) cs)) ≡ words_along (steps_of st d cs)
unfolding steps_of
words-behind b st d [] = refl
words-behind b st d (c ∷ cs) =
    ap (λ (ws : List ℤ). words_for st d c.call ++ ws) (words-behind b st (next_of st d c.call) cs)
