-- Laws of the commands and of their faults. Assumes nothing.
use mathlib.Core.Path.{◌≡◌, refl, sym, ap, ◌∙◌}
use mathlib.Core.Bool.{Bool, true, false, cond, ◌||◌, true≢false}
use mathlib.Core.List.{List, [], ◌∷◌, ◌++◌}
use Prim.Native.Nat.{ℕ, zero, suc, ◌+◌, ◌-◌, ◌≤◌, ◌<◌}
use native.Mathlib.Omega.{arith}
use lib.ListN.{length}
use lib.Dec.{ltb, leb}
use borrow.Author.Tests.{lt-ltb, le-ltb, ltb-true, ltb-false}
use Rattle.std.specs.Prelude.{Ok}
use Rattle.std.specs.Result.{result_and}
use Rattle.words.specs.Rows.{Row, first_or}
use Rattle.words.specs.Answers.{Answer, first_of, number_of}
use Rattle.words.proofs.Rows.{Refusing, none-holds, found, onward, in-turn}
use Rattle.words.proofs.Answers.{refusal, is_ok, both_ok}
use Rattle.commands.specs.declared.reading.Command.{Command}
use Rattle.commands.specs.declared.reading.Command.TheVariants.{Mark}
use Rattle.commands.specs.declared.reading.Marking.TheVariants.{Bad}
use Rattle.commands.specs.Commands.{next_at, command_of, read_at, CommandAt, commands_from, commands_of}
use Rattle.commands.specs.Faults.{mask_past, is_bad, has_bad_mask, fault_rows, command_rows}

-- a mask that is not past its bytes ends among them
pub mask-inside : (start len bytes : ℕ) → mask_past start len bytes ≡ false → start + len ≤ bytes
unfolding mask_past
mask-inside start len bytes e =
    ltb-false _ _ (last (leb 2147483648 start) (leb 2147483648 len) (ltb bytes (start + len)) e)
  where
    last : (u v w : Bool) → (u || (v || w)) ≡ false → w ≡ false
    last true v w e = cc
    last false true w e = cc
    last false false w e = e

-- the word behind a command
pub next-is : (w : ℕ → ℕ) (n i : ℕ) → (read_at w n i).next ≡ next_at w i
unfolding read_at
next-is s n i = refl

-- the commands from word i of n on, where word 0 is word b of the script
module _ (b : ℕ) (w : ℕ → ℕ) (n : ℕ) where
  pub none : (f i : ℕ) → n ≤ i → commands_from f b w n i ≡ []
  unfolding commands_from
  none zero i h = refl
  none (suc f) i h = rw (le-ltb i n h)

  -- where f commands reach n, more change nothing
  enough : (f g i : ℕ) → n ≤ i + f → n ≤ i + g → commands_from f b w n i ≡ commands_from g b w n i
  unfolding commands_from
  enough zero g i h k = sym (none g i (omega arith))
  enough (suc f) zero i h k = none (suc f) i (omega arith)
  enough (suc f) (suc g) i h k =
      ap (λ (l : List CommandAt). cond (ltb i n) (record { place = b + i; command = (read_at w n i).command } ∷ l) [])
      (enough f g (next_at w i) (omega arith) (omega arith))

  pub first : (i : ℕ) → i < n →
      commands_from (n - i) b w n i ≡
      record { place = b + i; command = (read_at w n i).command } ∷ commands_from (n - next_at w i) b w n (next_at w i)
  unfolding commands_from
  first i h =
      let e : n - i ≡ suc (n - (i + 1)) = omega arith in
      rw (e, lt-ltb i n h)
      (ap (λ (l : List CommandAt). record { place = b + i; command = (read_at w n i).command } ∷ l)
      (enough (n - (i + 1)) (n - next_at w i) (next_at w i) (omega arith) (omega arith)))

  pub from_start : commands_of b w n ≡ commands_from (n - 0) b w n 0
  unfolding commands_of
  from_start =
      let e : n ≡ n - 0 = omega arith in
      ap (λ (f : ℕ). commands_from f b w n 0) e

  -- f words hold at most f commands
  at-most-from : (f i : ℕ) → length (commands_from f b w n i) ≤ f
  unfolding commands_from
  at-most-from zero i = omega arith
  at-most-from (suc f) i = by (ltb i n) (at-most-from f (next_at w i))
    where
      by : (t : Bool) → length (commands_from f b w n (next_at w i)) ≤ f →
          length (cond t (record { place = b + i; command = (read_at w n i).command } ∷ commands_from f b w n
          (next_at w i))
          []) ≤ suc f
      by true h = omega arith
      by false h = omega arith

  pub at_most : length (commands_of b w n) ≤ n
  unfolding commands_of
  at_most = at-most-from n 0

  -- their tests
  pub rows-first : (bytes i : ℕ) → i < n →
      command_rows bytes (commands_from (n - i) b w n i) ≡
      fault_rows bytes (b + i) (read_at w n i).command ++
      command_rows bytes (commands_from (n - next_at w i) b w n (next_at w i))
  unfolding command_rows
  rows-first bytes i h = ap (command_rows bytes) (first i h)

  pub rows_none : (bytes i : ℕ) → n ≤ i → command_rows bytes (commands_from (n - i) b w n i) ≡ []
  unfolding command_rows
  rows_none bytes i h = ap (command_rows bytes) (none (n - i) i h)

-- every test refuses
faults-refusing : (bytes place : ℕ) (c : Command) → Refusing (Ok tt) (fault_rows bytes place c)
faults-refusing bytes place c zero h = refusal (omega arith)
faults-refusing bytes place c (suc zero) h = refusal (omega arith)
faults-refusing bytes place c (suc (suc j)) h = absurd (no h)
  where
    no : suc (suc j) < 2 → ⊥
    no h = omega arith

pub rows-refusing : (bytes : ℕ) (cs : List CommandAt) → Refusing (Ok tt) (command_rows bytes cs)
unfolding command_rows
rows-refusing bytes [] j h = absurd (no h)
  where
    no : j < 0 → ⊥
    no h = omega arith
rows-refusing bytes (c ∷ cs) zero h = refusal (omega arith)
rows-refusing bytes (c ∷ cs) (suc zero) h = refusal (omega arith)
rows-refusing bytes (c ∷ cs) (suc (suc j)) h = rows-refusing bytes cs j (omega arith)

-- where the answer is Ok, a command is neither bad nor has a bad mask, and the tests behind it
-- answer Ok
passes : (bytes place : ℕ) (c : Command) (rs : List (Row Answer)) → first_of (fault_rows bytes place c ++ rs) ≡ Ok tt →
    (is_bad c ≡ false) × ((has_bad_mask bytes c ≡ false) × (first_of rs ≡ Ok tt))
passes bytes place c rs e =
    let b = both_ok (fault_rows bytes place c) rs (faults-refusing bytes place c) e in
    let f = none-holds (Ok tt) (fault_rows bytes place c) (faults-refusing bytes place c) b.0 in
    (f 0, (f 1, b.1))

-- at a command that is there
module _ (b : ℕ) (w : ℕ → ℕ) (n bytes i : ℕ) (h : i < n) where
  pub faultless : first_of (command_rows bytes (commands_from (n - i) b w n i)) ≡ Ok tt →
      (is_bad (read_at w n i).command ≡ false) ×
      ((has_bad_mask bytes (read_at w n i).command ≡ false) ×
      (first_of (command_rows bytes (commands_from (n - next_at w i) b w n (next_at w i))) ≡ Ok tt))
  faultless e = passes bytes (b + i) (read_at w n i).command _ (sym (ap first_of (rows-first b w n bytes i h)) ∙ e)

  -- its fault is the answer
  pub fault-here : (f : Answer) → f ≡ first_of (fault_rows bytes (b + i) (read_at w n i).command) → 0 < number_of f →
      f ≡ first_of (command_rows bytes (commands_from (n - i) b w n i))
  fault-here f g k = g ∙ sym (ap first_of (rows-first b w n bytes i h) ∙ found (Ok tt) _ _ (refusal (rw g at k)))

  -- and where it has none the commands behind it give it
  pub fault-behind : (f : Answer) → f ≡ first_of (fault_rows bytes (b + i) (read_at w n i).command) → number_of f ≡ 0 →
      first_of (command_rows bytes (commands_from (n - i) b w n i)) ≡
      first_of (command_rows bytes (commands_from (n - next_at w i) b w n (next_at w i)))
  fault-behind f g k =
      ap first_of (rows-first b w n bytes i h) ∙
      onward (Ok tt) _ _ (faults-refusing bytes (b + i) (read_at w n i).command) (sym g ∙ is_ok f k)

-- a command's fault, and behind it those of the commands behind it
pub faults_in_turn : (b : ℕ) (w : ℕ → ℕ) (n bytes i : ℕ) → i < n →
    first_of (command_rows bytes (commands_from (n - i) b w n i)) ≡
    result_and (first_of (fault_rows bytes (b + i) (read_at w n i).command))
    (first_of (command_rows bytes (commands_from (n - next_at w i) b w n (next_at w i))))
faults_in_turn b w n bytes i h =
    ap first_of (rows-first b w n bytes i h) ∙
    in-turn tt (Ok tt) (fault_rows bytes (b + i) (read_at w n i).command) _ refl

-- and where no command is left, none
pub faults_none : (b : ℕ) (w : ℕ → ℕ) (n bytes i : ℕ) → n ≤ i →
    first_of (command_rows bytes (commands_from (n - i) b w n i)) ≡ Ok tt
unfolding first_or
faults_none b w n bytes i h = ap first_of (rows_none b w n bytes i h)

pub ruleset tests_in_turn = (from_start, faults_in_turn, faults_none, next-is)

-- a command that is not bad has all its operands, and is not made bad
pub read-fine : (w : ℕ → ℕ) (n i : ℕ) → is_bad (read_at w n i).command ≡ false →
    (next_at w i ≤ n) × ((read_at w n i).command ≡ command_of w i (w i))
unfolding read_at
read-fine w n i e = by (ltb n (next_at w i)) refl e
  where
    by : (b : Bool) → ltb n (next_at w i) ≡ b → is_bad (cond b (Mark Bad) (command_of w i (w i))) ≡ false →
        (next_at w i ≤ n) × (cond b (Mark Bad) (command_of w i (w i)) ≡ command_of w i (w i))
    by true f e = absurd (true≢false e)
    by false f e = (ltb-false n (next_at w i) f, refl)

-- what holds behind the last of n words, and at a command that is not bad if behind it, holds at
-- commands without a fault
module _ (b : ℕ) (w : ℕ → ℕ) (n bytes : ℕ) (P : ℕ → Type 0) (last : (i : ℕ) → n ≤ i → P i)
    (one : (i : ℕ) → i < n → is_bad (read_at w n i).command ≡ false → P (next_at w i) → P i) where
  abbrev Faultless : ℕ → Type 0
  Faultless i = first_of (command_rows bytes (commands_from (n - i) b w n i)) ≡ Ok tt

  -- by at most f of them
  pub along : (f i : ℕ) → n - i ≤ f → Faultless i → P i
  along zero i h e = last i (omega arith)
  along (suc f) i h e = by (ltb i n) refl (λ l g. along f (next_at w i) l g)
    where
      by : (t : Bool) → ltb i n ≡ t → (n - next_at w i ≤ f → Faultless (next_at w i) → P (next_at w i)) → P i
      by true t again =
          let l = ltb-true i n t in
          let p = faultless b w n bytes i l e in
          one i l p.0 (again (omega arith) p.1.1)
      by false t again = last i (ltb-false i n t)
