-- Laws of reading commands one by one, whatever gives their words: the calls from a word on, and
-- what commands without a fault have. Assumes nothing.
use mathlib.Core.Path.{◌≡◌, sym, ap, ◌∙◌}
use mathlib.Core.Bool.{false}
use mathlib.Core.List.{List, [], ◌∷◌}
use Prim.Native.Nat.{ℕ, ◌+◌, ◌-◌, ◌≤◌, ◌<◌}
use native.Mathlib.Omega.{arith}
use lib.ListN.{length}
use Rattle.std.specs.Prelude.{Ok}
use Rattle.words.specs.Answers.{first_of}
use Rattle.commands.specs.declared.reading.Marking.{Marking}
use Rattle.commands.specs.declared.reading.Marking.TheVariants.{Bad, Stem, Mask, Counter, Clear, Close}
use Rattle.commands.specs.declared.reading.Command.{Command}
use Rattle.commands.specs.declared.reading.Command.TheVariants.{Mark}
use Rattle.commands.specs.Commands.{CommandAt, read_at, next_at, commands_from, commands_of}
use Rattle.commands.specs.Faults.{has_bad_mask, command_rows}
use Rattle.commands.proofs.Laws.{first as first-command, none, from_start, faultless, mask-inside}
use Rattle.run.specs.Run.{call_of, Asked, calls_of, mask_end, Runnable}

-- a command whose mask is not past the mask bytes names bytes among them
end-inside : (bytes : ℕ) (m : Marking) → has_bad_mask bytes (Mark m) ≡ false → mask_end m ≤ bytes
end-inside bytes Bad e = omega arith
end-inside bytes (Stem min max) e = omega arith
end-inside bytes (Mask start len) e = mask-inside start len bytes e
end-inside bytes (Counter start len) e = mask-inside start len bytes e
end-inside bytes Clear e = omega arith
end-inside bytes Close e = omega arith

module _ (s : List ℕ) (w : ℕ → ℕ) (first n from : ℕ) where
  -- the commands from word at on, as calls
  abbrev commands_at : ℕ → List CommandAt
  commands_at at = commands_from (n - at) first w n at

  abbrev pub calls_at : ℕ → List Asked
  calls_at at = calls_of s from (commands_at at)

  pub calls-start : calls_of s from (commands_of first w n) ≡ calls_at 0
  calls-start = ap (calls_of s from) (from_start first w n)

  -- the call of the command at a word, and those behind it
  pub calls-first : {at : ℕ} → at < n → {c : Command} → (read_at w n at).command ≡ c →
      calls_at at ≡ record { place = first + at; call = call_of s from c } ∷ calls_at (next_at w at)
  unfolding calls_of
  calls-first {at} i e =
      ap (calls_of s from) (first-command first w n at i) ∙
      ap (λ (x : Command). record { place = first + at; call = call_of s from x } ∷ calls_at (next_at w at)) e

  pub calls-none : {at : ℕ} → n ≤ at → calls_at at ≡ []
  unfolding calls_of
  calls-none {at} i = ap (calls_of s from) (none first w n (n - at) at i)

  -- the commands from a word on have no fault
  pub record Sound (at : ℕ) : Type 0 where
    pub bytes : ℕ
    pub inside : from + bytes ≤ length s
    pub fine : first_of (command_rows bytes (commands_at at)) ≡ Ok tt

  pub sound : Runnable s w first n from → Sound 0
  sound r =
      let e = from_start first w n in
      record { bytes = r.bytes; inside = r.inside; fine = rw e at r.faultless }

module _ {s : List ℕ} {w : ℕ → ℕ} {first n from at : ℕ} (g : Sound s w first n from at) (i : at < n) where
  pub sound-behind : Sound s w first n from (next_at w at)
  sound-behind =
      record {
        bytes = g.bytes;
        inside = g.inside;
        fine = (faultless first w n g.bytes at i g.fine).1.1;
      }

  -- the mask that a command names lies in the script
  pub mask-there : {m : Marking} → (read_at w n at).command ≡ Mark m → from + mask_end m ≤ length s
  mask-there {m} e =
      let b = (faultless first w n g.bytes at i g.fine).1.0 in
      omega (arith, g.inside, end-inside g.bytes m (ap (has_bad_mask g.bytes) (sym e) ∙ b))
