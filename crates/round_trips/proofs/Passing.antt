-- A script, by what it holds, passes the reader's tests of header and parameters, so that its commands
-- alone decide, and says its scale and its parameters. Assumes nothing.
use mathlib.Core.Path.{◌≡◌, refl, ap, ◌∙◌}
use mathlib.Core.Bool.{true, false, not}
use mathlib.Core.List.{List, ◌++◌}
use Prim.Native.Nat.{ℕ, zero, suc, ◌+◌, ◌-◌, ◌*◌, ◌/◌, ◌%◌, ◌≤◌}
use native.Mathlib.Omega.{arith}
use lib.IntN.{pos}
use lib.ListN.{length, drop, replicate}
use borrow.Author.Tests.{le-ltb}
use Rattle.std.specs.Prelude.{Ok}
use Rattle.fixed.specs.declared.Fixed.{Fixed}
use Rattle.fixed.specs.Fixed.{from_bits, less_f}
use Rattle.words.specs.Words.{raw_at, number_at}
use Rattle.words.specs.Answers.{first_of}
use Rattle.header.specs.Header.{length_bad, all_zero, padded, header_rows}
use Rattle.header.specs.Params.{pairs_in, param_rows, params_of}
use Rattle.header.proofs.Tests.{same, inside, before-end, at-end}
use Rattle.commands.specs.Commands.{commands_of}
use Rattle.commands.specs.Faults.{command_rows}
use Rattle.script.specs.Script.{commands_in, check_rows}
use Rattle.writer.specs.ToWrite.{number_words, param_words}
use Rattle.writer.proofs.PieceFaults.{NoneHold, none-onward}
use Rattle.writer.proofs.Laying.{params-length}
use Rattle.round_trips.specs.RoundTrips.{Held, HeldParams, kept_params}
use Rattle.round_trips.proofs.Parameters.{number-there, sevens, params-back}
use Rattle.round_trips.proofs.LaidOut.{Contents, param_count, command_count, word_count, script_with, bytes-many}
use Rattle.round_trips.proofs.LaidOut.{LaidOut, Holdable, laid_out, zeros-there}

-- from 32 to 65536 bytes, in fours
length-fine : (n : ℕ) → 32 ≤ n → n ≤ 65536 → n % 4 ≡ 0 → length_bad n ≡ false
unfolding length_bad
length-fine n l m e = rw (inside 32 65536 n l m) (same (n % 4) 0 e)

-- zeros are all zero
zeros-zero : (n : ℕ) → all_zero (replicate n 0) ≡ true
unfolding all_zero
zeros-zero zero = refl
zeros-zero (suc n) = zeros-zero n

module _ (c : Contents) (scale : Held c.scale) (params : HeldParams c.params) (f : Holdable c) where
  abbrev s : List ℕ
  s = script_with c

  -- its words
  there : LaidOut c (raw_at s)
  there = laid_out c f

  -- the parameters take 8 to 64 words
  few-params : (8 ≤ param_count c) × (param_count c ≤ 64)
  few-params =
      let n = params-length c.params (sevens c.params params) f.params in
      let p = f.params in
      (omega arith, omega arith)

  -- behind the mask bytes stand zeros
  zeros-pass : all_zero (drop (4 * raw_at s 6 + raw_at s 7) s) ≡ true
  zeros-pass =
      let r = there in
      let n = length c.masks in
      let end : 4 * raw_at s 6 + raw_at s 7 ≡ 4 * word_count c + n = omega arith in
      ap (λ (k : ℕ). all_zero (drop k s)) end ∙ ap all_zero (zeros-there c) ∙ zeros-zero (4 * padded n - n)

  -- none of the tests of the header holds
  header-passes : NoneHold (header_rows s)
  unfolding header_rows
  header-passes =
      let r = there in
      let n = few-params in
      let size = bytes-many c in
      let short = f.short in
      let long = length-fine (length s) (omega arith) short (omega arith) in
      let version = same (raw_at s 0) 1 r.version in
      let params_at = same (raw_at s 2) 8 r.params_at in
      let params = inside 8 64 (raw_at s 3) (omega arith) (omega arith) in
      let commands_at = same (raw_at s 4) (8 + raw_at s 3) (omega arith) in
      let commands = before-end (raw_at s 5) (length s / 4) (raw_at s 4 + raw_at s 5) (omega arith) (omega arith) in
      let masks_at = same (raw_at s 6) (raw_at s 4 + raw_at s 5) (omega arith) in
      let end = raw_at s 6 + padded (raw_at s 7) in
      let masks = at-end (raw_at s 7) end (length s / 4) (omega arith) (omega arith) in
      let zeros = ap not zeros-pass in
      (long, (version, (params_at, (params, (commands_at, (commands, (masks_at, (masks, (zeros, tt)))))))))

  -- it says its scale
  pub scale-said : number_at (raw_at s) 1 ≡ c.scale
  scale-said = number-there (raw_at s) 1 c.scale scale there.scale

  -- and its parameters
  pub params-said : params_of (raw_at s) ≡ kept_params c.params
  params-said = params-back c.params params f.params (raw_at s) there.params_there

  -- none of whose tests holds
  params-pass : NoneHold (param_rows (raw_at s))
  unfolding param_rows param_words number_words
  params-pass =
      let r = there in
      let k = r.params_there.1.1.1.1 in
      let n = params-length c.params (sevens c.params params) f.params in
      let p = f.params in
      let scaled = ap (λ (x : Fixed). less_f x (from_bits (pos 1))) scale-said ∙ f.scaled in
      let blues = le-ltb 7 (raw_at s 12) (omega (arith, k.0)) in
      let others = le-ltb 7 (raw_at s 13) (omega (arith, k.1.0)) in
      let family = le-ltb 7 (raw_at s 14) (omega (arith, k.1.1.0)) in
      let family_others = le-ltb 7 (raw_at s 15) (omega (arith, k.1.1.1.0)) in
      let pairs = same (raw_at s 3) (8 + 2 * pairs_in (raw_at s))
      (omega (arith, k.0, k.1.0, k.1.1.0, k.1.1.1.0)) in
      (scaled, (blues, (others, (family, (family_others, (pairs, tt))))))

  -- its commands are read where they stand
  pub commands-said : commands_in s ≡
      commands_of (8 + param_count c) (raw_at (drop (4 * (8 + param_count c)) s)) (command_count c)
  commands-said = rw (there.commands_at, there.commands)

  -- and their tests alone are left
  pub by-commands : first_of (check_rows s) ≡ first_of (command_rows (length c.masks) (commands_in s))
  unfolding check_rows
  by-commands =
      let rows = command_rows (raw_at s 7) (commands_in s) in
      none-onward (Ok tt) (header_rows s) (param_rows (raw_at s) ++ rows) header-passes ∙
      none-onward (Ok tt) (param_rows (raw_at s)) rows params-pass ∙
      ap (λ (n : ℕ). first_of (command_rows n (commands_in s))) there.masks
