-- What the tests of the header and of the parameters leave of a script that passes them. Assumes
-- nothing.
use mathlib.Core.Path.{◌≡◌, refl}
use mathlib.Core.Bool.{Bool, true, false}
use mathlib.Core.List.{List}
use Prim.Native.Nat.{ℕ, ◌+◌, ◌*◌, ◌/◌, ◌≤◌}
use native.Mathlib.Omega.{arith}
use lib.Dec.{ltb}
use lib.IntN.{pos}
use lib.ListN.{length}
use lib.Signed.{◌<ℤ◌}
use borrow.Author.Tests.{le-ltb, ltb-false}
use Rattle.std.specs.Prelude.{Ok}
use Rattle.fixed.specs.Integers.{signed}
use Rattle.fixed.specs.Fixed.{from_bits, less_f}
use Rattle.fixed.proofs.Ints.{ints}
use Rattle.fixed.proofs.Order.{heights}
use Rattle.fixed.proofs.Tests.{both_false}
use Rattle.words.specs.Words.{raw_at, negative, number_at}
use Rattle.words.specs.Answers.{first_of}
use Rattle.words.proofs.Rows.{Refusing, none-holds}
use Rattle.header.specs.Header.{differs, padded, header_rows}
use Rattle.header.specs.Params.{pairs_in, param_rows, WholeParams}
use Rattle.header.proofs.Tests.{refusing, alike, long}

-- what a script with a fine header has
pub record Fine (s : List ℕ) : Type 0 where
  pub enough : 64 ≤ length s
  pub short : length s ≤ 65536
  pub least : 8 ≤ raw_at s 3
  pub most : raw_at s 3 ≤ 64
  pub commands : raw_at s 4 ≡ 8 + raw_at s 3
  pub ends : 4 * (raw_at s 4 + raw_at s 5) ≤ length s
  pub masks : raw_at s 6 ≡ raw_at s 4 + raw_at s 5
  pub bytes : 4 * raw_at s 6 + raw_at s 7 ≤ length s

module _ (s : List ℕ) where
  -- every test refuses
  pub header-refusing : Refusing (Ok tt) (header_rows s)
  unfolding header_rows
  header-refusing = refusing (header_rows s) refl

  pub params-refusing : Refusing (Ok tt) (param_rows (raw_at s))
  unfolding param_rows
  params-refusing = refusing (param_rows (raw_at s)) refl

  pub fine : first_of (header_rows s) ≡ Ok tt → Fine s
  unfolding header_rows
  fine e =
      let f = none-holds (Ok tt) (header_rows s) header-refusing e in
      let n = long (length s) (f 0) in
      let p3 = both_false (ltb (raw_at s 3) 8) (ltb 64 (raw_at s 3)) (f 3) in
      let least = ltb-false (raw_at s 3) 8 p3.0 in
      let most = ltb-false 64 (raw_at s 3) p3.1 in
      let commands = alike (raw_at s 4) (8 + raw_at s 3) (f 4) in
      let p5 = both_false (negative (raw_at s 5)) (ltb (length s / 4) (raw_at s 4 + raw_at s 5)) (f 5) in
      let ends = ltb-false (length s / 4) (raw_at s 4 + raw_at s 5) p5.1 in
      let masks = alike (raw_at s 6) (raw_at s 4 + raw_at s 5) (f 6) in
      let p7 = both_false (negative (raw_at s 7)) (differs (raw_at s 6 + padded (raw_at s 7)) (length s / 4)) (f 7) in
      let bytes = alike (raw_at s 6 + padded (raw_at s 7)) (length s / 4) p7.1 in
      record {
        enough = omega arith;
        short = n.1;
        least = least;
        most = most;
        commands = commands;
        ends = omega arith;
        masks = masks;
        bytes = omega arith;
      }

  pub whole : Fine s → first_of (param_rows (raw_at s)) ≡ Ok tt → WholeParams s
  unfolding param_rows
  whole h e =
      let f = none-holds (Ok tt) (param_rows (raw_at s)) params-refusing e in
      let pairs = alike (raw_at s 3) (8 + 2 * pairs_in (raw_at s)) (f 5) in
      record {
        blues = ltb-false 7 (raw_at s 12) (f 1);
        others = ltb-false 7 (raw_at s 13) (f 2);
        family = ltb-false 7 (raw_at s 14) (f 3);
        family_others = ltb-false 7 (raw_at s 15) (f 4);
        there = omega arith;
      }

  pub scaled : first_of (param_rows (raw_at s)) ≡ Ok tt → pos 0 <ℤ (number_at (raw_at s) 1).bits
  unfolding param_rows
  scaled e =
      let t : less_f (number_at (raw_at s) 1) (from_bits (pos 1)) ≡
      false = none-holds (Ok tt) (param_rows (raw_at s)) params-refusing e 0 in
      omega heights

-- ---- a word is negative exactly if it is 2^31 or more as a natural
pub negative-word : (n : ℕ) → 2147483648 ≤ n → signed n <ℤ pos 0
unfolding signed
negative-word n h = rw (le-ltb n 2147483648 h) (record { lt = tt })

pub word-negative : (n : ℕ) → signed n <ℤ pos 0 → 2147483648 ≤ n
unfolding signed
word-negative n h = go (ltb n 2147483648) refl
  where
    go : (b : Bool) → ltb n 2147483648 ≡ b → 2147483648 ≤ n
    go true e = let z : pos n <ℤ pos 0 = rw e at h in absurd (omega ints)
    go false e = ltb-false n 2147483648 e
