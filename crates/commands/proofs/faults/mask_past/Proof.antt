-- `mask_past` tests the mask's end alone. Assumes nothing.
use mathlib.Core.Path.{◌≡◌, refl, sym}
use mathlib.Core.Bool.{Bool, true, false, ◌||◌}
use Prim.Native.Nat.{ℕ, ◌+◌, ◌≤◌, ◌<◌}
use native.Mathlib.Omega.{arith}
use lib.Dec.{ltb, leb}
use borrow.Author.Rules.{rules}
use borrow.Author.Tests.{lt-leb, ltb-false}
use Rattle.commands.specs.Faults.{mask_past}
use Rattle.commands.proofs.faults.mask_past.Statement.{statement}
use Rattle.commands.proofs.faults.mask_past.Tie as tie

-- for fewer than 2^31 mask bytes the end alone decides
past_is : (start len bytes : ℕ) → bytes < 2147483648 → mask_past start len bytes ≡ ltb bytes (start + len)
unfolding mask_past
past_is start len bytes h = by (ltb bytes (start + len)) refl
  where
    any : (u v : Bool) → (u || (v || true)) ≡ true
    any true v = refl
    any false true = refl
    any false false = refl

    by : (t : Bool) → ltb bytes (start + len) ≡ t → (leb 2147483648 start || (leb 2147483648 len || t)) ≡ t
    by true e = any (leb 2147483648 start) (leb 2147483648 len)
    by false e =
        let q : start + len ≤ bytes = ltb-false _ _ e in
        let x : start < 2147483648 = omega arith in
        let y : len < 2147483648 = omega arith in
        rw (lt-leb 2147483648 start x, lt-leb 2147483648 len y)

add-result : tie.Need-overflow_add-result
add-result c = search rules

returns : tie.Need-returns
returns c = sym (past_is c.args.start c.args.len c.args.bytes c.requires)

pub mask_past_spec : {M : Type 1} → statement M
mask_past_spec = tie.close (tie.spec add-result returns)
