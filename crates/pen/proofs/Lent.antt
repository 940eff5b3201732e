-- Laws of a part of a slice that is lent to a call and comes back. Assumes nothing.
use mathlib.Core.Path.{◌≡◌}
use mathlib.Core.List.{List, [], ◌++◌, append-nil}
use Prim.Native.Nat.{ℕ, ◌-◌, ◌≤◌}
use native.Mathlib.Omega.{arith}
use lib.ListN.{length, take, drop, length-drop, drop_of_length-le}
use lib.Seq.{take_all}
use borrow.Rule.Slice.PartMut.{put_mid}

-- the part of a slice that is lent from i on is the rest of it
pub lent : {A : Type 0} (s : List A) (i : ℕ) → take (length s - i) (drop i s) ≡ drop i s
lent s i = take_all (length s - i) (drop i s) (simp length-drop (omega arith))

-- what was lent comes home
pub back : {A : Type 0} (a : ℕ) (xs ys : List A) → put_mid a (length xs - a) xs ys ≡ take a xs ++ ys
back a xs ys =
    let h : length (drop a xs) ≤ length xs - a = simp length-drop (omega arith) in
    let e : drop (length xs - a) (drop a xs) ≡ [] = drop_of_length-le (drop a xs) h in
    rw (e, append-nil)
