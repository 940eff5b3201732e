-- `put_text` copies a text into the part that has its length. Assumes nothing.
use Rattle.std.proofs.Common.{◌≡◌, ℕ, ◌+◌, ◌-◌, List, length, drop-drop, refl, arith}
use borrow.Rule.Slice.PartMut.{put_mid}
use Rattle.words.specs.Bytes.{placed}
use Rattle.decimal.proofs.put_text.Goals as goal

-- a text at a part that has its length
part : (b : List ℕ) (at : ℕ) (xs : List ℕ) → put_mid at (at + length xs - at) b xs ≡ placed b at xs
unfolding placed
part b at xs =
    let k : at + length xs - at ≡ length xs = omega arith in
    rw (k, drop-drop (length xs) at b)

pub returns : goal.returns
returns c = record {
  ends = refl;
  memory = rw c.copy_from_slice.ensures.after (part c.args.out.now c.args.at c.args.text.now);
}
