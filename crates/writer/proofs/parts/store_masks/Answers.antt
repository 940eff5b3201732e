-- `store_masks` copies the bytes and clears the rest. Assumes nothing.
use Rattle.std.proofs.Common.{arith, ◌≡◌, ◌∙◌, refl, ap, ℕ, ◌*◌, ◌-◌, List, [], ◌++◌, length, take, drop}
use Rattle.std.proofs.Common.{replicate, length-take, length-drop}
use Rattle.std.proofs.lemmas.List.{append-nil}
use lib.ListN.{drop_of_length-le}
use lib.Seq.{take_at, drop_at}
use borrow.Rule.Slice.PartMut.{put_mid}
use Rattle.words.specs.Bytes.{over}
use Rattle.header.specs.Header.{padded}
use Rattle.writer.specs.ToWrite.{padded_bytes}
use Rattle.writer.proofs.parts.store_masks.Goals as goal

-- zeros behind the bytes that were copied fill the part
zeros-behind : (part masks out zeros : List ℕ) (k : ℕ) → length part ≡ 4 * padded (length masks) →
    out ≡ over masks part → k ≡ length part - length masks → zeros ≡ replicate k 0 →
    put_mid (length masks) k out zeros ≡ padded_bytes masks
unfolding over padded_bytes
zeros-behind part masks out zeros k e o n z =
    let m = length masks in
    let front : take m out ≡ masks = ap (take m) o ∙ take_at masks (drop m part) m refl in
    let back : drop m out ≡ drop m part = ap (drop m) o ∙ drop_at masks (drop m part) m refl in
    let none : drop k (drop m out) ≡ [] =
    ap (drop k) back ∙ drop_of_length-le (drop m part) (omega (arith, length-drop m part, n)) in
    rw (front, none, append-nil zeros, z) (ap (λ (j : ℕ). masks ++ replicate j 0) (n ∙ ap (λ (j : ℕ). j - m) e))

pub returns : goal.returns
returns c =
    let out = c.copy_bytes.new.out in
    let m = length c.args.masks.now in
    let k = length out - m in
    let same : length out ≡ length c.args.part.now = c.copy_bytes.auto.out in
    let long : length (take k (drop m out)) ≡ k = omega (arith, length-take k (drop m out), length-drop m out) in
    let zeros : c.fill.new.self ≡ replicate (length (take k (drop m out))) 0 = c.fill.ensures.after (λ y e. e) in
    zeros-behind c.args.part.now c.args.masks.now out c.fill.new.self k c.requires c.copy_bytes.ensures
    (ap (λ (j : ℕ). j - m) same) (zeros ∙ ap (λ (j : ℕ). replicate j 0) long)
