-- `copy_piece` places a piece without its start: its kind, and behind it the operands that it is
-- given with. Assumes nothing.
use Rattle.std.proofs.Common.{arith, rules, ◌≡◌, sym, ap, ◌∙◌, List, map, ℕ, ◌+◌, ◌-◌, ◌≤◌, ℤ, length}
use lib.ListN.{set, length-set, length-map, length-take}
use mir.Syntax.{w32}
use mir.Val.{SFits}
use mir.Facts.{to_z-of_z}
use borrow.Rule.Slice.PartMut.{mid_of, put_mid, mid_len, Post-is}
use Rattle.fixed.specs.Integers.{signed}
use Rattle.words.specs.Words.{raw_at, words_from}
use Rattle.words.specs.Bytes.{placed}
use Rattle.words.proofs.Words.{from-length}
use Rattle.words.proofs.Placing.{placed-store}
use Rattle.commands.specs.Commands.{operands_of}
use Rattle.writer.specs.Pieces.{piece_words, given_operands, unstarted}
use Rattle.writer.proofs.Cutting.{given-fewer}
use Rattle.readback.specs.ReadBack.{script_piece}
use Rattle.readback.proofs.Shortened.{unstarted-words}
use Rattle.readback.proofs.copies.copy_piece.Goals as goal

-- words that are read into a part are placed there
part_placed : (w : ℕ → ℕ) (from i n : ℕ) (lent : List ℤ) {part : List ℤ} → i + n ≤ length lent →
    part ≡ map signed (words_from w from (length (mid_of i (i + n - i) lent))) →
    put_mid i (i + n - i) lent part ≡ placed lent i (map signed (words_from w from n))
unfolding placed
part_placed w from i n lent h e =
    let k : i + n - i ≡ n = omega arith in
    let m = length-map (words_from w from n) signed ∙ from-length w from n in
    rw (e, mid_len i (i + n) lent h, Post-is i (i + n) lent (omega arith), k, m)

-- the kind stored, and behind it the last operands
placed-piece : (w : ℕ → ℕ) (at to : ℕ) (lent : List ℤ) {x : ℤ} {part : List ℤ} {many few : ℕ} →
    many ≡ operands_of (w at) → few ≡ given_operands (w at) → to + 1 + few ≤ length lent → x ≡ signed (w at) →
    part ≡ map signed (words_from w (at + 1 + many - few)
    (length (mid_of (to + 1) (to + 1 + few - (to + 1)) (set lent to x)))) →
    put_mid (to + 1) (to + 1 + few - (to + 1)) (set lent to x) part ≡
    placed lent to (map signed (piece_words (unstarted (script_piece w at))))
placed-piece w at to lent {x} {part} {many} {few} m f h e g =
    let ws = words_from w (at + 1 + operands_of (w at) - given_operands (w at)) (given_operands (w at)) in
    part_placed w (at + 1 + many - few) (to + 1) few (set lent to x) (simp length-set h) g ∙
    rw (m, f, e)
    (placed-store lent to (signed (w at)) (map signed ws) (omega arith) ∙
    ap (λ (l : List ℕ). placed lent to (map signed l)) (sym (unstarted-words w at)))

-- what is counted at a kind that is read is counted at the script's
counted_at : (f : ℕ → ℕ) {n k r : ℕ} → n ≡ f k → k ≡ r → n ≡ f r
counted_at f e g = e ∙ ap f g

pub overflow_sub-next : goal.overflow_sub-next
overflow_sub-next c =
    let k = c.natural-kind.ensures.0 in
    omega (
      arith,
      counted_at operands_of c.operands.ensures.0 k,
      counted_at given_operands c.given_operands-given.ensures.0 k,
      given-fewer (raw_at c.args.script.now c.args.at),
    )

pub slice_bounds-read_words-end : goal.slice_bounds-read_words-end
slice_bounds-read_words-end c =
    simp length-set
    (omega (
      arith,
      counted_at given_operands c.given_operands-given.ensures.0 c.natural-kind.ensures.0,
      c.requires.1,
    ))

pub read_words-requires : goal.read_words-requires
read_words-requires c =
    let k = c.natural-kind.ensures.0 in
    simp length-take
    (omega (
      arith,
      counted_at operands_of c.operands.ensures.0 k,
      counted_at given_operands c.given_operands-given.ensures.0 k,
      given-fewer (raw_at c.args.script.now c.args.at),
      c.requires.0,
    ))

pub returns : goal.returns
returns c =
    let a = c.args in
    let k = c.natural-kind.ensures.0 in
    let m = counted_at operands_of c.operands.ensures.0 k in
    let g = counted_at given_operands c.given_operands-given.ensures.0 k in
    let f : SFits w32 c.word.result = search rules in
    placed-piece (raw_at a.script.now) a.at a.to a.commands.now m g (omega (arith, g, c.requires.1))
    (to_z-of_z f ∙ c.word.ensures) c.read_words.ensures
