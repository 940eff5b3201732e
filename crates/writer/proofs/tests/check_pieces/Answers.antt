-- `check_pieces` answers a fault of the piece at a word, or goes on behind it; behind the last piece
-- no byte may be left. Assumes nothing.
use Rattle.std.proofs.Common.{arith, ◌≡◌, sym, ap, ◌∙◌, ℕ, ◌+◌, ◌<◌, false, length, map}
use lib.ListN.{length-map}
use borrow.Author.Tests.{lt-ltb, le-ltb}
use Rattle.fixed.specs.Integers.{bits_of}
use Rattle.writer.specs.Pieces.{given_operands, piece_at, bytes_taken}
use Rattle.writer.specs.Refusals.{bad_piece, too_long}
use Rattle.writer.proofs.PieceFaults.{next_piece, found-bad, found-long, found-next}
use Rattle.writer.proofs.PieceFaults.{found-end, piece-there}
use Rattle.writer.proofs.tests.check_pieces.Goals as goal

pub returns-then-bad_piece : goal.returns-then-bad_piece
returns-then-bad_piece c =
    let ws = map bits_of c.args.commands.now in
    let there : c.loop-at.at < length ws = omega (arith, length-map c.args.commands.now bits_of) in
    found-bad ws c.loop-at.at there c.loop-at.left (sym c.bad_piece.ensures ∙ c.if-bad_piece.true) ∙
    sym c.loop-at.invariant.answered

pub returns-then-too_long : goal.returns-then-too_long
returns-then-too_long c =
    let ws = map bits_of c.args.commands.now in
    let left = c.loop-at.left in
    let there : c.loop-at.at < length ws = omega (arith, length-map c.args.commands.now bits_of) in
    found-long ws c.loop-at.at there left (sym c.bad_piece.ensures ∙ c.if-bad_piece.false)
    (ap (λ (n : ℕ). too_long n left) (sym c.bytes_taken-taken.ensures.0) ∙
    sym c.too_long.ensures ∙ c.if-too_long.true) ∙
    sym c.loop-at.invariant.answered

pub loop-at-preserved : goal.loop-at-preserved
loop-at-preserved c =
    let cs = c.args.commands.now in
    let ws = map bits_of cs in
    let at = c.loop-at.at in
    let left = c.loop-at.left in
    let there : at < length ws = omega (arith, length-map cs bits_of) in
    let whole : bad_piece (piece_at ws at) ≡ false = sym c.bad_piece.ensures ∙ c.if-bad_piece.false in
    let short : too_long (bytes_taken (piece_at ws at)) left ≡ false =
    ap (λ (n : ℕ). too_long n left) (sym c.bytes_taken-taken.ensures.0) ∙ sym c.too_long.ensures ∙
    c.if-too_long.false in
    let next : at + (1 + c.given_operands.result) ≡ next_piece ws at =
    omega (arith, c.given_operands.ensures.0 ∙ ap given_operands c.given_natural.ensures.0) in
    record {
      answered =
          rw (next, c.bytes_taken-taken.ensures.0)
          (c.loop-at.invariant.answered ∙ found-next ws at there left whole short);
      inside = omega (arith, next, piece-there ws at there whole, length-map cs bits_of);
    }

pub returns-then-left-gt0 : goal.returns-then-left-gt0
returns-then-left-gt0 c =
    let cs = c.args.commands.now in
    let end = found-end (map bits_of cs) c.loop-at.at c.loop-at.left (omega (arith, length-map cs bits_of)) in
    sym (c.loop-at.invariant.answered ∙ (rw (lt-ltb 0 c.loop-at.left c.if-left-gt0.true) at end))

pub returns : goal.returns
returns c =
    let cs = c.args.commands.now in
    let end = found-end (map bits_of cs) c.loop-at.at c.loop-at.left (omega (arith, length-map cs bits_of)) in
    sym (c.loop-at.invariant.answered ∙ (rw (le-ltb 0 c.loop-at.left c.if-left-gt0.false) at end))
