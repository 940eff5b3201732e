-- `count_masks` counts one piece more, and at the end all. Assumes nothing.
use Rattle.std.proofs.Common.{arith, ◌≡◌, ap, ◌∙◌, ◌+◌, ◌<◌, length, map, get_or}
use lib.ListN.{length-map}
use mir.Val.{bool_byte}
use Rattle.fixed.specs.Integers.{bits_of}
use Rattle.writer.specs.Pieces.{is_mask, given_operands}
use Rattle.writer.proofs.Cutting.{masks-at, masks-none, at_most_one}
use Rattle.writer.proofs.pieces.count_masks.Goals as goal

pub loop-at-preserved : goal.loop-at-preserved
loop-at-preserved c =
    let ws = map bits_of c.args.commands.now in
    let at = c.loop-at.at in
    let mask = is_mask (get_or ws at 0) in
    let k = c.given_natural-kind.ensures.0 in
    let there : at < length ws = omega (arith, length-map c.args.commands.now bits_of) in
    let next : at + (1 + c.given_operands.result) ≡ at + 1 + given_operands (get_or ws at 0) =
    omega (arith, c.given_operands.ensures.0 ∙ ap given_operands k) in
    let one : c.from-count.result ≡ bool_byte mask =
    c.from-count.ensures ∙ ap bool_byte (c.is_mask.ensures ∙ ap is_mask k) in
    record {
      counted = rw next (omega (arith, c.loop-at.invariant.counted, masks-at ws at there, one));
      below = omega (arith, at_most_one mask, one);
      few = omega (arith, at_most_one mask, one);
    }

pub returns : goal.returns
returns c =
    let cs = c.args.commands.now in
    let none = masks-none (map bits_of cs) c.loop-at.at (omega (arith, length-map cs bits_of)) in
    (omega (arith, c.loop-at.invariant.counted, none), c.loop-at.invariant.few)
