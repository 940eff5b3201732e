-- `bytes_taken` gives the word behind a mask's kind, and 0 for what is no mask or has no such word.
-- Assumes nothing.
use Rattle.std.proofs.Common.{◌≡◌, sym, ap, ◌∙◌, true, map, get_or}
use Rattle.fixed.specs.Integers.{bits_of}
use Rattle.writer.specs.Pieces.{is_mask}
use Rattle.writer.proofs.Cutting.{mask-takes}
use Rattle.writer.proofs.pieces.bytes_taken.Goals as goal

pub returns : goal.returns
returns c =
    let ws = map bits_of c.args.commands.now in
    let mask : is_mask (get_or ws c.args.at 0) ≡ true =
    ap is_mask (sym c.given_natural.ensures.0) ∙ sym c.is_mask.ensures ∙ c.if-not-is_mask.false in
    (c.given_natural-2.ensures.0 ∙ sym (mask-takes ws c.args.at mask), c.given_natural-2.ensures.1)
