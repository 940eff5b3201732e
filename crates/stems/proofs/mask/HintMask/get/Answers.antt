-- `HintMask::get` meets its contract: no stem past the twelve bytes is active. Assumes nothing.
use Rattle.std.proofs.Common.{◌≡◌, ◌∙◌, sym, arith, length, le-ltb, rules}
use Rattle.stems.proofs.Masks.{past_off}
use Rattle.stems.proofs.mask.HintMask.get.Goals as goal

pub returns-else-bit-lt-MAX_HINTS : goal.returns-else-bit-lt-MAX_HINTS
returns-else-bit-lt-MAX_HINTS c =
    let twelve : length c.args.self.bytes ≡ 12 = search rules in
    le-ltb _ _ c.if-bit-lt-MAX_HINTS.false ∙ sym (past_off _ _ (omega arith))
