-- `HintMask::clear` meets its contract: an active stem is one of the twelve bytes'. Assumes nothing.
use Rattle.std.proofs.Common.{◌≡◌, ◌∙◌, sym, arith, length, true, rules}
use Rattle.stems.specs.Mask.{is_active}
use Rattle.stems.proofs.Masks.{active-inside}
use Rattle.stems.proofs.mask.HintMask.clear.Goals as goal

pub clear_active-requires : goal.clear_active-requires
clear_active-requires c =
    let active : is_active c.args.self c.args.bit ≡ true = sym c.get.ensures ∙ c.if-not-get.false in
    let twelve : length c.args.self.bytes ≡ 12 = search rules in
    (omega (arith, active-inside _ _ active), active)
