-- `take_first` meets its contract: the first stem of the first byte that has one is the mask's.
-- Assumes nothing.
use Rattle.std.proofs.Common.{◌∙◌, ◌+◌, ◌*◌, ◌<◌, sym, arith}
use borrow.Author.Tests.{lt-ltb}
use Rattle.stems.specs.Mask.{of_bytes, without_first}
use Rattle.stems.proofs.FirstStem.{InByte, no_byte, in_byte}
use Rattle.stems.proofs.mask.take_first.Goals as goal

pub overflow_add-stem : goal.overflow_add-stem
overflow_add-stem c =
    let f : InByte (of_bytes c.args.bytes.now) c.in-Some.k c.first_set.result =
    in_byte _ c.fits-bytes c.told-bytes _ _ (sym c.first_byte.ensures ∙ c.in-Some.is) c.first_set.ensures in
    omega arith

pub clear_active-requires : goal.clear_active-requires
clear_active-requires c =
    let f : InByte (of_bytes c.args.bytes.now) c.in-Some.k c.first_set.result =
    in_byte _ c.fits-bytes c.told-bytes _ _ (sym c.first_byte.ensures ∙ c.in-Some.is) c.first_set.ensures in
    (omega arith, f.on)

pub returns-in-Some : goal.returns-in-Some
unfolding without_first
returns-in-Some c =
    let f : InByte (of_bytes c.args.bytes.now) c.in-Some.k c.first_set.result =
    in_byte _ c.fits-bytes c.told-bytes _ _ (sym c.first_byte.ensures ∙ c.in-Some.is) c.first_set.ensures in
    let l : 8 * c.in-Some.k + c.first_set.result < 96 = omega arith in
    record { stem = omega arith; mask = rw (f.first, lt-ltb _ _ l) c.clear_active.ensures }

pub returns-in-None : goal.returns-in-None
unfolding without_first
returns-in-None c =
    let f = no_byte (of_bytes c.args.bytes.now) c.fits-bytes c.told-bytes (sym c.first_byte.ensures ∙ c.in-None.is) in
    record { stem = sym f; mask = rw f }
