-- `blues_from` gives seven pairs and their count. Assumes nothing.
use Rattle.std.proofs.Common.{rules, arith, ◌≡◌, ◌+◌, sym, ap, w32, FitsSigned}
use mir.Facts.{to_z-of_z}
use Rattle.fixed.specs.Integers.{bits_of}
use Rattle.header.specs.Params.{pairs_from}
use Rattle.writer.proofs.param_words.blues_from.Goals as goal

pub returns : goal.returns
unfolding pairs_from
returns c =
    let f = c.args.first in
    let e4 : f + 2 + 2 ≡ f + 4 = omega arith in
    let e6 : f + 4 + 2 ≡ f + 6 = omega arith in
    let e8 : f + 6 + 2 ≡ f + 8 = omega arith in
    let e10 : f + 8 + 2 ≡ f + 10 = omega arith in
    let e12 : f + 10 + 2 ≡ f + 12 = omega arith in
    let n : FitsSigned w32 c.word_or_zero.result = search rules in
    rw (
      e4,
      e6,
      e8,
      e10,
      e12,
      sym c.pair_from.ensures,
      sym c.pair_from-2.ensures,
      sym c.pair_from-3.ensures,
      sym c.pair_from-4.ensures,
      sym c.pair_from-5.ensures,
      sym c.pair_from-6.ensures,
      sym c.pair_from-7.ensures,
      sym (ap bits_of c.word_or_zero.ensures),
      sym (ap bits_of (to_z-of_z n)),
      sym c.bits_of-count.ensures,
    )
