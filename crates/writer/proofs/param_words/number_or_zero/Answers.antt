-- `number_or_zero` gives the number of a word's bits. Assumes nothing.
use Rattle.std.proofs.Common.{rules, sym, ap, ◌∙◌, w32, FitsSigned}
use mir.Facts.{to_z-of_z}
use Rattle.fixed.specs.Integers.{wrap32}
use Rattle.fixed.specs.Fixed.{from_bits}
use Rattle.fixed.proofs.Bits.{wrap-id}
use Rattle.writer.proofs.param_words.number_or_zero.Goals as goal

pub returns : goal.returns
unfolding wrap32
returns c =
    let bits = c.word_or_zero-bits.result in
    let fits : FitsSigned w32 bits = search rules in
    ap from_bits (to_z-of_z fits ∙ sym (wrap-id bits fits) ∙ ap wrap32 c.word_or_zero-bits.ensures)
