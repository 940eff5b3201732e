-- `params_from` gives the four numbers and the four lists. Assumes nothing.
use Rattle.std.proofs.Common.{rules, ◌≡◌, sym, ap, ◌∙◌, w32, FitsSigned}
use mir.Facts.{to_z-of_z}
use Rattle.fixed.specs.Integers.{wrap32}
use Rattle.fixed.proofs.Bits.{wrap-id}
use Rattle.words.specs.Words.{given_word, word_at}
use Rattle.writer.specs.ParamWords.{params_in}
use Rattle.writer.proofs.param_words.params_from.Goals as goal

pub returns : goal.returns
unfolding params_in wrap32
returns c =
    let word = c.word_or_zero.result in
    let n : FitsSigned w32 word = search rules in
    let g : word ≡ word_at (given_word c.args.words.now) 3 =
    sym (wrap-id word n) ∙ ap wrap32 c.word_or_zero.ensures in
    rw (
      sym c.number_or_zero.ensures,
      sym c.number_or_zero-2.ensures,
      sym c.number_or_zero-3.ensures,
      sym g,
      sym c.blues_from.ensures,
      sym c.blues_from-2.ensures,
      sym c.blues_from-3.ensures,
      sym c.blues_from-4.ensures,
      to_z-of_z n,
    )
