-- `store_pair` lays bottom and top. Assumes nothing.
use Rattle.std.proofs.Common.{rules, arith, ◌+◌, ap, ◌∙◌, List, ℕ, [], ◌∷◌, w32, FitsSigned}
use mir.Facts.{to_z-of_z}
use Rattle.words.specs.Bytes.{laid}
use Rattle.words.proofs.Laid.{laid-behind}
use Rattle.writer.specs.ToWrite.{pair_words}
use Rattle.writer.proofs.parts.store_pair.Goals as goal

pub returns : goal.returns
unfolding pair_words
returns c =
    let a = c.args in
    let low : FitsSigned w32 a.pair.bottom.bits = search rules in
    let high : FitsSigned w32 a.pair.top.bits = search rules in
    let second = c.bits_of-2.result ∷ [] in
    c.store-2.ensures ∙ ap (λ (l : List ℕ). laid l (a.i + 1) second) c.store.ensures ∙
    laid-behind a.script.now a.i (c.bits_of.result ∷ []) (omega arith) second (a.i + 1) (omega arith) ∙
    rw (c.bits_of.ensures, c.bits_of-2.ensures, to_z-of_z low, to_z-of_z high)
