-- `store_blues` lays one pair more behind the pairs that are laid. Assumes nothing.
use Rattle.std.proofs.Common.{arith, ◌≡◌, sym, ap, ◌∙◌, ℕ, ◌+◌, ◌*◌, ◌≤◌, List, [], ◌∷◌, length}
use Rattle.std.proofs.Common.{take, get_or, length-take}
use lib.Seq.{length-take-le}
use Rattle.zones.specs.Zones.{no_blue}
use Rattle.words.specs.Bytes.{laid}
use Rattle.words.proofs.Laid.{laid-behind, laid_none}
use Rattle.writer.specs.ToWrite.{pair_words}
use Rattle.writer.proofs.Laying.{pair-words, one-pair}
use Rattle.writer.proofs.parts.store_blues.Goals as goal

pub loop-i-init : goal.loop-i-init
unfolding pair_words
loop-i-init c = sym (laid_none _ _)

pub loop-i-preserved : goal.loop-i-preserved
loop-i-preserved c =
    let a = c.args in
    let i = c.loop-i.i in
    let pairs = take a.blues.count a.blues.pairs in
    let done = take i pairs in
    let p = get_or pairs i no_blue in
    let many : length (pair_words done) ≡ 2 * i =
    omega (arith, pair-words done, length-take-le i pairs (omega arith)) in
    let room : 4 * a.first + 4 * length (pair_words done) ≤ length a.script.now =
    omega (arith, many, c.requires, length-take a.blues.count a.blues.pairs) in
    c.store_pair.ensures ∙
    ap (λ (x : List ℕ). laid x (a.first + 2 * i) (pair_words (p ∷ []))) c.loop-i.invariant ∙
    laid-behind a.script.now a.first (pair_words done) room (pair_words (p ∷ [])) (a.first + 2 * i)
    (omega (arith, many)) ∙
    ap (laid a.script.now a.first) (sym (one-pair pairs i (omega arith)))
