-- `store_words` lays words from word `first` on: none at first, and one more each turn. Assumes
-- nothing.
use Rattle.std.proofs.Common.{◌≡◌, ◌+◌, ◌*◌, ◌≤◌, List, [], ◌∷◌, ◌++◌, ℕ, map, length, take, arith, rules, sym, ap, ◌∙◌}
use lib.IntN.{pos}
use lib.ListN.{get_or}
use mir.Syntax.{w32}
use mir.Val.{SFits}
use mir.Facts.{to_z-of_z}
use Rattle.fixed.specs.Integers.{bits_of}
use Rattle.words.specs.Bytes.{laid}
use Rattle.words.proofs.Laid.{laid-behind, laid_none, words-length, one_more}
use Rattle.words.proofs.storing.store_words.Goals as goal

pub loop-i-init : goal.loop-i-init
loop-i-init c = sym (laid_none _ _)

pub loop-i-preserved : goal.loop-i-preserved
loop-i-preserved c =
    let lent = c.args.bytes.now in
    let first = c.args.first in
    let ws = c.args.words.now in
    let i = c.loop-i.i in
    let done = map bits_of (take i ws) in
    let n : length done ≡ i = words-length ws i (omega arith) in
    let room : 4 * first + 4 * length done ≤ length lent = omega (arith, n) in
    let f : SFits w32 (get_or ws i (pos 0)) = search rules in
    let b = c.bits_of.result in
    let w : b ≡ bits_of (get_or ws i (pos 0)) = c.bits_of.ensures ∙ ap bits_of (to_z-of_z f) in
    c.store.ensures ∙ ap (λ (x : List ℕ). laid x (first + i) (b ∷ [])) c.loop-i.invariant ∙
    laid-behind lent first done room (b ∷ []) (first + i) (omega (arith, n)) ∙
    ap (laid lent first) (ap (λ (n : ℕ). done ++ (n ∷ [])) w ∙ sym (one_more ws i (omega arith)))
