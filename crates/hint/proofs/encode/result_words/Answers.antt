-- `result_words` counts the header and the record words that it names, no more than there are.
-- Assumes nothing.
use Rattle.std.proofs.Common.{arith, rules, sym, ap, ◌∙◌, ℕ, ◌+◌, ◌≡◌, ◌≤◌, min, pos, length}
use lib.ListN.{get_or, length-take}
use borrow.Author.Tests.{ltb-false}
use mir.Syntax.{w32}
use mir.Val.{SFits}
use mir.Facts.{to_z-of_z}
use Rattle.fixed.specs.Integers.{bits_of}
use Rattle.hint.specs.Encode.{result_in}
use Rattle.hint.proofs.encode.result_words.Goals as goal

pub returns-in-None : goal.returns-in-None
unfolding result_in
returns-in-None c =
    let o = c.args.out.now in
    let few : length o ≤ 3 = ltb-false 3 (length o) (sym c.in-None.ensures.lookup.0) in
    omega (arith, few, length-take (4 + bits_of (get_or o 3 (pos 0))) o)

pub returns-in-Some : goal.returns-in-Some
unfolding result_in
returns-in-Some c =
    let o = c.args.out.now in
    let is : c.in-Some.records.now ≡ get_or o 3 (pos 0) = search rules in
    let f : SFits w32 c.in-Some.records.now = search rules in
    c.least.ensures ∙
    ap (λ (n : ℕ). min (4 + n) (length o)) (c.bits_of.ensures ∙ ap bits_of (to_z-of_z f ∙ is)) ∙
    sym (length-take (4 + bits_of (get_or o 3 (pos 0))) o)
