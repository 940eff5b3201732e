-- `count_records` counts the records in the first words of an output, one more each turn. Assumes
-- nothing.
use Rattle.std.proofs.Common.{◌≡◌, ◌+◌, ◌≤◌, ℕ, suc, length, take, drop, arith, rules, refl, sym, ap, ◌∙◌}
use lib.IntN.{pos}
use lib.ListN.{get_or}
use lib.Seq.{length-take-le, get_or-take}
use mir.Syntax.{w32}
use mir.Val.{SFits}
use mir.Facts.{to_z-of_z}
use Rattle.fixed.proofs.Counts.{take-least}
use Rattle.script.specs.Count.{size_of, records_in}
use Rattle.script.proofs.Counting.{sizes, count-step, count-end}
use Rattle.script.proofs.count.count_records.Goals as goal

-- the words that are there, of those that are to be looked at
pub loop-at-init : goal.loop-at-init
loop-at-init c =
    let o = c.args.out.now in
    let all : take c.least-end.result o ≡ take c.args.words o = ap (λ (n : ℕ). take n o) c.least-end.ensures ∙
    take-least c.args.words (length o) o refl in
    (omega (arith, ap records_in all), (omega arith, omega arith))

pub loop-at-smaller : goal.loop-at-smaller
loop-at-smaller c =
    let w = get_or c.args.out.now c.loop-at.at (pos 0) in
    let f : SFits w32 w = search rules in
    omega (arith, c.size-at.ensures.0 ∙ ap size_of (to_z-of_z f), sizes w)

pub loop-at-preserved : goal.loop-at-preserved
loop-at-preserved c =
    let o = c.args.out.now in
    let end = c.least-end.result in
    let at = c.loop-at.at in
    let ws = take end o in
    let w = get_or o at (pos 0) in
    let there : end ≤ length o = omega (arith, c.least-end.ensures) in
    let n : length ws ≡ end = length-take-le end o there in
    let f : SFits w32 w = search rules in
    let sized : c.size-at.result ≡ size_of w = c.size-at.ensures.0 ∙ ap size_of (to_z-of_z f) in
    let k = sized ∙ sym (ap size_of (get_or-take end o at (pos 0) c.loop-at-test.true)) in
    let s = count-step ws at (omega (arith, n)) ∙ ap (λ (r : ℕ). suc (records_in (drop (at + r) ws))) (sym k) in
    let z = sizes w in
    (omega (arith, c.loop-at.invariant.0, s), (omega (arith, sized, z), omega (arith, sized, z)))

pub returns : goal.returns
returns c =
    let end = c.least-end.result in
    let o = c.args.out.now in
    let there : end ≤ length o = omega (arith, c.least-end.ensures) in
    let n = length-take-le end o there in
    omega (arith, c.loop-at.invariant.0, count-end (take end o) c.loop-at.at (omega (arith, n)))
