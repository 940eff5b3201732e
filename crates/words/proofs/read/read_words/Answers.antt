-- `read_words` reads words one by one: none at first, and one more each turn. Assumes nothing.
use Rattle.std.proofs.Common.{◌+◌, arith, rules, refl, add-one}
use mathlib.Core.List.{map-append}
use lib.ListN.{length-set}
use lib.Seq.{take-suc-set}
use mir.Syntax.{w32}
use mir.Val.{SFits}
use mir.Facts.{to_z-of_z}
use Rattle.fixed.specs.Integers.{signed}
use Rattle.words.specs.Words.{raw_at, words_from}
use Rattle.words.proofs.Words.{words_more}
use Rattle.words.proofs.read.read_words.Goals as goal

pub loop-i-init : goal.loop-i-init
unfolding words_from
loop-i-init c = (refl, refl)

pub loop-i-preserved : goal.loop-i-preserved
loop-i-preserved c =
    let w = raw_at c.args.bytes.now in
    let i = c.loop-i.i in
    let f : SFits w32 c.word.result = search rules in
    let t = take-suc-set c.loop-i.words i (signed (w (c.args.first + i))) (omega arith) in (
      rw (to_z-of_z f, c.word.ensures, words_more w c.args.first i, map-append, ← c.loop-i.invariant.0, add-one i) t,
      simp length-set c.loop-i.invariant.1,
    )
