-- `answer_to` refuses counts that are too high, and else answers as the writer. Assumes nothing.
use Rattle.std.proofs.Common.{arith}
use Rattle.assemble.proofs.AskedAnswers.{many-commands, many-masks, not-looked, looked}
use Rattle.assemble.proofs.asked.answer_to.Goals.{then-commands-gt-MOST_COMMANDS-via-then-commands-gt-MOST_COMMANDS}
use Rattle.assemble.proofs.asked.answer_to.Goals.{
  then-commands-gt-MOST_COMMANDS-via-else-commands-gt-MOST_COMMANDS+then-masks-gt-MOST_MASKS,
}
use Rattle.assemble.proofs.asked.answer_to.Goals as goal

pub returns-then-commands-gt-MOST_COMMANDS : goal.returns-then-commands-gt-MOST_COMMANDS
returns-then-commands-gt-MOST_COMMANDS c =
    let a = c.args in
    let n = c.natural-commands.ensures.0 in
    let m = c.natural-masks.ensures.0 in
    elim c.then-commands-gt-MOST_COMMANDS.branch [
      | then-commands-gt-MOST_COMMANDS-via-then-commands-gt-MOST_COMMANDS w ↦
          not-looked a.input.now a.script.now
          (many-commands a.input.now (omega (arith, n, w.if-commands-gt-MOST_COMMANDS.true)))
      | then-commands-gt-MOST_COMMANDS-via-else-commands-gt-MOST_COMMANDS+then-masks-gt-MOST_MASKS w ↦
          not-looked a.input.now a.script.now
          (many-masks a.input.now (omega (arith, n, w.if-commands-gt-MOST_COMMANDS.false))
          (omega (arith, m, w.if-masks-gt-MOST_MASKS.true)))
    ]

pub returns : goal.returns
returns c =
    looked c.args.input.now c.args.script.now c.requires.1 c.natural-commands.ensures.0
    c.natural-masks.ensures.0 (omega (arith, c.if-commands-gt-MOST_COMMANDS.false))
    (omega (arith, c.if-masks-gt-MOST_MASKS.false)) c.write_asked.ensures
