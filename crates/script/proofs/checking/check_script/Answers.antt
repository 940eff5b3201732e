-- `check_script` may ask for the commands' faults, since the header is fine. Assumes nothing.
use mathlib.Core.Path.{sym, ◌∙◌}
use native.Mathlib.Omega.{arith}
use Rattle.words.proofs.Answers.{says_is}
use Rattle.header.proofs.Fine.{fine}
use Rattle.script.proofs.checking.check_script.Goals as goal

pub check_commands-requires : goal.check_commands-requires
check_commands-requires c =
    let f = fine _ (sym (says_is c.check_header.ensures) ∙ c.in_ok-check_header.was) in (
      omega (arith, c.natural-first.ensures.0, c.natural-count.ensures.0, f.ends),
      (f.short, omega (arith, c.natural-bytes.ensures.0, f.bytes, f.short)),
    )
