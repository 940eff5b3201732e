-- `count_params` counts eight words and two for each pair. Assumes nothing.
use Rattle.std.proofs.Common.{rules, arith, sym}
use Rattle.writer.proofs.Laying.{Sevens, params-length}
use Rattle.writer.proofs.parts.count_params.Goals as goal

pub returns : goal.returns
returns c =
    let p = c.args.params in
    let sevens : Sevens p =
    record { blues = search rules; others = search rules; family = search rules; family_others = search rules } in
    (sym (params-length p sevens c.requires), omega arith)
