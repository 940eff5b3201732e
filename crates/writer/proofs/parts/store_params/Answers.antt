-- `store_params` lays the numbers and the four lists behind one another. Assumes nothing.
use Rattle.std.proofs.Common.{rules, arith}
use Rattle.writer.proofs.Laying.{Sevens, params-length, params-laid}
use Rattle.writer.proofs.parts.store_params.Goals as goal

pub store_numbers-requires : goal.store_numbers-requires
store_numbers-requires c =
    let p = c.args.params in
    let sevens : Sevens p =
    record { blues = search rules; others = search rules; family = search rules; family_others = search rules } in
    (omega (arith, c.requires.0, params-length p sevens c.requires.1), c.requires.1)

pub store_blues-requires : goal.store_blues-requires
store_blues-requires c =
    let p = c.args.params in
    let sevens : Sevens p =
    record { blues = search rules; others = search rules; family = search rules; family_others = search rules } in (
      c.requires.1.blues,
      omega (arith, c.requires.0, params-length p sevens c.requires.1, c.store_numbers.auto.script),
    )

pub store_blues-requires-2 : goal.store_blues-requires-2
store_blues-requires-2 c =
    let p = c.args.params in
    let sevens : Sevens p =
    record { blues = search rules; others = search rules; family = search rules; family_others = search rules } in (
      c.requires.1.others,
      omega (
        arith,
        c.requires.0,
        params-length p sevens c.requires.1,
        c.store_numbers.auto.script,
        c.store_blues.auto.script,
      ),
    )

pub store_blues-requires-3 : goal.store_blues-requires-3
store_blues-requires-3 c =
    let p = c.args.params in
    let sevens : Sevens p =
    record { blues = search rules; others = search rules; family = search rules; family_others = search rules } in (
      c.requires.1.family,
      omega (
        arith,
        c.requires.0,
        params-length p sevens c.requires.1,
        c.store_numbers.auto.script,
        c.store_blues.auto.script,
        c.store_blues-2.auto.script,
      ),
    )

pub store_blues-requires-4 : goal.store_blues-requires-4
store_blues-requires-4 c =
    let p = c.args.params in
    let sevens : Sevens p =
    record { blues = search rules; others = search rules; family = search rules; family_others = search rules } in (
      c.requires.1.family_others,
      omega (
        arith,
        c.requires.0,
        params-length p sevens c.requires.1,
        c.store_numbers.auto.script,
        c.store_blues.auto.script,
        c.store_blues-2.auto.script,
        c.store_blues-3.auto.script,
      ),
    )

pub returns : goal.returns
returns c =
    let p = c.args.params in
    let sevens : Sevens p =
    record { blues = search rules; others = search rules; family = search rules; family_others = search rules } in
    params-laid c.args.script.now p sevens c.requires.1 c.requires.0 c.store_numbers.ensures c.store_blues.ensures
    c.store_blues-2.ensures c.store_blues-3.ensures c.store_blues-4.ensures
