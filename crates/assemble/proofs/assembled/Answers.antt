-- `assembled` stores number and place before the script. Assumes nothing.
use Rattle.std.proofs.Common.{arith}
use Rattle.assemble.proofs.Output.{put, count, few-written}
use Rattle.assemble.proofs.assembled.Goals as goal

pub overflow_add-result : goal.overflow_add-result
overflow_add-result c =
    omega (
      arith,
      c.written.ensures,
      few-written c.args.input.now c.args.out.now c.requires.1 c.answer_to-answer.ensures,
    )

pub returns : goal.returns
returns c =
    let b = c.args.input.now in
    let out = c.args.out.now in
    record {
      number = omega (arith, c.written.ensures, count b out c.requires.1 c.answer_to-answer.ensures);
      memory =
          put b out c.requires.1 c.answer_to-answer.ensures c.code.ensures c.place.ensures
          c.store.ensures c.store-2.ensures;
    }
