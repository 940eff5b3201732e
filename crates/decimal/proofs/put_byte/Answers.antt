-- `put_byte` puts a byte where there is one. Assumes nothing.
use Rattle.std.proofs.Common.{[], refl, sym, ◌∙◌, arith}
use Rattle.words.proofs.Placing.{placed-none, placed-store}
use Rattle.decimal.proofs.put_byte.Goals as goal

pub returns-then-at-out : goal.returns-then-at-out
returns-then-at-out c h = record {
  ends = refl;
  memory = sym (placed-none _ _) ∙ placed-store c.args.out.now c.args.at c.args.byte [] (omega arith);
}

pub returns : goal.returns
returns c h = absurd (omega arith)
