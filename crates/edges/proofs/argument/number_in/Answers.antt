-- `number_in` reads each digit, and cuts what it has to the most that is told apart. Assumes nothing.
use Rattle.std.proofs.Common.{◌≡◌, ℕ, ◌+◌, ◌*◌, ◌-◌, min, drop, get_or, sym, ap, ◌∙◌, arith, rules}
use Rattle.edges.specs.Page.{asked_in}
use Rattle.edges.proofs.Digits.{read_first, all_read, read-cut}
use Rattle.edges.proofs.argument.number_in.Goals as goal

pub loop-digit-init : goal.loop-digit-init
unfolding asked_in
loop-digit-init c = search rules

pub loop-digit-preserved : goal.loop-digit-preserved
loop-digit-preserved c =
    let ds = c.args.text.now in
    let i = c.loop-digit.digit-index in
    let n = 10 * c.loop-digit.number + (get_or ds i 0 - 48) in
    let e : c.least-number.result ≡ min n 4294967295 = rw (c.least-number.ensures, c.worth.ensures) in
    record {
      rest =
          read-cut (drop (i + 1) ds) c.least-number.result n (omega (arith, e)) ∙
          ap (λ (k : ℕ). min k 4294967295) (sym (read_first ds i (search rules) c.loop-digit.number)) ∙
          c.loop-digit.invariant.rest;
      most = omega (arith, e);
    }

pub returns : goal.returns
returns c =
    let ds = c.args.text.now in
    let l = c.loop-digit in
    omega (arith, l.invariant.rest, l.invariant.most, all_read ds l.digit-index l.number (search rules))
