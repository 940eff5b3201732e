-- `Zones::read` meets its contract: a turn reads one pair. Assumes nothing.
use Rattle.std.proofs.Common.{◌≡◌, true, false, take, get_or, sym, ◌∙◌, arith, rules}
use Rattle.fixed.specs.Fixed.{ZERO, less_f}
use Rattle.zones.specs.Zones.{no_blue, height_of, kept_in}
use Rattle.zones.proofs.Keep.{read_more, read-ends}
use Rattle.zones.proofs.blues.Zones.read.Goals as goal

pub loop-pair-preserved-then-lt : goal.loop-pair-preserved-then-lt
unfolding kept_in
loop-pair-preserved-then-lt c =
    let ps = take c.args.n c.args.blues.pairs in
    let i = c.loop-pair.pair-index in
    let low : less_f (height_of (get_or ps i no_blue)) ZERO ≡ true = rw (sym c.height-height.ensures) (search rules) in
    record {
      rest = c.loop-pair.invariant.rest ∙ read_more _ _ ps i (search rules) ∙ rw low;
      room = omega arith;
    }

pub loop-pair-preserved : goal.loop-pair-preserved
unfolding kept_in
loop-pair-preserved c =
    let ps = take c.args.n c.args.blues.pairs in
    let i = c.loop-pair.pair-index in
    let h = c.height-height.ensures in
    let high : less_f (height_of (get_or ps i no_blue)) ZERO ≡ false = rw (sym h) (search rules) in
    record {
      rest =
          c.loop-pair.invariant.rest ∙ read_more _ _ ps i (search rules) ∙
          rw (high, c.max-zones.ensures, c.new.ensures, c.kept_side.ensures, h);
      room = omega arith;
    }

pub returns : goal.returns
returns c =
    let ps = take c.args.n c.args.blues.pairs in
    sym (c.loop-pair.invariant.rest ∙ read-ends _ _ ps c.loop-pair.pair-index (search rules))
