-- `put_count` puts the digits behind the name. Assumes nothing.
use Rattle.decimal.specs.Decimal.{number_text}
use Rattle.decimal.proofs.Putting.{put_both}
use Rattle.edges.proofs.counts.put_count.Goals as goal

pub returns : goal.returns
returns c =
    put_both _ _ c.args.name.now (number_text c.args.n) c.requires.1 c.put_text-next.ensures c.put_number.ensures
