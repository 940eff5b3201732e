-- `summarize` is the summary of the map's records. Assumes nothing.
use Rattle.std.proofs.Common.{rules}
use Rattle.hintmap.proofs.Near.{held-long}
use Rattle.listing.proofs.Counting.{summary_whole}
use Rattle.listing.proofs.summary.summarize.Goals as goal

pub returns : goal.returns
returns c =
    let m = c.args.map in
    summary_whole m (search rules) (held-long m c.well_formed.0.1.1.0.1.0.1) c.least.ensures c.count.ensures
    c.count-2.ensures c.count-3.ensures
