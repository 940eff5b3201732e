-- `run` lists the zones: the state's numbers and that list are the state. Assumes nothing.
use Rattle.zones.proofs.Listing.{state-is}
use Rattle.run.proofs.running.run.Goals as goal

pub returns : goal.returns
returns c = rw (state-is c.args.state _ _ c.gauge.ensures c.list.ensures) at c.run_by.ensures
