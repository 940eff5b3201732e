-- `make_initial` meets its contract: its parts are the build. Assumes nothing.
use Rattle.zones.specs.Numbers.{state_in}
use Rattle.build.proofs.Making.{initial-is}
use Rattle.build.proofs.initial.make_initial.Goals as goal

pub returns : goal.returns
returns c =
    let a = c.args in (
      initial-is (state_in a.gauge a.zones.now) a.stems.now a.count c.least-declared.result c.least-declared.ensures
          _ _ _ _ _ _ _ _ _ _ _ _ c.put_em_box-boxed.ensures c.place_locked-placed.ensures c.put_baseline-len.ensures
          c.adjust.ensures,
      c.adjust.ensures.long,
    )
