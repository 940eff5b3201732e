-- `make_map` meets its contract: its parts are the build. Assumes nothing.
use Rattle.zones.specs.Numbers.{state_in}
use Rattle.build.proofs.Making.{map_is}
use Rattle.build.proofs.map.make_map.Goals as goal

pub returns : goal.returns
returns c =
    let a = c.args in (
      map_is (state_in a.gauge a.zones.now) a.stems.now a.count c.least-declared.result c.least-declared.ensures
          a.mask _ _ _ _ _ _ _ _ _ _ _ _ _ _ _ _ c.put_em_box-boxed.ensures c.place_locked-locked.ensures
          c.place_free-len.ensures c.adjust.ensures c.save_all.ensures,
      c.adjust.ensures.long,
    )
