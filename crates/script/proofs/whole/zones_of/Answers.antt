-- `zones_of` makes the zones of a script that passes all tests. Assumes nothing.
use Rattle.std.proofs.Common.{arith, ap, ◌∙◌}
use Rattle.zones.specs.declared.state.HintParams.{HintParams}
use Rattle.zones.specs.State.{state_of}
use Rattle.header.specs.Params.{params_of}
use Rattle.header.proofs.Fine.{scaled}
use Rattle.words.specs.Words.{raw_at}
use Rattle.script.specs.Script.{zones_of}
use Rattle.script.proofs.Passed.{passed}
use Rattle.script.proofs.whole.zones_of.Goals as goal

pub read_params-requires : goal.read_params-requires
read_params-requires c = (passed _ c.requires).whole

pub number-requires : goal.number-requires
number-requires c = omega (arith, (passed _ c.requires).fine.enough)

pub new-requires : goal.new-requires
new-requires c = rw c.number.ensures (scaled _ (passed _ c.requires).params)

pub returns : goal.returns
unfolding zones_of
returns c =
    c.new.ensures ∙ ap (λ (x : HintParams). state_of x c.number.result) c.read_params.ensures ∙
    ap (state_of (params_of (raw_at c.args.script.now))) c.number.ensures
