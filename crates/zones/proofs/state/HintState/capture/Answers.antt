-- `HintState::capture` meets its contract: the list holds the state's own zones. Assumes nothing.
use Rattle.std.proofs.Common.{ap, ◌∙◌}
use Rattle.zones.specs.declared.state.HintState.{HintState}
use Rattle.zones.specs.Capture.{capture_of}
use Rattle.zones.proofs.Listing.{state-is}
use Rattle.zones.proofs.state.HintState.capture.Goals as goal

pub returns : goal.returns
returns c =
    let a = c.args in
    c.capture_by.ensures ∙
    ap (λ (st : HintState). capture_of st a.bottom a.top) (state-is a.self _ _ c.gauge.ensures c.list.ensures)
