-- `HintState::new` meets its contract. Assumes nothing.
use Rattle.std.proofs.Common.{◌≡◌, ◌≤◌, length, take, get_or, set, sym, ap, ◌∙◌, arith, rules}
use Rattle.std.proofs.lemmas.List.{length-map, length-take}
use lib.Seq.{take_all, length-take-le, take-append_seam}
use Rattle.zones.specs.declared.blues.BlueZone.{BlueZone}
use Rattle.zones.specs.declared.state.HintParams.{HintParams}
use Rattle.zones.specs.declared.state.HintState.{HintState}
use Rattle.fixed.specs.Fixed.{less_f}
use Rattle.zones.specs.Zones.{no_zone, moved_flat, device_flat}
use Rattle.zones.specs.State.{kept_of, state_of}
use Rattle.zones.proofs.Keep.{kept-length, each_more}
use Rattle.zones.proofs.state.HintState.new.Goals as goal

-- the zones that are kept have room
kept-few : (p : HintParams) → length p.blues.pairs ≡ 7 → length (kept_of p) ≤ 12
kept-few p seven = kept-length p.blues p.other_blues (omega (arith, seven, length-take p.blues.count p.blues.pairs))

pub returns-then-state : goal.returns-then-state
unfolding state_of
returns-then-state c = rw (sym c.em_box.ensures, c.if-state.true, c.none-none.ensures)

pub loop-i-preserved : goal.loop-i-preserved
loop-i-preserved c =
    let p = c.args.params in
    let few : c.kept-kept.result.count ≤ 12 = rw c.kept-kept.ensures (kept-few p (search rules)) in
    let twelve : length c.kept-kept.result.list ≡ 12 = search rules in
    let i = c.loop-i.i in
    let zs = take c.kept-kept.result.count c.kept-kept.result.list in
    let all : length zs ≡ c.kept-kept.result.count = length-take-le _ _ (omega arith) in
    let done : BlueZone → BlueZone =
    λ z. device_flat c.args.scale c.boost_at-boost.result
    (moved_flat p.family_other_blues p.family_blues c.div-limit.result z)
    in
    rw (c.on_device.ensures, c.by_family.ensures)
    (ap (λ (st : HintState). record st { zones = set st.zones i (done (get_or zs i no_zone)) }) c.loop-i.invariant ∙
    rw (each_more done zs i (omega arith) (omega arith)))

pub returns : goal.returns
unfolding state_of
returns c =
    let p = c.args.params in
    let few : c.kept-kept.result.count ≤ 12 = rw c.kept-kept.ensures (kept-few p (search rules)) in
    let twelve : length c.kept-kept.result.list ≡ 12 = search rules in
    let zs = take c.kept-kept.result.count c.kept-kept.result.list in
    let all : length zs ≤ c.loop-i.i = omega (arith, length-take-le c.kept-kept.result.count c.kept-kept.result.list) in
    let below : c.lt.result ≡ less_f c.args.scale c.clamped-most.result = search rules in
    c.loop-i.invariant ∙ rw (
      take_all _ zs all,
      c.div-limit.ensures,
      below,
      c.boost_at-boost.ensures,
      c.clamped-most.ensures,
      c.kept-kept.ensures,
      take-append_seam,
      sym c.em_box.ensures,
      c.if-state.false,
      length-map,
    )
