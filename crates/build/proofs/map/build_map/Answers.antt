-- `build_map` meets its contract: lists hold the stems, and both maps. Assumes nothing.
use Rattle.std.proofs.Common.{◌≡◌, refl, ap, ◌∙◌, rules}
use Rattle.stems.specs.declared.edge.Stems.{Stems}
use Rattle.zones.proofs.Listing.{state-is}
use Rattle.hintmap.specs.declared.map.HintMap.{HintMap}
use Rattle.hintmap.specs.Map.{valid_map}
use Rattle.hintmap.proofs.Near.{held-long}
use Rattle.hintmap.proofs.Lent.{listed-lines}
use Rattle.build.specs.declared.map.Built.{Built}
use Rattle.build.specs.Build.{built_of}
use Rattle.build.proofs.map.build_map.Goals as goal

-- a map and stems are put together
both : (m m' : HintMap) (ss ss' : Stems) → m ≡ m' → ss ≡ ss' →
    ◌≡◌ {A = Built} (record { map = m; stems = ss }) (record { map = m'; stems = ss' })
both m m' ss ss' p q = rw (p, q)

pub returns : goal.returns
returns c =
    let a = c.args in
    let made = rw (state-is a.state _ _ c.gauge.ensures c.list-2.ensures) at c.make_map-len.ensures.0 in
    both _ _ _ _ (c.validate.ensures ∙ ap valid_map c.from_lists.ensures) c.from_list.ensures ∙
    made.built a.initial refl
    (listed-lines a.initial _ _ _ (held-long a.initial (search rules)) c.list-3.ensures c.least-size.ensures) ∙
    ap (built_of a.state a.mask a.initial) c.list.ensures.stems
