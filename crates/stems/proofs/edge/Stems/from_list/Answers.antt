-- `Stems::from_list` meets its contract: each stem is that of its place. Assumes nothing.
use Rattle.std.proofs.Common.{◌≡◌, ℕ, ◌<◌, ap, arith, rules, List, get_or}
use Rattle.stems.specs.declared.edge.StemHint.{StemHint}
use Rattle.stems.specs.Lists.{stem_in, stems_in}
use Rattle.stems.proofs.Places.{zero_stem, made, all-stems}
use Rattle.stems.proofs.edge.Stems.from_list.Goals as goal

pub returns : goal.returns
unfolding stems_in
returns c =
    let l = c.args.stems.now in
    let xs = c.from_fn-list.result in
    let made_each = c.from_fn-list.ensures.items.each in
    let each : (j : ℕ) → j < 96 → get_or xs j zero_stem ≡ stem_in l j =
    λ j q. made _ (stem_in l) xs (λ i y k h. search rules) 96 0 made_each j zero_stem (omega arith) q in
    ap (λ (ys : List StemHint). record { list = ys; count = c.args.count })
    (all-stems l c.args.count xs c.from_fn-list.ensures.items.long each)
