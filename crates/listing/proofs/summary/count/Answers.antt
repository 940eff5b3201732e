-- `count` counts the edges whose records pass. Assumes nothing.
use Rattle.std.proofs.Common.{arith, ◌≡◌, take, length, count_by, ◌∙◌, rules}
use Rattle.listing.specs.Records.{record_of, counts, count_of, edge_records}
use Rattle.listing.proofs.Counting.{count-whole}
use Rattle.listing.proofs.summary.count.Goals as goal

pub returns : goal.returns
returns c =
    let m = c.args.map in
    let long : length m.edges ≡ 96 = search rules in
    let counted :
    c.count.result ≡ count_by (λ e. counts c.args.what (record_of e)) (take c.least-len.result m.edges) =
    search rules
    in
    let whole : c.count.result ≡ count_of (counts c.args.what) (edge_records m) =
    counted ∙ rw c.least-len.ensures (count-whole m long (counts c.args.what))
    in
    omega (arith, whole)
