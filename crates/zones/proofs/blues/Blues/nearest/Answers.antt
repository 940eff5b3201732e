-- `Blues::nearest` meets its contract: the count is cut to the room for pairs, so that each place has a
-- pair. Assumes nothing.
use Rattle.std.proofs.Common.{◌≡◌, ◌-◌, true, false, length, take, drop, sym, ap, ◌∙◌, rules}
use Rattle.fixed.specs.Fixed.{ZERO, same_f}
use Rattle.fixed.proofs.Counts.{take-least}
use Rattle.zones.specs.Zones.{family_from, unmoved, nearest_of}
use Rattle.zones.proofs.Taken.{behind-others}
use Rattle.zones.proofs.Family.{search_from, search-goes, search-found, search-ends}
use Rattle.zones.proofs.blues.Blues.nearest.Goals as goal

pub loop-pair-init : goal.loop-pair-init
unfolding nearest_of
loop-pair-init c =
    let a = c.args in
    let ps = a.self.pairs in
    let seven : length ps ≡ 7 = search rules in
    let n = c.least-count.result in
    let whole : drop (family_from a.side) (take n ps) ≡ drop (family_from a.side) (take a.self.count ps) =
    rw c.least-count.ensures (ap (drop (family_from a.side)) (take-least a.self.count 7 ps seven))
    in
    let part : take (n - c.least.result) (drop c.least.result ps) ≡ drop (family_from a.side) (take n ps) =
    rw (c.least.ensures, c.first_for.ensures) (behind-others (family_from a.side) n ps)
    in
    ap (λ bs. search_from a.side bs a.flat a.limit (unmoved a.flat) 0) (part ∙ whole)

pub returns-then-eq : goal.returns-then-eq
returns-then-eq c =
    let zero : same_f c.loop-pair.near.diff ZERO ≡ true = search rules in
    sym (search-found c.args.side _ _ _ _ _ c.loop-pair-test.true zero) ∙ c.loop-pair.invariant

pub loop-pair-preserved : goal.loop-pair-preserved
loop-pair-preserved c =
    let more : same_f c.loop-pair.near.diff ZERO ≡ false = search rules in
    rw (c.with-near.ensures, c.edge.ensures)
    (sym (search-goes c.args.side _ _ _ _ _ c.loop-pair-test.true more) ∙ c.loop-pair.invariant)

pub returns : goal.returns
returns c = sym (search-ends c.args.side _ _ _ _ _ c.loop-pair-test.false) ∙ c.loop-pair.invariant
