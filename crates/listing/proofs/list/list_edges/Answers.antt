-- `list_edges` leaves the records of the map's edges over the list: in each turn there is an edge,
-- and place for its record. Assumes nothing.
use Rattle.std.proofs.Common.{◌≡◌, ◌≤◌, length, ap, ◌∙◌, arith}
use Rattle.hintmap.proofs.Near.{held-long}
use Rattle.listing.specs.Records.{record_at}
use Rattle.listing.specs.Listing.{records_in}
use Rattle.listing.proofs.Answers.{Stand, listed-fits, listed-stand}
use Rattle.listing.proofs.Written.{written, written_over}
use Rattle.listing.proofs.list.list_edges.Goals as goal

pub record_at-requires : goal.record_at-requires
record_at-requires c =
    let m = c.args.map in
    (listed-stand m (length c.args.list.now) (held-long m c.well_formed.0.1.1.0.1.0.1) c.loop-i.i (omega arith)).0

pub offset_bounds-list-i : goal.offset_bounds-list-i
offset_bounds-list-i c =
    let m = c.args.map in
    let s = listed-stand m (length c.args.list.now) (held-long m c.well_formed.0.1.1.0.1.0.1) c.loop-i.i (omega arith)
    in
    omega (arith, s.0)

pub bounds-list-i : goal.bounds-list-i
bounds-list-i c = omega (arith, listed-fits c.args.map (length c.args.list.now))

pub returns : goal.returns
returns c =
    let m = c.args.map in
    let lent = c.args.list.now in
    let xs = records_in m (length lent) in
    let f : length xs ≤ length lent = listed-fits m (length lent) in
    let s : Stand m xs = listed-stand m (length lent) (held-long m c.well_formed.0.1.1.0.1.0.1) in
    let e : c.loop-i.i ≡ length xs = omega arith in
    let w = written_over lent (record_at m) xs f (λ i l. (s i l).1) in
    record {
      answer = c.answer_for.ensures;
      memory = c.loop-i.invariant.1 ∙ ap (written lent (record_at m)) e ∙ w;
    }
