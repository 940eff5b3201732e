-- `answer_for` refuses exactly the maps that have more records than there is room for. Assumes
-- nothing.
use Rattle.std.proofs.Common.{ap}
use borrow.Author.Tests.{lt-leb, le-leb}
use Rattle.listing.specs.declared.summary.Summary.{Summary}
use Rattle.listing.specs.Records.{summary_of}
use Rattle.listing.specs.Listing.{list_answer}
use Rattle.listing.proofs.answer.answer_for.Goals as goal

pub returns-then-room-summary : goal.returns-then-room-summary
unfolding list_answer summary_of
returns-then-room-summary c =
    let e = ap (λ (s : Summary). s.edges) c.summarize-summary.ensures in
    rw (lt-leb _ _ (rw e at c.if-room-summary.true))

pub returns : goal.returns
unfolding list_answer summary_of
returns c =
    let e = ap (λ (s : Summary). s.edges) c.summarize-summary.ensures in
    rw (le-leb _ _ (rw e at c.if-room-summary.false), c.summarize-summary.ensures)
