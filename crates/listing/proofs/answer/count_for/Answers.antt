-- `count_for` is the number of the records that are listed. Assumes nothing.
use Rattle.std.proofs.Common.{ap, ◌∙◌}
use Rattle.listing.specs.declared.summary.Summary.{Summary}
use Rattle.listing.specs.Listing.{list_summary}
use Rattle.listing.proofs.Answers.{edges-listed}
use Rattle.listing.proofs.answer.count_for.Goals as goal

pub returns : goal.returns
returns c =
    ap (λ (s : Summary). s.edges) (c.list_summary-summary.ensures ∙ ap list_summary c.answer_for.ensures) ∙
    edges-listed c.args.map c.args.room
