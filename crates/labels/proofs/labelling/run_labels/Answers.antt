-- `run_labels` makes the tests in their order, and where none holds the result. Assumes nothing.
use Rattle.std.proofs.Common.{arith, sym, ap, ◌∙◌}
use Rattle.labels.specs.Answers.{label_number}
use Rattle.labels.specs.Labels.{labels_of, records_in}
use Rattle.labels.proofs.Answering.{open-fine, answered, fillable}
use Rattle.labels.proofs.labelling.run_labels.Goals as goal

pub new-requires : goal.new-requires
new-requires c =
    (open-fine c.args.scale c.args.params
    (ap label_number (sym c.check_numbers.ensures ∙ c.in_ok-check_numbers.was))).1

pub fill-requires : goal.fill-requires
fill-requires c =
    let a = c.args in
    fillable a.lengths.now a.commands.now a.masks.now a.out.now
    (sym c.are_miscounted.ensures ∙ c.if-are_miscounted.false) (grind arith)

pub returns : goal.returns
unfolding labels_of records_in
returns c = grind (arith, answered)
