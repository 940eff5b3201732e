-- The verdict is on what `run_labels` says and leaves, which is its whole result. Assumes nothing.
use Rattle.test_labels.specs.Judging.{verdict_of}
use Rattle.test_labels.proofs.judging.judged.Goals as goal

pub returns : goal.returns
unfolding verdict_of
returns c =
    let o = rw (c.number-scale.ensures, c.params_from.ensures) at c.run_labels-answer.ensures in
    rw (c.same_answer.ensures, o.answer, o.memory) at c.judge.ensures
