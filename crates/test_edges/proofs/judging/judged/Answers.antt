-- The verdict is on what `see_edges` says and leaves, which is its whole result. Assumes nothing.
use Rattle.test_edges.specs.Judging.{verdict_of}
use Rattle.test_edges.proofs.judging.judged.Goals as goal

pub returns : goal.returns
unfolding verdict_of
returns c =
    let o = rw c.commands.ensures at c.see_edges-answer.ensures in
    rw (c.same_answer.ensures, o.answer, o.memory) at c.judge.ensures
