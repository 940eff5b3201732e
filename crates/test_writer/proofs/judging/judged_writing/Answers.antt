-- The verdict is on what `write_script` leaves of the bytes that are lent. Assumes nothing.
use Rattle.test_writer.proofs.Results.{wrote-is}
use Rattle.test_writer.proofs.judging.judged_writing.Goals as goal

pub returns : goal.returns
returns c =
    let o = rw (c.number-scale.ensures, c.params_from.ensures, c.lend_bytes.ensures) at c.write_script-answer.ensures in
    rw (wrote-is o) at c.compared_writing.ensures
