-- The verdict is on what `read_back` says, and leaves of what is lent. Assumes nothing.
use Rattle.test_writer.proofs.Results.{read_is}
use Rattle.test_writer.proofs.judging.judged_reading.Goals as goal

pub returns : goal.returns
returns c =
    let o = rw (c.lend_words.ensures, c.lend_bytes.ensures) at c.read_back-said.ensures in
    rw (read_is o) at c.compared_reading.ensures
