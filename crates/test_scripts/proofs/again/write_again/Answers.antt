-- What the reader leaves is what the writer takes, and what that leaves is compared. Assumes nothing.
use Rattle.std.proofs.Common.{ap, sym, length-take-le}
use Rattle.words.specs.Answers.{number_of}
use Rattle.words.proofs.Answers.{err-refuses, err-ok}
use Rattle.test_scripts.proofs.Outcomes.{words-within, bytes-within, not-read, read-and-written}
use Rattle.test_scripts.proofs.again.write_again.Goals as goal

pub returns-then-is_err : goal.returns-then-is_err
returns-then-is_err c =
    not-read _ _ _ c.read_back-back.ensures _
    (err-refuses c.read_back-back.result.answer c.is_err.ensures.value c.if-is_err.true)

pub slice_bounds-write_script-end : goal.slice_bounds-write_script-end
slice_bounds-write_script-end c = words-within _ _ _ c.read_back-back.ensures

pub slice_bounds-write_script-end-2 : goal.slice_bounds-write_script-end-2
slice_bounds-write_script-end-2 c = sym (length-take-le _ _ (words-within _ _ _ c.read_back-back.ensures))

pub slice_bounds-write_script-end-3 : goal.slice_bounds-write_script-end-3
slice_bounds-write_script-end-3 c = bytes-within _ _ _ c.read_back-back.ensures

pub slice_bounds-write_script-end-4 : goal.slice_bounds-write_script-end-4
slice_bounds-write_script-end-4 c = sym (length-take-le _ _ (bytes-within _ _ _ c.read_back-back.ensures))

pub returns : goal.returns
returns c =
    read-and-written _ _ _ c.read_back-back.ensures _
    (ap number_of (err-ok c.read_back-back.result.answer c.is_err.ensures.value c.if-is_err.false))
    c.write_script-said.ensures c.compared.ensures
