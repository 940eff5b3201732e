-- What a call says and leaves is its whole result. Assumes nothing.
use Rattle.std.proofs.Common.{◌≡◌, ℕ, List, ℤ}
use Rattle.writer.specs.Refusals.{WriteAnswer}
use Rattle.writer.specs.Refusals.{WriteResult, Wrote}
use Rattle.readback.specs.declared.reading_back.ReadBack.{ReadBack}
use Rattle.readback.specs.ReadBack.{ReadResult, ReadAs}
use Rattle.test_writer.specs.Judging.{writing, reading}

pub wrote-is : {o : WriteResult} {answer : WriteAnswer} {left : List ℕ} → Wrote o answer left → writing answer left ≡ o
wrote-is w = rw (w.answer, w.memory)

pub read_is : {o : ReadResult} {said : ReadBack} {commands : List ℤ} {masks : List ℕ} → ReadAs o said commands masks →
    reading said commands masks ≡ o
read_is r = rw (r.answer, r.words, r.bytes)
