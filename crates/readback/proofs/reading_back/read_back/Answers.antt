-- `read_back` answers a script and leaves both buffers as its definition says, whichever way it ends.
-- Assumes nothing.
use Rattle.std.proofs.Common.{◌≡◌, ◌<◌, sym, ◌∙◌, length}
use Rattle.words.specs.Answers.{number_of}
use Rattle.words.proofs.Answers.{refusal, err-refuses, err-ok}
use Rattle.readback.proofs.ReadRooms.{by-fault, read-refused, read-given}
use Rattle.readback.proofs.reading_back.read_back.Goals as goal

pub returns-then-is_err : goal.returns-then-is_err
returns-then-is_err c =
    let a = c.args in
    let e = c.check_script-fault.ensures in
    let h : 0 < number_of c.check_script-fault.result = err-refuses _ c.is_err.ensures.value c.if-is_err.true in
    rw c.refused.ensures
    (read-refused a.script.now a.commands.now a.masks.now c.check_script-fault.result
    (e ∙ sym (by-fault a.script.now (length a.commands.now) (length a.masks.now) (refusal (rw e at h)))) h)

-- a script without a fault passes all tests
pub check_room-room-requires : goal.check_room-room-requires
check_room-room-requires c = sym c.check_script-fault.ensures ∙ err-ok _ c.is_err.ensures.value c.if-is_err.false

pub returns-then-is_err-2 : goal.returns-then-is_err-2
returns-then-is_err-2 c =
    let a = c.args in
    rw c.refused-then-is_err-2.ensures
    (read-refused a.script.now a.commands.now a.masks.now c.check_room-room.result c.check_room-room.ensures
    (err-refuses _ c.is_err-2.ensures.value c.if-is_err-2.true))

-- and with room for all of it the tests of room too
pub copied-requires : goal.copied-requires
copied-requires c = sym c.check_room-room.ensures ∙ err-ok _ c.is_err-2.ensures.value c.if-is_err-2.false

pub returns : goal.returns
returns c =
    let a = c.args in
    let e = sym c.check_room-room.ensures ∙ err-ok _ c.is_err-2.ensures.value c.if-is_err-2.false in
    rw (read-given a.script.now a.commands.now a.masks.now e) c.copied.ensures
