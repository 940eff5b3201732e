-- `check_room` answers by the tests of room, which stand behind a script's own. Assumes nothing.
use Rattle.std.proofs.Common.{arith, ◌≡◌, ◌≤◌, ℕ, List, length}
use Rattle.script.proofs.Passed.{passed}
use Rattle.words.specs.Words.{raw_at}
use Rattle.readback.specs.ReadBack.{script_pieces, shortened}
use Rattle.readback.proofs.Accepted.{whole-commands}
use Rattle.readback.proofs.ReadRooms.{few_words, few_bytes, enough}
use Rattle.readback.proofs.reading_back.check_room.Goals as goal

pub natural-first-requires : goal.natural-first-requires
natural-first-requires c = omega (arith, (passed c.args.script.now c.requires).fine.enough)

pub natural-count-requires : goal.natural-count-requires
natural-count-requires c = omega (arith, (passed c.args.script.now c.requires).fine.enough)

pub count_short-requires : goal.count_short-requires
count_short-requires c =
    whole-commands c.args.script.now c.requires c.natural-first.ensures.0 c.natural-count.ensures.0

pub natural-requires : goal.natural-requires
natural-requires c = omega (arith, (passed c.args.script.now c.requires).fine.enough)

pub returns-then-words-count_short : goal.returns-then-words-count_short
returns-then-words-count_short c =
    let n = rw (c.natural-first.ensures.0, c.natural-count.ensures.0) at c.count_short.ensures in
    few_words c.args.script.now c.args.words c.args.bytes c.requires (omega (arith, n, c.if-words-count_short.true))

pub returns-then-bytes-natural : goal.returns-then-bytes-natural
returns-then-bytes-natural c =
    let n = rw (c.natural-first.ensures.0, c.natural-count.ensures.0) at c.count_short.ensures in
    few_bytes c.args.script.now c.args.words c.args.bytes c.requires
    (omega (arith, n, c.if-words-count_short.false)) (omega (arith, c.natural.ensures.0, c.if-bytes-natural.true))

pub returns : goal.returns
returns c =
    let n = rw (c.natural-first.ensures.0, c.natural-count.ensures.0) at c.count_short.ensures in
    enough c.args.script.now c.args.words c.args.bytes c.requires
    (omega (arith, n, c.if-words-count_short.false)) (omega (arith, c.natural.ensures.0, c.if-bytes-natural.false))
