-- `store_commands` stores the piece at a word, and goes on behind it. Assumes nothing.
use Rattle.std.proofs.Common.{arith, sym, ap, ◌∙◌, ◌+◌, ◌<◌, length, map, length-append}
use lib.ListN.{length-map}
use Rattle.fixed.specs.Integers.{bits_of}
use Rattle.words.specs.Bytes.{laid}
use Rattle.words.proofs.Laid.{laid_none}
use Rattle.commands.specs.Commands.{operands_of}
use Rattle.writer.specs.Pieces.{given_operands, piece_at, piece_words, bytes_taken, started}
use Rattle.writer.specs.ToWrite.{command_words}
use Rattle.writer.proofs.PieceFaults.{next_piece}
use Rattle.writer.proofs.Walking.{sound-first, sound-there, left, left-all, left-none, left-first, turned}
use Rattle.writer.proofs.parts.store_commands.Goals as goal

pub loop-at-init : goal.loop-at-init
loop-at-init c =
    let cs = c.args.commands.now in
    let e = left-all cs in
    record {
      stored = ap (laid c.args.script.now c.args.first) (sym e);
      sound = sound-first cs c.requires.1;
      room = omega (arith, c.requires.0, ap length e);
    }

pub store_piece-requires : goal.store_piece-requires
store_piece-requires c =
    let cs = c.args.commands.now in
    let ws = map bits_of cs in
    let l = c.loop-at in
    let there : l.at < length ws = omega (arith, length-map cs bits_of) in
    let piece = piece_words (started l.start (piece_at ws l.at)) in
    let rest = left ws (next_piece ws l.at) (l.start + bytes_taken (piece_at ws l.at)) in (
      omega (arith, length-map cs bits_of, sound-there ws l.at l.start there l.invariant.sound),
      omega (arith, l.invariant.room, ap length (left-first ws l.at l.start there), length-append piece rest),
    )

pub loop-at-preserved : goal.loop-at-preserved
loop-at-preserved c =
    let cs = c.args.commands.now in
    let ws = map bits_of cs in
    let l = c.loop-at in
    let there : l.at < length ws = omega (arith, length-map cs bits_of) in
    let k = c.given_natural-kind.ensures.0 in
    let next = turned ws l.at l.start there l.invariant.sound l.script c.store_piece.new.script
    (laid c.args.script.now c.args.first (command_words cs)) l.to c.operands.result c.given_operands.result
    c.bytes_taken-start.result (c.operands.ensures.0 ∙ ap operands_of k)
    (c.given_operands.ensures.0 ∙ ap given_operands k) c.bytes_taken-start.ensures.0 c.store_piece.ensures
    l.invariant.room l.invariant.stored in
    record { stored = next.0; sound = next.1.0; room = omega (arith, next.1.1, c.store_piece.auto.script) }

pub returns : goal.returns
returns c =
    let cs = c.args.commands.now in
    let l = c.loop-at in
    let e = left-none (map bits_of cs) l.at l.start (omega (arith, length-map cs bits_of)) in
    sym (laid_none l.script l.to) ∙ ap (laid l.script l.to) (sym e) ∙ l.invariant.stored
