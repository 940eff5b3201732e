-- `copy_commands` places one piece more behind those that stand, and at the end all. Assumes nothing.
use Rattle.std.proofs.Common.{arith, sym, ap, ◌∙◌, ℕ, List, map}
use Rattle.fixed.specs.Integers.{signed}
use Rattle.words.specs.Words.{raw_at}
use Rattle.words.specs.Bytes.{placed}
use Rattle.words.proofs.Placing.{placed-start, placed-none}
use Rattle.readback.proofs.Shortened.{all_left, walk_start, walk-there, walk-room, walk-next, walk-placed, walk_end}
use Rattle.readback.proofs.Shortened.{nothing_left}
use Rattle.readback.proofs.copies.copy_commands.Goals as goal

pub loop-at-init : goal.loop-at-init
loop-at-init c =
    let a = c.args in
    let w = raw_at a.script.now in
    record {
      walks = walk_start w a.first a.n c.requires.0.whole;
      written = rw (all_left w a.first a.n) (placed-start a.commands.now _);
    }

pub copy_piece-requires : goal.copy_piece-requires
copy_piece-requires c =
    let a = c.args in
    let w = raw_at a.script.now in
    let p = c.loop-at.invariant.walks in (
      omega (arith, walk-there w a.first a.n p (omega arith), c.requires.0.there),
      omega (arith, walk-room w a.first a.n p (omega arith), c.requires.1),
    )

pub loop-at-preserved : goal.loop-at-preserved
loop-at-preserved c =
    let a = c.args in
    let w = raw_at a.script.now in
    let p = c.loop-at.invariant.walks in
    let k = c.natural-kind.ensures.0 in
    let g = c.given_operands.ensures.0 in
    let o = c.operands.ensures.0 in
    record {
      walks = walk-next w a.first a.n p (omega arith) k g o;
      written =
          rw c.copy_piece.ensures
          (walk-placed w a.first a.n p (omega arith) k g o c.loop-at.commands (omega (arith, c.requires.1)) ∙
          c.loop-at.invariant.written);
    }

pub returns : goal.returns
returns c =
    let a = c.args in
    let l = c.loop-at in
    let w = raw_at a.script.now in
    let none = nothing_left w a.first a.n l.at (omega arith) in (
      walk_end w a.first a.n l.invariant.walks (omega arith),
      sym (placed-none l.commands l.to) ∙ ap (λ (k : List ℕ). placed l.commands l.to (map signed k)) (sym none) ∙
          l.invariant.written,
    )
