-- `fill` sets the glyphs first to last, each behind the records before it. Assumes nothing.
use Rattle.std.proofs.Common.{◌*◌}
use Rattle.zones.specs.Numbers.{state_in}
use Rattle.labels.proofs.Filled.{Filling}
use Rattle.labels.proofs.filling.fill.Given as goal

abbrev pub invariant-loop-glyph : goal.invariant-loop-glyph
invariant-loop-glyph l =
    Filling l.lengths l.commands l.masks (state_in l.gauge l.zones) l.initial.out l.next (2 * l.glyph) l.word l.byte
    l.out
