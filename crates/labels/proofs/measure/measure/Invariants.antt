-- `measure` surveys the glyphs first to last, and adds up their words as long as they fit. Assumes
-- nothing.
use Rattle.std.proofs.Common.{◌*◌}
use Rattle.labels.proofs.Measuring.{Measuring}
use Rattle.labels.proofs.measure.measure.Given as goal

abbrev pub invariant-loop-glyph : goal.invariant-loop-glyph
invariant-loop-glyph l = Measuring l.lengths l.commands l.masks l.room l.taken l.glyph (2 * l.glyph) l.word l.byte
