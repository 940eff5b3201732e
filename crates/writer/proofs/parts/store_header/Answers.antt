-- `store_header` lays the eight words. Assumes nothing.
use Rattle.std.proofs.Common.{rules, arith, ◌≡◌, ◌+◌, [], ◌∷◌, map, pos, w32, FitsSigned, to_z, of_z}
use mir.Facts.{to_z-of_z}
use Rattle.fixed.specs.Integers.{low_bits, bits_of, signed}
use Rattle.words.specs.Bytes.{laid}
use Rattle.writer.proofs.Laying.{signed-bits}
use Rattle.writer.proofs.parts.store_header.Goals as goal

pub returns : goal.returns
unfolding signed low_bits
returns c =
    let a = c.args in
    let fits : FitsSigned w32 a.scale.bits = search rules in
    let e : c.store_words.new.bytes ≡ laid a.script.now 0
    (map bits_of (pos 1 ∷ to_z w32 (of_z w32 a.scale.bits) ∷ pos 8 ∷ signed a.params ∷ signed (8 + a.params) ∷
    signed a.commands ∷ signed (8 + a.params + a.commands) ∷ signed a.bytes ∷ [])) =
    c.store_words.ensures in
    rw (
      to_z-of_z fits,
      signed-bits a.params (omega arith),
      signed-bits (8 + a.params) (omega arith),
      signed-bits a.commands (omega arith),
      signed-bits (8 + a.params + a.commands) (omega arith),
      signed-bits a.bytes (omega arith),
    ) at e
