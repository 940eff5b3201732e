-- `store_numbers` lays the four numbers and the four counts. Assumes nothing.
use Rattle.std.proofs.Common.{rules, arith, ◌≡◌, [], ◌∷◌, map, w32, FitsSigned, to_z, of_z}
use mir.Facts.{to_z-of_z}
use Rattle.fixed.specs.Integers.{bits_of, signed}
use Rattle.words.specs.Bytes.{laid}
use Rattle.writer.specs.ToWrite.{number_words}
use Rattle.writer.proofs.Laying.{signed-bits}
use Rattle.writer.proofs.parts.store_numbers.Goals as goal

pub returns : goal.returns
unfolding signed number_words
returns c =
    let p = c.args.params in
    let f = c.requires.1 in
    let scale : FitsSigned w32 p.blue_scale.bits = search rules in
    let shift : FitsSigned w32 p.blue_shift.bits = search rules in
    let fuzz : FitsSigned w32 p.blue_fuzz.bits = search rules in
    let group : FitsSigned w32 p.language_group = search rules in
    let e : c.store_words.new.bytes ≡ laid c.args.script.now 8
    (map bits_of (to_z w32 (of_z w32 p.blue_scale.bits) ∷ to_z w32 (of_z w32 p.blue_shift.bits) ∷
    to_z w32 (of_z w32 p.blue_fuzz.bits) ∷ to_z w32 (of_z w32 p.language_group) ∷ signed p.blues.count ∷
    signed p.other_blues.count ∷ signed p.family_blues.count ∷ signed p.family_other_blues.count ∷
    [])) = c.store_words.ensures in
    rw (
      to_z-of_z scale,
      to_z-of_z shift,
      to_z-of_z fuzz,
      to_z-of_z group,
      signed-bits p.blues.count (omega (arith, f.blues)),
      signed-bits p.other_blues.count (omega (arith, f.others)),
      signed-bits p.family_blues.count (omega (arith, f.family)),
      signed-bits p.family_other_blues.count (omega (arith, f.family_others)),
    ) at e
