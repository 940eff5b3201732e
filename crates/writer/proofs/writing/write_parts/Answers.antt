-- `write_parts` stores the parts one behind the other, which is the script. Assumes nothing.
use Rattle.std.proofs.Common.{arith, ◌+◌, ◌-◌, ◌*◌, length}
use Rattle.header.specs.Header.{padded}
use Rattle.writer.specs.ToWrite.{given}
use Rattle.writer.proofs.Sizes.{counted, parts-over}
use Rattle.writer.proofs.writing.write_parts.Goals as goal

pub overflow_mul-at : goal.overflow_mul-at
overflow_mul-at c =
    let a = c.args in
    let g = given a.scale a.params a.commands.now a.masks.now in
    let k = counted g _ _ c.count_params-count.ensures.0 c.count_masks.ensures.0 in
    omega (arith, k.size, c.requires.short)

pub overflow_add-size-2 : goal.overflow_add-size-2
overflow_add-size-2 c =
    let a = c.args in
    let g = given a.scale a.params a.commands.now a.masks.now in
    let k = counted g _ _ c.count_params-count.ensures.0 c.count_masks.ensures.0 in
    omega (arith, k.size, c.requires.short)

pub overflow_cast-words : goal.overflow_cast-words
overflow_cast-words c =
    let a = c.args in
    let g = given a.scale a.params a.commands.now a.masks.now in
    let k = counted g _ _ c.count_params-count.ensures.0 c.count_masks.ensures.0 in
    omega (arith, k.size, c.requires.short)

pub overflow_cast-masks : goal.overflow_cast-masks
overflow_cast-masks c =
    let a = c.args in
    let g = given a.scale a.params a.commands.now a.masks.now in
    let k = counted g _ _ c.count_params-count.ensures.0 c.count_masks.ensures.0 in
    omega (arith, k.size, c.requires.short)

pub store_header-requires : goal.store_header-requires
store_header-requires c =
    let a = c.args in
    let g = given a.scale a.params a.commands.now a.masks.now in
    let k = counted g _ _ c.count_params-count.ensures.0 c.count_masks.ensures.0 in (
      omega (arith, k.size, c.requires.there),
      (
        c.count_params-count.ensures.1,
        (omega (arith, k.size, c.requires.short), omega (arith, k.size, c.requires.short)),
      ),
    )

pub store_params-requires : goal.store_params-requires
store_params-requires c =
    let a = c.args in
    let g = given a.scale a.params a.commands.now a.masks.now in
    let k = counted g _ _ c.count_params-count.ensures.0 c.count_masks.ensures.0 in
    (omega (arith, k.size, k.params, c.requires.there, c.store_header.auto.script), c.requires.params)

pub store_commands-requires : goal.store_commands-requires
store_commands-requires c =
    let a = c.args in
    let g = given a.scale a.params a.commands.now a.masks.now in
    let k = counted g _ _ c.count_params-count.ensures.0 c.count_masks.ensures.0 in (
      omega (arith, k.size, k.words, c.requires.there, c.store_header.auto.script, c.store_params.auto.script),
      c.requires.commands,
    )

pub slice_bounds-store_masks-end : goal.slice_bounds-store_masks-end
slice_bounds-store_masks-end c =
    let a = c.args in
    let g = given a.scale a.params a.commands.now a.masks.now in
    let k = counted g _ _ c.count_params-count.ensures.0 c.count_masks.ensures.0 in
    omega (
      arith,
      k.size,
      c.requires.there,
      c.store_header.auto.script,
      c.store_params.auto.script,
      c.store_commands.auto.script,
    )

pub returns : goal.returns
returns c =
    let a = c.args in
    let g = given a.scale a.params a.commands.now a.masks.now in
    let k = counted g _ _ c.count_params-count.ensures.0 c.count_masks.ensures.0 in
    let at = 4 * (8 + c.count_params-count.result + (length a.commands.now + c.count_masks.result)) in (
      omega (arith, k.size),
      parts-over g a.script.now c.requires.there at (at + 4 * padded (length a.masks.now) - at)
          (rw (k.params, k.words) at c.store_header.ensures) c.store_params.ensures
          (rw k.params at c.store_commands.ensures) c.store_masks.ensures (omega (arith, k.params, k.words))
          (omega arith),
    )
