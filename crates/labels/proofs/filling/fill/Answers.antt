-- `fill` sets one glyph more behind the records before it, and at the end all. Assumes nothing.
use Rattle.std.proofs.Common.{arith, ◌≡◌, sym, ap, subst, ◌∙◌, ◌+◌, ◌*◌, ◌<◌, map, length, take, drop}
use borrow.Author.Tests.{leb-false}
use Rattle.zones.specs.declared.state.HintState.{HintState}
use Rattle.zones.specs.Numbers.{state_in}
use Rattle.zones.proofs.Listing.{state-is}
use Rattle.labels.specs.Glyphs.{Glyph, glyph, glyphs_of, records_of}
use Rattle.labels.specs.Labels.{header_of}
use Rattle.labels.specs.Measured.{size_of, Settable, GlyphSet}
use Rattle.labels.proofs.Walking.{walk, first-positive, words-there, bytes-there, lent-glyph}
use Rattle.labels.proofs.Laying.{laid_from}
use Rattle.labels.proofs.Rooms.{sum-least}
use Rattle.labels.proofs.Filled.{size_is, filling, laid-result, filled, settable, onward-filling}
use Rattle.labels.proofs.filling.fill.Goals as goal

pub put_two-requires : goal.put_two-requires
put_two-requires c =
    let a = c.args in
    let gs = glyphs_of a.lengths.now a.commands.now a.masks.now in
    let w = walk a.lengths.now a.commands.now a.masks.now c.requires.counted in
    let least = sum-least (header_of (length gs)) (map size_of gs) in
    (omega (arith, c.requires.fits), (omega arith, omega (arith, w.few)))

pub loop-glyph-init : goal.loop-glyph-init
loop-glyph-init c =
    let a = c.args in
    filling a.lengths.now a.commands.now a.masks.now (state_in c.gauge-gauge.result c.list.new.zones)
    c.put_two.new.out (rw c.put_two.auto.out c.requires)

pub overflow_add-words_end : goal.overflow_add-words_end
overflow_add-words_end c =
    omega (arith, c.well_formed.0, c.loop-glyph.invariant.walks.of_words, c.size_at.ensures.1.0)

pub overflow_add-bytes_end : goal.overflow_add-bytes_end
overflow_add-bytes_end c =
    omega (
      arith,
      c.well_formed.1.0,
      c.loop-glyph.invariant.walks.of_bytes,
      c.size_at-in-loop-glyph.ensures.1.0,
    )

pub slice_bounds-fill_glyph-end : goal.slice_bounds-fill_glyph-end
slice_bounds-fill_glyph-end c =
    bytes-there c.loop-glyph.invariant.walks (omega arith) c.size_at.ensures.0
    c.size_at-in-loop-glyph.ensures.0

pub offset_bounds-commands-word : goal.offset_bounds-commands-word
offset_bounds-commands-word c = omega (arith, c.well_formed.0, c.loop-glyph.invariant.walks.of_words)

pub slice_bounds-fill_glyph-end-in-loop-glyph : goal.slice_bounds-fill_glyph-end-in-loop-glyph
slice_bounds-fill_glyph-end-in-loop-glyph c =
    words-there c.loop-glyph.invariant.walks (omega arith) c.size_at.ensures.0
    c.size_at-in-loop-glyph.ensures.0

pub fill_glyph-words-requires : goal.fill_glyph-words-requires
fill_glyph-words-requires c =
    let l = c.loop-glyph in
    let m = l.invariant in
    let there : 2 * l.glyph < length c.args.lengths.now = omega arith in
    let n = c.size_at.ensures in
    let ready = settable m there n.0 c.size_at-in-loop-glyph.ensures.0
    (leb-false 2147483648 _ (sym n.1.1 ∙ (first-positive m.walks there).0)) in
    let lent = lent-glyph c.args.commands.now c.args.masks.now l.word c.size_at.result l.byte
    c.size_at-in-loop-glyph.result in
    subst (λ (g : Glyph). Settable g (2 + 2 * l.glyph) l.next (length l.out)) (sym lent) ready

pub overflow_add-next-in-loop-glyph : goal.overflow_add-next-in-loop-glyph
overflow_add-next-in-loop-glyph c =
    let l = c.loop-glyph in
    let m = l.invariant in
    let there : 2 * l.glyph < length c.args.lengths.now = omega arith in
    let n = c.size_at.ensures in
    let st = state_in c.gauge-gauge.result c.list.new.zones in
    let here = glyph (take c.size_at.result (drop l.word c.args.commands.now))
    (take c.size_at-in-loop-glyph.result (drop l.byte c.args.masks.now)) in
    let ready = settable m there n.0 c.size_at-in-loop-glyph.ensures.0
    (leb-false 2147483648 _ (sym n.1.1 ∙ (first-positive m.walks there).0)) in
    let lent = lent-glyph c.args.commands.now c.args.masks.now l.word c.size_at.result l.byte
    c.size_at-in-loop-glyph.result in
    let set : GlyphSet st here (2 + 2 * l.glyph) l.next l.out c.fill_glyph-words.result c.fill_glyph-words.new.out =
    subst (λ (g : Glyph). GlyphSet st g (2 + 2 * l.glyph) l.next l.out c.fill_glyph-words.result
    c.fill_glyph-words.new.out) lent c.fill_glyph-words.ensures in
    omega (arith, ready.word, set.size, size_is st here)

pub loop-glyph-preserved : goal.loop-glyph-preserved
loop-glyph-preserved c =
    let a = c.args in
    let l = c.loop-glyph in
    let there : 2 * l.glyph < length a.lengths.now = omega arith in
    let st = state_in c.gauge-gauge.result c.list.new.zones in
    let here = glyph (take c.size_at.result (drop l.word a.commands.now))
    (take c.size_at-in-loop-glyph.result (drop l.byte a.masks.now)) in
    let lent = lent-glyph a.commands.now a.masks.now l.word c.size_at.result l.byte c.size_at-in-loop-glyph.result in
    let set : GlyphSet st here (2 + 2 * l.glyph) l.next l.out c.fill_glyph-words.result c.fill_glyph-words.new.out =
    subst (λ (g : Glyph). GlyphSet st g (2 + 2 * l.glyph) l.next l.out c.fill_glyph-words.result
    c.fill_glyph-words.new.out) lent c.fill_glyph-words.ensures in
    let next : 2 * (l.glyph + 1) ≡ 2 * l.glyph + 2 = omega arith in
    rw (next, set.memory)
    (onward-filling l.invariant there c.size_at.ensures.0 c.size_at-in-loop-glyph.ensures.0 set.size)

pub returns : goal.returns
returns c =
    let a = c.args in
    let m = c.loop-glyph.invariant in
    let gs = glyphs_of a.lengths.now a.commands.now a.masks.now in
    let header = 2 + length a.lengths.now in
    filled m (omega (arith, m.walks.pairs)) ∙
    ap (λ (st : HintState). laid_from 2 header (map (records_of st) gs) c.put_two.new.out)
    (state-is a.state _ _ c.gauge-gauge.ensures c.list.ensures) ∙
    ap (laid_from 2 header (map (records_of a.state) gs)) c.put_two.ensures ∙
    laid-result a.lengths.now a.commands.now a.masks.now a.state a.out.now c.requires
