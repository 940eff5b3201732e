-- `size_at` gives a length's bits, and they tell whether it is negative. Assumes nothing.
use Rattle.std.proofs.Common.{rules, arith, ◌≡◌, sym, ap, ◌∙◌, suc, ◌-◌, ◌%◌, ℤ, pos, negsuc, get_or, w32, FitsSigned}
use mir.Facts.{to_z-of_z}
use borrow.Author.Tests.{le-leb, lt-leb}
use Rattle.fixed.specs.Integers.{low_bits, bits_of}
use Rattle.fixed.proofs.Bits.{low-lt}
use Rattle.words.specs.Words.{negative}
use Rattle.labels.specs.Glyphs.{below0}
use Rattle.labels.proofs.counts.size_at.Goals as goal

-- 32 bits of a number below 0 are 2^31 or more
sign : (z : ℤ) → FitsSigned w32 z → below0 z ≡ negative (bits_of z)
unfolding low_bits
sign (pos n) h = sym (lt-leb 2147483648 (n % 4294967296) (omega (arith, h)))
sign (negsuc n) h = sym (le-leb 2147483648 (4294967296 - suc (n % 4294967296)) (omega (arith, h)))

pub returns : goal.returns
returns c =
    let z = get_or c.args.lengths.now c.args.i (pos 0) in
    let f : FitsSigned w32 z = search rules in
    let e : c.bits_of.result ≡ bits_of z = c.bits_of.ensures ∙ ap bits_of (to_z-of_z f) in
    (e, (omega (arith, e, low-lt 32 z), sign z f ∙ ap negative (sym e)))
