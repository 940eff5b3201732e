-- Any two outcomes that meet the contract of a public function are equal, over that contract as the
-- toolchain reads it. Assumes nothing.
use Rattle.std.proofs.Common.{◌≡◌, ℕ, Bool, ℤ, sym, ◌∙◌}
use contract.Lifetimes.{Lfts}
use Rattle.fixed.specs.declared.Fixed.{Fixed}
use Rattle.fixed.proofs.bits_of.Reads as bits-of-reads
use Rattle.fixed.proofs.signed.Reads as signed-Reads
use Rattle.fixed.proofs.least.Reads as least-reads
use Rattle.fixed.proofs.Fixed.from_bits.Reads as from-bits-reads
use Rattle.fixed.proofs.Fixed.neg.Reads as neg-reads
use Rattle.fixed.proofs.Fixed.abs.Reads as abs-reads
use Rattle.fixed.proofs.Fixed.twice.Reads as twice-reads
use Rattle.fixed.proofs.Fixed.round.Reads as round-reads
use Rattle.fixed.proofs.Fixed.fract.Reads as fract-reads
use Rattle.fixed.proofs.Fixed.half.Reads as half-reads
use Rattle.fixed.proofs.Fixed.trunc.Reads as trunc-reads
use Rattle.fixed.proofs.Fixed.add.Reads as add_reads
use Rattle.fixed.proofs.Fixed.sub.Reads as sub-reads
use Rattle.fixed.proofs.Fixed.mul.Reads as mul-reads
use Rattle.fixed.proofs.Fixed.div.Reads as div-reads
use Rattle.fixed.proofs.Fixed.midpoint.Reads as midpoint-reads
use Rattle.fixed.proofs.Fixed.min.Reads as min-reads
use Rattle.fixed.proofs.Fixed.max.Reads as max-reads
use Rattle.fixed.proofs.Fixed.mul_div.Reads as mul-div-reads
use Rattle.fixed.proofs.Fixed.less.Reads as less-reads
use Rattle.fixed.proofs.Fixed.at_most.Reads as at-most-reads
use Rattle.fixed.proofs.Fixed.same.Reads as same_Reads

pub bits-of-unique : (κs : Lfts 0) (z : ℤ) (r r' : ℕ) → bits-of-reads.Post κs (z, tt) r (z, tt) →
    bits-of-reads.Post κs (z, tt) r' (z, tt) → r ≡ r'
bits-of-unique κs z r r' p q = p ∙ sym q

pub signed-unique : (κs : Lfts 0) (n : ℕ) (r r' : ℤ) → signed-Reads.Post κs (n, tt) r (n, tt) →
    signed-Reads.Post κs (n, tt) r' (n, tt) → r ≡ r'
signed-unique κs n r r' p q = p ∙ sym q

pub least-unique : (κs : Lfts 0) (a b r r' : ℕ) → least-reads.Post κs (a, (b, tt)) r (a, (b, tt)) →
    least-reads.Post κs (a, (b, tt)) r' (a, (b, tt)) → r ≡ r'
least-unique κs a b r r' p q = p ∙ sym q

pub from-bits-unique : (κs : Lfts 0) (z : ℤ) (r r' : Fixed) → from-bits-reads.Post κs (z, tt) r (z, tt) →
    from-bits-reads.Post κs (z, tt) r' (z, tt) → r ≡ r'
from-bits-unique κs z r r' p q = p ∙ sym q

module _ (κs : Lfts 0) (a : Fixed) (r r' : Fixed) where
  pub neg_unique : neg-reads.Post κs (a, tt) r (a, tt) → neg-reads.Post κs (a, tt) r' (a, tt) → r ≡ r'
  neg_unique p q = p ∙ sym q

  pub abs-unique : abs-reads.Post κs (a, tt) r (a, tt) → abs-reads.Post κs (a, tt) r' (a, tt) → r ≡ r'
  abs-unique p q = p ∙ sym q

  pub twice-unique : twice-reads.Post κs (a, tt) r (a, tt) → twice-reads.Post κs (a, tt) r' (a, tt) → r ≡ r'
  twice-unique p q = p ∙ sym q

  pub round-unique : round-reads.Post κs (a, tt) r (a, tt) → round-reads.Post κs (a, tt) r' (a, tt) → r ≡ r'
  round-unique p q = p ∙ sym q

  pub fract-unique : fract-reads.Post κs (a, tt) r (a, tt) → fract-reads.Post κs (a, tt) r' (a, tt) → r ≡ r'
  fract-unique p q = p ∙ sym q

  pub half-unique : half-reads.Post κs (a, tt) r (a, tt) → half-reads.Post κs (a, tt) r' (a, tt) → r ≡ r'
  half-unique p q = p ∙ sym q

  pub trunc-unique : trunc-reads.Post κs (a, tt) r (a, tt) → trunc-reads.Post κs (a, tt) r' (a, tt) → r ≡ r'
  trunc-unique p q = p ∙ sym q

module _ (κs : Lfts 0) (a b : Fixed) (r r' : Fixed) where
  pub add-unique : add_reads.Post κs (a, (b, tt)) r (a, (b, tt)) → add_reads.Post κs (a, (b, tt)) r' (a, (b, tt)) →
      r ≡ r'
  add-unique p q = p ∙ sym q

  pub sub-unique : sub-reads.Post κs (a, (b, tt)) r (a, (b, tt)) → sub-reads.Post κs (a, (b, tt)) r' (a, (b, tt)) →
      r ≡ r'
  sub-unique p q = p ∙ sym q

  pub mul-unique : mul-reads.Post κs (a, (b, tt)) r (a, (b, tt)) → mul-reads.Post κs (a, (b, tt)) r' (a, (b, tt)) →
      r ≡ r'
  mul-unique p q = p ∙ sym q

  pub div-unique : div-reads.Post κs (a, (b, tt)) r (a, (b, tt)) → div-reads.Post κs (a, (b, tt)) r' (a, (b, tt)) →
      r ≡ r'
  div-unique p q = p ∙ sym q

  pub midpoint-unique : midpoint-reads.Post κs (a, (b, tt)) r (a, (b, tt)) →
      midpoint-reads.Post κs (a, (b, tt)) r' (a, (b, tt)) → r ≡ r'
  midpoint-unique p q = p ∙ sym q

  pub min-unique : min-reads.Post κs (a, (b, tt)) r (a, (b, tt)) → min-reads.Post κs (a, (b, tt)) r' (a, (b, tt)) →
      r ≡ r'
  min-unique p q = p ∙ sym q

  pub max-unique : max-reads.Post κs (a, (b, tt)) r (a, (b, tt)) → max-reads.Post κs (a, (b, tt)) r' (a, (b, tt)) →
      r ≡ r'
  max-unique p q = p ∙ sym q

module _ (κs : Lfts 0) (a b c : Fixed) (r r' : Fixed) where
  pub mul-div-unique : mul-div-reads.Post κs (a, (b, (c, tt))) r (a, (b, (c, tt))) →
      mul-div-reads.Post κs (a, (b, (c, tt))) r' (a, (b, (c, tt))) → r ≡ r'
  mul-div-unique p q = p ∙ sym q

module _ (κs : Lfts 0) (a b : Fixed) (r r' : Bool) where
  pub less-unique : less-reads.Post κs (a, (b, tt)) r (a, (b, tt)) → less-reads.Post κs (a, (b, tt)) r' (a, (b, tt)) →
      r ≡ r'
  less-unique p q = p ∙ sym q

  pub at-most-unique : at-most-reads.Post κs (a, (b, tt)) r (a, (b, tt)) →
      at-most-reads.Post κs (a, (b, tt)) r' (a, (b, tt)) → r ≡ r'
  at-most-unique p q = p ∙ sym q

  pub same-unique : same_Reads.Post κs (a, (b, tt)) r (a, (b, tt)) → same_Reads.Post κs (a, (b, tt)) r' (a, (b, tt)) →
      r ≡ r'
  same-unique p q = p ∙ sym q
