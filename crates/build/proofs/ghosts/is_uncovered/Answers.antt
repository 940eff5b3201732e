-- `is_uncovered` meets its contract, by its tests. Assumes nothing.
use Rattle.std.proofs.Common.{◌≡◌, true, ◌||◌, List, ℕ, ℤ, ◌-◌, ◌≤◌, sym, ap, ◌∙◌, true≢false, arith}
use borrow.Author.Tests.{ne_eqb}
use Rattle.fixed.specs.declared.Fixed.{Fixed}
use Rattle.fixed.specs.Fixed.{ZERO, less_f}
use Rattle.stems.specs.Lists.{height_in}
use Rattle.hintmap.specs.Lent.{map_in}
use Rattle.hintmap.proofs.Compared.{less-is}
use Rattle.hintmap.proofs.Lent.{map-len, read-height}
use Rattle.build.specs.Ghosts.{uncovered}
use Rattle.build.proofs.ghosts.is_uncovered.Goals as goal
use Rattle.build.proofs.ghosts.is_uncovered.Goals.{then-len-eq0, else-len-eq0}

-- the tests are of heights alone
module _ (ls : List ℤ) (ts : List ℕ) (n : ℕ) (s : Fixed) (h : n ≤ 96) where
  none : n ≡ 0 → uncovered (map_in ls ts n s) ≡ true
  unfolding uncovered
  none z = rw (map-len ls ts n h s, z)

  some : (n ≡ 0 → ⊥) →
      uncovered (map_in ls ts n s) ≡ (less_f ZERO (height_in ls 0) || less_f (height_in ls (n - 1)) ZERO)
  unfolding uncovered
  some z =
      rw (
        map-len ls ts n h s,
        ne_eqb n 0 z,
        read-height ls ts n h s 0 (omega arith),
        read-height ls ts n h s (n - 1) (omega arith),
      )

pub returns-then-lt : goal.returns-then-lt
returns-then-lt c =
    λ ts s. elim c.if-len-eq0.branch [
      | then-len-eq0 w ↦ c.if-lt.true ∙ sym (none _ ts _ s c.requires (omega (arith, w.if-len-eq0.true)))
      | else-len-eq0 w ↦
          let e = w.lt.ensures ∙ less-is ZERO w.height_at.result ∙ ap (less_f ZERO) w.height_at.ensures in
          let t = sym e ∙ sym w.value-is ∙ c.if-lt.true in
          c.if-lt.true ∙ sym (some _ ts _ s c.requires w.if-len-eq0.false ∙ rw t)
    ]

pub returns-else-lt : goal.returns-else-lt
returns-else-lt c =
    λ ts s. elim c.if-len-eq0.branch [
      | then-len-eq0 w ↦
          let z : c.args.len ≡ 0 = omega (arith, w.if-len-eq0.true) in
          absurd (true≢false (rw z at (sym w.value-is ∙ c.if-lt.false)))
      | else-len-eq0 w ↦
          let e = w.lt.ensures ∙ less-is ZERO w.height_at.result ∙ ap (less_f ZERO) w.height_at.ensures in
          let t = sym e ∙ sym w.value-is ∙ c.if-lt.false in
          let l = c.lt-else-lt.ensures ∙ less-is c.height_at-else-lt.result ZERO ∙
          ap (λ (x : Fixed). less_f x ZERO) c.height_at-else-lt.ensures in
          sym (some _ ts _ s c.requires w.if-len-eq0.false ∙ rw t (sym l))
    ]
