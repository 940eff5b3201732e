-- `read_blues` reads pairs one by one: none at first, and one more each turn. Assumes nothing.
use Rattle.std.proofs.Common.{◌≡◌, ◌+◌, ◌-◌, ◌*◌, ◌<◌, ◌≤◌, List, [], ◌∷◌, ◌++◌, ℕ, zero, suc, length, arith}
use Rattle.std.proofs.Common.{refl, sym, ap, subst, ◌∙◌, add-one, append_assoc}
use Rattle.std.proofs.lemmas.List.{take-replicate, drop-replicate}
use lib.ListN.{take, drop, set, replicate}
use lib.Seq.{set_at, length-take-le}
use Rattle.zones.specs.declared.blues.Blue.{Blue}
use Rattle.zones.specs.Zones.{no_blue}
use Rattle.words.specs.Words.{raw_at}
use Rattle.header.specs.Params.{pair_at, pairs_from, blues_at}
use Rattle.header.proofs.params.read_blues.Goals as goal

pairs-length : (w : ℕ → ℕ) (at n : ℕ) → length (pairs_from w at n) ≡ n
unfolding pairs_from
pairs-length w at zero = refl
pairs-length w at (suc n) = ap suc (pairs-length w (at + 2) n)

-- the last pair of one more
pairs-more : (w : ℕ → ℕ) (at n : ℕ) → pairs_from w at (suc n) ≡ pairs_from w at n ++ pair_at w (at + 2 * n) ∷ []
unfolding pairs_from
pairs-more w at zero = let e : at + 2 * zero ≡ at = omega arith in rw e
pairs-more w at (suc n) =
    let e : at + 2 * suc n ≡ at + 2 + 2 * n = omega arith in
    rw (e, pairs-more w (at + 2) n)

-- n pairs from a word on, zeros behind them up to m
abbrev first : (ℕ → ℕ) → ℕ → ℕ → ℕ → List Blue
first w at m n = pairs_from w at n ++ replicate (m - n) no_blue

first_more : (w : ℕ → ℕ) (at m n : ℕ) → n < m →
    set (first w at m n) n (pair_at w (at + 2 * n)) ≡ first w at m (n + 1)
first_more w at m n h =
    let left : m - n ≡ suc (m - (n + 1)) = omega arith in
    rw left (set_at (pairs_from w at n) no_blue _ (pair_at w (at + 2 * n)) n (pairs-length w at n) ∙
    sym (rw (add-one n, pairs-more w at n, append_assoc)))

-- so many of the seven zeros that the list begins with
many : (n : ℕ) → n ≤ 7 → length (take n (replicate 7 no_blue)) ≡ n
many n h = length-take-le n (replicate 7 no_blue) h

all_read : (ps : List Blue) (n : ℕ) →
    (ps ++ replicate (n - n) no_blue) ++ drop n (replicate 7 no_blue) ≡ ps ++ replicate (7 - n) no_blue
all_read ps n =
    let z : n - n ≡ 0 = omega arith in
    rw z (append_assoc ps [] (drop n (replicate 7 no_blue)) ∙
    ap (λ (l : List Blue). ps ++ l) (drop-replicate n 7 no_blue))

pub loop-i-init : goal.loop-i-init
unfolding pairs_from
loop-i-init c =
    let e : c.args.count - 0 ≡ c.args.count = omega arith in
    rw e (take-replicate c.args.count 7 no_blue c.requires.0)

pub loop-i-preserved : goal.loop-i-preserved
loop-i-preserved c =
    let i = c.loop-i.i in
    let h : i < c.args.count = subst (λ (n : ℕ). i < n) (many _ c.requires.0) c.loop-i-test.true in
    rw (c.pair.ensures, c.loop-i.invariant) (first_more _ _ c.args.count i h)

pub returns : goal.returns
unfolding blues_at
returns c =
    let i = c.loop-i.i in
    let n = c.args.count in
    let w = raw_at c.args.script.now in
    let most : i ≤ n = subst (λ (m : ℕ). i ≤ m) (many _ c.requires.0) c.loop-i.auto.i-end in
    let least : n ≤ i = subst (λ (m : ℕ). m ≤ i) (many _ c.requires.0) c.loop-i-test.false in
    let all : i ≡ n = omega arith in
    rw (c.loop-i.invariant, all)
    (ap (λ (l : List Blue). record { pairs = l; count = n }) (all_read (pairs_from w c.args.at n) n))
