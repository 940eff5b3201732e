-- One turn of a search for what differs, and its ends. Assumes nothing.
use Rattle.std.proofs.Common.{◌≡◌, ℕ, suc, ◌+◌, ◌-◌, ◌<◌, ◌≤◌, Bool, true, false, cond, ap, ◌∙◌, arith}
use Rattle.test_tables.specs.Differing.{first_from}

module _ (agrees : ℕ → Bool) (i n : ℕ) where
  -- a search that has not ended looks at place i
  looks : i < n → first_from agrees i (n - i) ≡ cond (agrees i) (first_from agrees (suc i) (n - suc i)) i
  unfolding first_from
  looks h =
      let e : n - i ≡ suc (n - suc i) = omega arith in
      ap (first_from agrees i) e

  -- goes on if that agrees
  pub passed : i < n → agrees i ≡ true → first_from agrees i (n - i) ≡ first_from agrees (i + 1) (n - (i + 1))
  passed h e =
      let s : suc i ≡ i + 1 = omega arith in
      looks h ∙ rw (e, s)

  -- and ends there if it does not
  pub stopped : i < n → agrees i ≡ false → first_from agrees i (n - i) ≡ i
  stopped h e = looks h ∙ rw e

  -- it ends too where nothing is left
  pub ended : n ≤ i → first_from agrees i (n - i) ≡ i
  unfolding first_from
  ended h =
      let e : n - i ≡ 0 = omega arith in
      ap (first_from agrees i) e
