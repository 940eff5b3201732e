-- The way through a list of tests for what differs. Assumes nothing.
use Rattle.std.proofs.Common.{◌≡◌, Option, None, true, false, List, [], ◌∷◌, refl}
use Rattle.words.specs.Rows.{Row, first_or}
use Rattle.test_writer.specs.declared.judging.Difference.{Difference}

module _ (r : Row (Option Difference)) (rs : List (Row (Option Difference))) where
  -- a test that holds gives the verdict
  pub hit : r.fault ≡ true → r.said ≡ first_or None (r ∷ rs)
  unfolding first_or
  hit e = rw e

  -- and one that does not leaves it to those after it
  pub past : {v : Option Difference} → r.fault ≡ false → v ≡ first_or None rs → v ≡ first_or None (r ∷ rs)
  unfolding first_or
  past e h = rw e h

-- none is left
pub none : ◌≡◌ {A = Option Difference} None (first_or None [])
unfolding first_or
none = refl
