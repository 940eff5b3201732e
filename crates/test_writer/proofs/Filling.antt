-- One turn of a loop that fills a buffer. Assumes nothing.
use Rattle.std.proofs.Common.{◌≡◌, ℕ, ◌+◌, ◌<◌, List, [], ◌∷◌, ◌++◌, length, take, set, ap, ◌∙◌, add-one}
use Rattle.std.proofs.Common.{take-suc-set}
use Rattle.test_writer.specs.Lending.{filled}

module _ {A : Type 0} (f : ℕ → A) (out : List A) (i : ℕ) where
  -- a store fills one place more
  pub filled_more : (x : A) → x ≡ f i → i < length out → take i out ≡ filled f i →
      take (i + 1) (set out i x) ≡ filled f (i + 1)
  unfolding filled
  filled_more x e h p =
      rw (add-one, take-suc-set out i x h)
      (ap (λ (l : List A). l ++ (x ∷ [])) p ∙ ap (λ (y : A). filled f i ++ (y ∷ [])) e)
