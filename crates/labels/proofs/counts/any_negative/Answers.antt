-- `any_negative` finds a length below 0. Assumes nothing.
use Rattle.std.proofs.Common.{arith, rules, tests, ◌≡◌, refl, ap, ◌∙◌, Bool, ◌||◌, ℤ, List, [], ◌∷◌}
use Rattle.std.specs.List.{list_any}
use Rattle.std.proofs.Math.Seq.{take-length}
use Rattle.std.proofs.lemmas.List.{take_rest}
use Rattle.std.proofs.lemmas.Iterator.{YieldsList-from_slice}
use Rattle.std.proofs.lemmas.Iterator.Search.{any_from_yields_List}
use Rattle.labels.specs.Glyphs.{below0, any_negative}
use Rattle.labels.proofs.counts.any_negative.Goals as goal

any-below0 : (ls : List ℤ) → list_any below0 ls ≡ any_negative ls
unfolding any_negative
any-below0 [] = refl
any-below0 (n ∷ ls) = ap (λ (b : Bool). below0 n || b) (any-below0 ls)

pub returns : goal.returns
returns c =
    let ls = c.args.lengths.now in
    any_from_yields_List below0 _ _ _ c.any.ensures.ran
    (YieldsList-from_slice ls (grind (arith, take_rest ls, take-length ls)))
    (λ x b q k. search (rules, tests)) ∙
    any-below0 ls
