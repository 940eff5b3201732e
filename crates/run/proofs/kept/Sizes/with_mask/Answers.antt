-- `Sizes::with_mask` meets its contract: whether all bytes are those given is what the hints ask of the
-- masks. Assumes nothing.
use mathlib.Core.Path.{refl, sym, ap, ◌∙◌}
use mathlib.Core.Bool.{◌&&◌, and-true, and-false}
use Rattle.std.proofs.Common.{◌≡◌, Bool, true, false, List, [], ◌∷◌, ℕ, ℤ, rules, nat_eq}
use lib.Pointwise.{pointwise}
use Rattle.stems.specs.declared.mask.HintMask.{HintMask}
use Rattle.stems.specs.Mask.{of_bytes, same_bytes}
use Rattle.stems.proofs.Masks.{same-is}
use Rattle.zones.specs.declared.state.HintState.{HintState}
use Rattle.hints.specs.declared.hints.Hints.{Hints}
use Rattle.hints.specs.Hints.{with_mask, mask_by}
use Rattle.run.specs.declared.kept.Sizes.{Sizes}
use Rattle.run.specs.Kept.{Kept}
use Rattle.run.proofs.kept.Sizes.with_mask.Goals.{then-self, else-self}
use Rattle.run.proofs.kept.Sizes.with_mask.Goals as goal

equal : (xs ys : List ℕ) → pointwise nat_eq xs ys ≡ same_bytes xs ys
unfolding same_bytes
equal [] [] = refl
equal [] (y ∷ ys) = refl
equal (x ∷ xs) [] = refl
equal (x ∷ xs) (y ∷ ys) = ap (λ (b : Bool). nat_eq x y && b) (equal xs ys)

module _ (st : HintState) (h : Hints) (z : Sizes) (bs : List ℕ) (given : HintMask) (ns is ms : List ℤ)
    (k : Kept st h z bs ns is ms) where
  abbrev with_valid : Bool → Sizes
  with_valid v = record { stems = z.stems; initial = z.initial; map = z.map; based = z.based; valid = v }

  -- by whether the masks are the same
  by : (t v : Bool) → same_bytes given.bytes bs ≡ t → v ≡ z.valid && t →
      Kept st (mask_by t given h) (with_valid v) given.bytes ns is ms
  by true v e f = rw (f ∙ and-true z.valid)
      record {
        stems = k.stems;
        mask = k.mask ∙ sym (same-is given (of_bytes bs) e);
        initial = k.initial;
        map = k.map;
      }
  by false v e f = rw (f ∙ and-false z.valid)
      record {
        stems = k.stems;
        mask = refl;
        initial = k.initial;
        map = record {
          lines = record { tags = k.map.lines.tags; edges = k.map.lines.edges };
          fits = k.map.fits;
          order = k.map.order;
          scale = k.map.scale;
          valid = refl;
        };
      }

  asked : (t : Bool) → same_bytes given.bytes bs ≡ t → with_mask given h ≡ mask_by t given h
  unfolding with_mask
  asked t e = rw (k.mask, e)

  kept : (v : Bool) → v ≡ z.valid && same_bytes given.bytes bs →
      Kept st (with_mask given h) (with_valid v) given.bytes ns is ms
  kept v f = rw (asked (same_bytes given.bytes bs) refl) (by (same_bytes given.bytes bs) v refl f)

pub returns : goal.returns
returns c = record {
  twelve = search rules;
  kept = λ st h ns is ms k. kept st h c.args.self c.args.mask.now c.args.given ns is ms k c.if-self.valid
      (elim c.if-self.branch [
        | then-self w ↦ w.valid-is ∙ w.eq-valid.ensures ∙ equal c.args.given.bytes c.args.mask.now ∙
            rw w.if-self.true
        | else-self w ↦ w.valid-is ∙ rw w.if-self.false
      ]);
}
