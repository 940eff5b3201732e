-- `put_stem` puts that there is no stem, or the digits of one. Assumes nothing.
use Rattle.std.proofs.Common.{◌≡◌, ℕ, Bool, cond, ◌++◌, ap, ne_eqb}
use Rattle.decimal.specs.Decimal.{number_text}
use Rattle.decimal.proofs.Putting.{put_both}
use Rattle.edges.specs.Page.{of_no_stem, of_stem, stem_text}
use Rattle.edges.proofs.line.put_stem.Goals as goal

-- the text where there is a stem
some : (n : ℕ) → (n ≡ 96 → ⊥) → stem_text n ≡ of_stem ++ number_text n
some n h = ap (λ (b : Bool). cond b of_no_stem (of_stem ++ number_text n)) (ne_eqb n 96 h)

pub returns : goal.returns
returns c =
    let n = c.args.stem in
    let e = some n c.if-stem-eq-SYNTHETIC.false in
    rw e (put_both _ _ of_stem (number_text n) (rw e at c.requires) c.put_text-next.ensures c.put_number.ensures)
