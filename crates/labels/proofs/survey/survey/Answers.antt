-- `survey` reads a glyph's commands first to last: the first fault ends it, and a call that is drawn
-- adds its words. Assumes nothing.
use Rattle.std.proofs.Common.{arith, ◌≡◌, sym, ap, subst, ◌∙◌, length, ℕ}
use Rattle.std.proofs.lemmas.Result.{err_from_is_err_and}
use Rattle.pen.specs.declared.counting.Trail.{Trail}
use Rattle.words.specs.Words.{given_word}
use Rattle.commands.specs.declared.reading.Read.{Read}
use Rattle.commands.specs.Commands.{read_at, next_at}
use Rattle.commands.proofs.Laws.{next-is}
use Rattle.labels.specs.Glyphs.{Glyph, glyph}
use Rattle.labels.proofs.Surveys.{Surveying, surveying, stopped, passed_on, drawn-on, surveyed}
use Rattle.labels.proofs.survey.survey.Goals as goal

-- the command that was read, and the word behind it
module _ (g : Glyph) (at : ℕ) {r : Read} (e : r ≡ read_at (given_word g.words) (length g.words) at) where
  read : (read_at (given_word g.words) (length g.words) at).command ≡ r.command
  read = sym (ap (λ (r : Read). r.command) e)

  moved : r.next ≡ next_at (given_word g.words) at
  moved = ap (λ (r : Read). r.next) e ∙ next-is _ _ _

pub loop-at-init : goal.loop-at-init
loop-at-init c =
    let g = glyph c.args.words.now c.args.masks.now in
    (subst (λ (t : Trail). Surveying g t 0 0) (sym c.new-trail.ensures) (surveying g), omega arith)

pub returns-in_err-fault_in : goal.returns-in_err-fault_in
returns-in_err-fault_in c =
    let p = err_from_is_err_and c.from_residual.result c.from_residual.ensures.1 in
    let g = glyph c.args.words.now c.args.masks.now in
    let k = read g c.loop-at.at c.read_given-read.ensures in
    rw (p.1, p.2) (
      sym (stopped c.loop-at.invariant.0 c.loop-at-test.true k c.fault_in.ensures c.in_err-fault_in.was),
      tt,
    )

pub loop-at-smaller-in_default : goal.loop-at-smaller-in_default
loop-at-smaller-in_default c =
    let g = glyph c.args.words.now c.args.masks.now in
    omega (arith, moved g c.loop-at.at c.read_given-read.ensures, c.loop-at-test.true)

pub loop-at-preserved-in_default : goal.loop-at-preserved-in_default
loop-at-preserved-in_default c =
    let g = glyph c.args.words.now c.args.masks.now in
    let at = c.loop-at.at in
    let k = read g at c.read_given-read.ensures ∙ c.in_default.is in
    rw (moved g at c.read_given-read.ensures) (
      passed_on c.loop-at.invariant.0 c.loop-at-test.true k (rw c.in_default.is at c.fault_in.ensures)
          c.in_ok-fault_in.was,
      c.loop-at.invariant.1,
    )

pub loop-at-smaller : goal.loop-at-smaller
loop-at-smaller c =
    let g = glyph c.args.words.now c.args.masks.now in
    omega (arith, moved g c.loop-at.at c.read_given-read.ensures, c.loop-at-test.true)

pub loop-at-preserved : goal.loop-at-preserved
loop-at-preserved c =
    let g = glyph c.args.words.now c.args.masks.now in
    let at = c.loop-at.at in
    let k = read g at c.read_given-read.ensures ∙ c.in-Draw.is in
    rw (moved g at c.read_given-read.ensures)
    (drawn-on c.loop-at.invariant.0 c.loop-at-test.true k (rw c.in-Draw.is at c.fault_in.ensures) c.in_ok-fault_in.was
    c.count-counted.ensures.0)

pub returns : goal.returns
returns c = (sym (surveyed c.loop-at.invariant.0 (omega arith)), c.loop-at.invariant.1)
