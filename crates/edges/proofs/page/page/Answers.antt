-- `page` puts the refusal of a script, or its map. Assumes nothing.
use Rattle.std.proofs.Common.{Err, sym, arith, ne_eqb}
use Rattle.words.specs.Answers.{number_of}
use Rattle.words.proofs.Answers.{numbered}
use Rattle.edges.specs.Page.{page_of}
use Rattle.edges.proofs.page.page.Goals as goal

pub returns-in-Err : goal.returns-in-Err
unfolding page_of
returns-in-Err c =
    let r = c.in-Err.refusal in
    rw (sym c.in-Err.ensures, ne_eqb (number_of (Err r)) 0 (λ e. omega (arith, numbered r))) c.put_refusal.ensures

pub returns : goal.returns
unfolding page_of
returns c = rw (sym c.in_default.ensures) (rw c.map_after.ensures at c.put_map.ensures)
