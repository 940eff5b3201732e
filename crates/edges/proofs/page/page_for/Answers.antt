-- `page_for` puts that an argument is no number, or the page for it. Assumes nothing.
use Rattle.std.proofs.Common.{sym}
use Rattle.edges.specs.Page.{asked_page}
use Rattle.edges.proofs.page.page_for.Goals as goal

pub returns-then-not-is_number : goal.returns-then-not-is_number
unfolding asked_page
returns-then-not-is_number c = rw (sym c.is_number.ensures, c.if-not-is_number.true) c.put_text.ensures

pub returns : goal.returns
unfolding asked_page
returns c =
    rw (sym c.is_number.ensures, c.if-not-is_number.false) (rw c.number_in.ensures at c.page.ensures)
