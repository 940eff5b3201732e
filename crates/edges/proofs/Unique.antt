-- Any two outcomes that meet the contract of a function that others of the crate call are equal,
-- over that contract as the toolchain reads it: the result, and every byte that was lent. Assumes
-- nothing.
use mathlib.Core.Path.{◌≡◌, sym, ◌∙◌}
use Rattle.decimal.proofs.Unique.{put-unique}
use Rattle.edges.proofs.argument.is_number.Reads as is_number
use Rattle.edges.proofs.argument.number_in.Reads as number_in
use Rattle.edges.proofs.counts.put_refusal.Reads as refusal
use Rattle.edges.proofs.counts.put_summary.Reads as summary
use Rattle.edges.proofs.line.put_end.Reads as end
use Rattle.edges.proofs.line.put_line.Reads as line
use Rattle.edges.proofs.page.page.Reads as page
use Rattle.edges.proofs.page.page_for.Reads as page-for

pub is-number-unique : (κs : _) (a : _) (r r' : _) (x x' : _) → is_number.Post κs a r x → is_number.Post κs a r' x' →
    r ≡ r'
is-number-unique κs a r r' x x' p q = p ∙ sym q

pub number-in-unique : (κs : _) (a : _) (r r' : _) (x x' : _) → number_in.Post κs a r x → number_in.Post κs a r' x' →
    r ≡ r'
number-in-unique κs a r r' x x' p q = p ∙ sym q

pub put-refusal-unique : (κs : _) (a : _) (r r' : _) (x x' : _) → refusal.Post κs a r x → refusal.Post κs a r' x' →
    (r ≡ r') × (x.0.now ≡ x'.0.now)
put-refusal-unique κs a r r' x x' p q = put-unique p q

pub put-summary-unique : (κs : _) (a : _) (r r' : _) (x x' : _) → summary.Post κs a r x → summary.Post κs a r' x' →
    (r ≡ r') × (x.0.now ≡ x'.0.now)
put-summary-unique κs a r r' x x' p q = put-unique p q

pub put-end-unique : (κs : _) (a : _) (r r' : _) (x x' : _) → end.Post κs a r x → end.Post κs a r' x' →
    (r ≡ r') × (x.0.now ≡ x'.0.now)
put-end-unique κs a r r' x x' p q = put-unique p q

pub put-line-unique : (κs : _) (a : _) (r r' : _) (x x' : _) → line.Post κs a r x → line.Post κs a r' x' →
    (r ≡ r') × (x.0.now ≡ x'.0.now)
put-line-unique κs a r r' x x' p q = put-unique p q

pub page-unique : (κs : _) (a : _) (r r' : _) (x x' : _) → page.Post κs a r x → page.Post κs a r' x' →
    (r ≡ r') × (x.1.1.0.now ≡ x'.1.1.0.now)
page-unique κs a r r' x x' p q = put-unique p q

pub page-for-unique : (κs : _) (a : _) (r r' : _) (x x' : _) → page-for.Post κs a r x → page-for.Post κs a r' x' →
    (r ≡ r') × (x.1.1.0.now ≡ x'.1.1.0.now)
page-for-unique κs a r r' x x' p q = put-unique p q
