-- Any two results that meet the contract of a public function are equal, over that contract as the
-- toolchain reads it, and so is what they leave behind. Assumes nothing.
use Rattle.std.proofs.Common.{◌≡◌, ℕ, List, sym, ◌∙◌}
use Rattle.decimal.specs.Decimal.{Put}
use Rattle.decimal.proofs.put_decimal.Reads as decimal
use Rattle.decimal.proofs.put_number.Reads as number
use Rattle.decimal.proofs.put_text.Reads as text

pub put-unique : {xs b l l' : List ℕ} {at r r' : ℕ} → Put xs at b r l → Put xs at b r' l' → (r ≡ r') × (l ≡ l')
put-unique p q = (p.ends ∙ sym q.ends, p.memory ∙ sym q.memory)

pub put-decimal-unique : (κs : _) (a : _) (r r' : _) (x x' : _) → decimal.Post κs a r x → decimal.Post κs a r' x' →
    (r ≡ r') × (x.0.now ≡ x'.0.now)
put-decimal-unique κs a r r' x x' p q = put-unique p q

pub put-number-unique : (κs : _) (a : _) (r r' : _) (x x' : _) → number.Post κs a r x → number.Post κs a r' x' →
    (r ≡ r') × (x.0.now ≡ x'.0.now)
put-number-unique κs a r r' x x' p q = put-unique p q

pub put-text-unique : (κs : _) (a : _) (r r' : _) (x x' : _) → text.Post κs a r x → text.Post κs a r' x' →
    (r ≡ r') × (x.0.now ≡ x'.0.now)
put-text-unique κs a r r' x x' p q = put-unique p q
