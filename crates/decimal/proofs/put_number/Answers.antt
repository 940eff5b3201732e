-- `put_number` has the room that the digits take. Assumes nothing.
use Rattle.decimal.proofs.put_number.Goals as goal

pub returns : goal.returns
returns c = c.put_digits.ensures c.requires
