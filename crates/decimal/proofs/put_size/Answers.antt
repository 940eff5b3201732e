-- `put_size` puts the whole part and, if there is a rest, a point and its digits. Assumes nothing.
use Rattle.std.proofs.Common.{append-nil, eq-eqb, ne_eqb}
use Rattle.decimal.specs.Decimal.{size_text}
use Rattle.decimal.proofs.Putting.{in-room-both}
use Rattle.decimal.proofs.put_size.Goals as goal

pub returns-then-rest-eq0 : goal.returns-then-rest-eq0
unfolding size_text
returns-then-rest-eq0 c = rw (eq-eqb _ 0 c.if-rest-eq0.true, append-nil) c.put_digits-point.ensures

pub returns : goal.returns
unfolding size_text
returns c =
    rw (ne_eqb _ 0 c.if-rest-eq0.false)
    (in-room-both c.put_digits-point.ensures (in-room-both c.put_byte-next.ensures c.put_fraction.ensures))
