-- Lists of a map's length are lent with no edge in them. Assumes nothing.
use Rattle.hintmap.proofs.Lent.{none_lent}
use Rattle.test_maps.proofs.maps.put_stems.Goals as goal

pub loop-i-init : goal.loop-i-init
loop-i-init c = none_lent _ _ c.requires.0
