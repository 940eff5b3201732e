-- `put_two` stores two counts that words hold. Assumes nothing.
use Rattle.std.proofs.Common.{◌<◌, w32}
use mir.Facts.{to_z_pos}
use Rattle.labels.proofs.Laying.{two-stored}
use Rattle.labels.proofs.filling.put_two.Goals as goal

pub returns : goal.returns
returns c =
    let a : c.args.first < 2147483648 = c.requires.1.0 in
    let b : c.args.second < 2147483648 = c.requires.1.1 in
    rw (to_z_pos w32 a, to_z_pos w32 b) (two-stored c.args.out.now c.args.i _ _ c.requires.0)
