-- `HintParams::kept` meets its contract: the blues are read into no zones, then at most five other
-- blues. Assumes nothing.
use Rattle.std.proofs.Common.{◌≡◌, ◌≤◌, length, take, true, min, arith, rules}
use Rattle.zones.specs.Zones.{read_in}
use Rattle.zones.proofs.Keep.{first-count, kept-is}
use Rattle.zones.proofs.state.HintParams.kept.Goals as goal

pub read-requires-2 : goal.read-requires-2
read-requires-2 c =
    let blues = c.args.self.blues in
    let seven : length blues.pairs ≡ 7 = search rules in
    let some : c.read.result.count ≤ 7 =
    rw (c.read.ensures, c.none.ensures, c.least.ensures) (first-count blues c.args.self.other_blues seven)
    in (omega arith, omega arith)

pub returns : goal.returns
returns c =
    let blues = c.args.self.blues in
    let others = c.args.self.other_blues in
    let seven : length blues.pairs ≡ 7 = search rules in
    let said : c.read-2.result ≡ read_in true c.read.result (take (min others.count 5) others.pairs) = search rules in
    rw (said, c.read.ensures, c.none.ensures, c.least.ensures) (kept-is blues others seven)
