-- The first `i` places hold the stems. Assumes nothing.
use Rattle.std.proofs.Common.{◌≡◌, ℕ, ◌<◌, length, get_or}
use Rattle.stems.specs.Lists.{stem_in}
use Rattle.stems.proofs.Places.{zero_stem}
use Rattle.stems.proofs.edge.Stems.list.Given as goal

abbrev pub invariant-loop-i : goal.invariant-loop-i
invariant-loop-i l =
    (length l.stems ≡ 480) × ((j : ℕ) → j < l.i → get_or l.fn.self.list j zero_stem ≡ stem_in l.stems j)
