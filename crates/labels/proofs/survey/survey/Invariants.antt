-- `survey`: the commands that are left have the first fault and the words that are not counted yet.
-- The measure is the words that are left. Assumes nothing.
use Rattle.std.proofs.Common.{◌-◌, ◌*◌, ◌≤◌, length}
use Rattle.labels.specs.Glyphs.{glyph}
use Rattle.labels.proofs.Surveys.{Surveying}
use Rattle.labels.proofs.survey.survey.Given as goal

abbrev pub invariant-loop-at : goal.invariant-loop-at
invariant-loop-at l = Surveying (glyph l.words l.masks) l.trail l.count l.at × (l.count ≤ 10 * length l.words)

abbrev pub decreases-loop-at : goal.decreases-loop-at
decreases-loop-at l = length l.words - l.at
