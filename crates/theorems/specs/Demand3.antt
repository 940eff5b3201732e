-- Demand 3 of scripts: the drawings that a script's run goes through.
use Rattle.std.specs.Prelude.{◌≡◌, List, ◌++◌, ℕ}
use Rattle.zones.specs.declared.state.HintState.{HintState}
use Rattle.hints.specs.declared.drawing.Drawing.{Drawing}
use Rattle.hints.specs.Calls.{new_drawing}
use Rattle.words.specs.Words.{raw_at, number_at}
use Rattle.run.specs.Run.{Asked, drawing_after}
use Rattle.script.specs.Script.{zones_of}

-- the drawing before one of some calls, or after the last
pub record Along (st : HintState) (d : Drawing) (cs : List Asked) (e : Drawing) : Type 0 where
  pub before : List Asked
  pub after : List Asked
  pub split : cs ≡ before ++ after
  pub there : e ≡ drawing_after st d before

-- the drawings on the way of a script's new drawing through some of its calls
abbrev pub OnTheWay : List ℕ → List Asked → Drawing → Type 0
OnTheWay s cs e = Along (zones_of s) (new_drawing (number_at (raw_at s) 1)) cs e
