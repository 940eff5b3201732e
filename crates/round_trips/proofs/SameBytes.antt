-- A script that 01's reader accepts, read back and written, is the same bytes exactly if its masks
-- lie end to end: both ways, as Again has them. The law stands in a file of its own, so that a wrong
-- statement of Again is read as one. Assumes nothing.
use mathlib.Core.Path.{◌≡◌}
use mathlib.Core.List.{List}
use Prim.Native.Nat.{ℕ, ◌≤◌}
use lib.ListN.{length}
use Rattle.std.specs.Prelude.{Ok}
use Rattle.words.specs.Answers.{first_of}
use Rattle.script.specs.Script.{check_rows}
use Rattle.round_trips.specs.RoundTrips.{Bytes, EndToEnd, WrittenAgain}
use Rattle.round_trips.proofs.Again.{written, end_to_end}

pub again : (s lent : List ℕ) → Bytes s → length s ≤ length lent → first_of (check_rows s) ≡ Ok tt →
    (EndToEnd s → WrittenAgain s lent) × (WrittenAgain s lent → EndToEnd s)
again s lent held room e = (written s held e lent room, end_to_end s held e lent room)
