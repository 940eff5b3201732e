-- Four words and ten for each command are always room enough. Assumes nothing.
use mathlib.Core.Path.{◌≡◌}
use mathlib.Core.List.{List, [], ◌∷◌}
use Prim.Native.Nat.{ℕ, ◌*◌, ◌≤◌}
use native.Mathlib.Omega.{arith}
use lib.IntN.{ℤ}
use lib.ListN.{length, length-append}
use Rattle.std.specs.Prelude.{Ok}
use Rattle.zones.specs.declared.state.HintState.{HintState}
use Rattle.hints.specs.declared.drawing.Drawing.{Drawing}
use Rattle.hints.specs.Calls.{words_for, next_of, new_drawing}
use Rattle.words.specs.Words.{raw_at, number_at}
use Rattle.run.specs.Room.{words_along}
use Rattle.run.specs.Run.{Asked, steps_of}
use Rattle.run.proofs.Bounds.{ten, calls-many}
use Rattle.script.specs.Script.{commands_in, calls_in, steps_in, zones_of, script_of}
use Rattle.theorems.specs.Demand1.{Checked, Ample}
use Rattle.theorems.proofs.Demand1.{gives}

-- the record words of some calls are at most ten for each
along-short : (st : HintState) (d : Drawing) (cs : List Asked) → length (words_along (steps_of st d cs)) ≤ 10 * length
    cs
unfolding steps_of
along-short st d [] = omega arith
along-short st d (c ∷ cs) =
    omega (
      arith,
      ten st d c.call,
      along-short st (next_of st d c.call) cs,
      length-append (words_for st d c.call) (words_along (steps_of st (next_of st d c.call) cs)),
    )

-- a script that passes all tests is answered OK in such a room
pub ample : (s : List ℕ) (out : List ℤ) → Checked s → Ample s out → (script_of s out).answer ≡ Ok tt
unfolding steps_in
ample s out c room =
    gives s out (Ok tt) (record {
      checked = c;
      room =
          omega (
            arith,
            room,
            along-short (zones_of s) (new_drawing (number_at (raw_at s) 1)) (calls_in s),
            calls-many s (4 * raw_at s 6) (commands_in s),
          );
    })
