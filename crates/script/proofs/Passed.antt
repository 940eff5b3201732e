-- What a script that passes all tests has. Assumes nothing.
use mathlib.Core.Path.{◌≡◌, refl, ap, ◌∙◌}
use mathlib.Core.Bool.{Bool, true, false}
use mathlib.Core.List.{List, ◌++◌}
use Prim.Native.Nat.{ℕ, ◌*◌, ◌≤◌}
use native.Mathlib.Omega.{arith}
use lib.IntN.{ℤ}
use lib.ListN.{length, take, drop, length-drop}
use Rattle.std.specs.Prelude.{Ok}
use Rattle.fixed.specs.declared.Fixed.{Fixed}
use Rattle.zones.specs.State.{em_box, state_by, state_of}
use Rattle.hints.specs.declared.hints.Hints.{Hints}
use Rattle.hints.specs.Calls.{new_drawing}
use Rattle.words.specs.Words.{raw_at, number_at}
use Rattle.words.specs.Answers.{first_of}
use Rattle.words.proofs.Rows.{Refusing, both-refusing}
use Rattle.words.proofs.Answers.{both_ok}
use Rattle.header.specs.Header.{header_rows}
use Rattle.header.specs.Params.{param_rows, params_of, WholeParams}
use Rattle.header.proofs.Fine.{Fine, fine, whole, header-refusing, params-refusing}
use Rattle.commands.specs.Faults.{command_rows}
use Rattle.commands.proofs.Laws.{rows-refusing}
use Rattle.run.specs.Room.{fitted}
use Rattle.run.specs.Run.{steps_of, drawing_after, ending_of, ran_of, Runnable}
use Rattle.script.specs.Script.{commands_in, calls_in, check_rows, zones_of, map_at, steps_in}

-- every test of a script refuses
pub checks-refusing : (s : List ℕ) → Refusing (Ok tt) (check_rows s)
unfolding check_rows
checks-refusing s =
    let cs = command_rows (raw_at s 7) (commands_in s) in
    both-refusing (Ok tt) (header_rows s) (param_rows (raw_at s) ++ cs) (header-refusing s)
    (both-refusing (Ok tt) (param_rows (raw_at s)) cs (params-refusing s) (rows-refusing (raw_at s 7) (commands_in s)))

pub record Passed (s : List ℕ) : Type 0 where
  pub header : first_of (header_rows s) ≡ Ok tt
  pub params : first_of (param_rows (raw_at s)) ≡ Ok tt
  pub commands : first_of (command_rows (raw_at s 7) (commands_in s)) ≡ Ok tt
  pub fine : Fine s
  pub whole : WholeParams s

pub passed : (s : List ℕ) → first_of (check_rows s) ≡ Ok tt → Passed s
unfolding check_rows
passed s e =
    let h = both_ok (header_rows s) (param_rows (raw_at s) ++ command_rows (raw_at s 7) (commands_in s))
    (header-refusing s) e
    in
    let p = both_ok (param_rows (raw_at s)) (command_rows (raw_at s 7) (commands_in s)) (params-refusing s) h.1 in
    let f = fine s h.0 in
    record { header = h.0; params = p.0; commands = p.1; fine = f; whole = whole s f p.0 }

-- zones keep the scale that they are made at
zones-scale : (s : List ℕ) → (zones_of s).scale ≡ number_at (raw_at s) 1
unfolding zones_of state_of
zones-scale s = go (em_box (params_of (raw_at s)))
  where
    go : (em : Bool) → (state_by em (params_of (raw_at s)) (number_at (raw_at s) 1)).scale ≡ number_at (raw_at s) 1
    go true = refl
    go false = refl

-- the commands of such a script can be run
pub runnable : (s : List ℕ) → Passed s → (4 * raw_at s 5 ≤ length (drop (4 * raw_at s 4) s)) ×
    Runnable s (raw_at (drop (4 * raw_at s 4) s)) (raw_at s 4) (raw_at s 5) (4 * raw_at s 6)
runnable s p =
    let f = p.fine in (
      omega (arith, length-drop (4 * raw_at s 4) s, f.ends),
      record {
        short = omega (arith, f.ends, f.short);
        start = omega (arith, f.ends, f.short);
        bytes = raw_at s 7;
        inside = f.bytes;
        faultless = p.commands;
      },
    )

-- and their run is that of the script
pub ran : (s : List ℕ) (out : List ℤ) →
    ran_of (zones_of s) (calls_in s) out ≡ ending_of (fitted (length out) (steps_in s)) out
unfolding ran_of steps_in
ran s out =
    ap (λ (x : Fixed). ending_of (fitted (length out) (steps_of (zones_of s) (new_drawing x) (calls_in s))) out)
    (zones-scale s)

-- the map among the hints that their first k leave is that of the script
pub seen : (s : List ℕ) (k : ℕ) {h : Hints} →
    h ≡ (drawing_after (zones_of s) (new_drawing (zones_of s).scale) (take k (calls_in s))).hints → h.map ≡ map_at s k
unfolding map_at
seen s k e =
    ap (λ (h : Hints). h.map) e ∙
    ap (λ (x : Fixed). (drawing_after (zones_of s) (new_drawing x) (take k (calls_in s))).hints.map) (zones-scale s)
