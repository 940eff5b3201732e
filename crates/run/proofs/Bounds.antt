-- How many words a run writes: no more than there is room for, and at most ten for each call.
-- Assumes nothing.
use mathlib.Core.Path.{◌≡◌, refl, ap}
use mathlib.Core.Bool.{Bool, true, false}
use mathlib.Core.List.{List, [], ◌∷◌}
use Prim.Native.Nat.{ℕ, suc, ◌-◌, ◌*◌, ◌≤◌}
use native.Mathlib.Omega.{arith}
use lib.Dec.{leb}
use lib.IntN.{ℤ}
use lib.ListN.{length, length-append}
use borrow.Author.Tests.{leb-true}
use Rattle.zones.specs.declared.state.HintState.{HintState}
use Rattle.hints.specs.declared.drawing.Drawing.{Drawing}
use Rattle.hints.specs.Calls.{Call, stem, hint_mask, counter_mask, clear, close, draw, hints_of, words_for, next_of}
use Rattle.hints.proofs.Steps.{words-short}
use Rattle.commands.specs.Commands.{CommandAt}
use Rattle.run.specs.Room.{Step, Fitted, fit_by, fitted}
use Rattle.run.specs.Run.{Asked, calls_of, steps_of}

-- no more than there is room for
pub within-room : (room : ℕ) (ts : List Step) → length (fitted room ts).words ≤ room
unfolding fitted
within-room room [] = omega arith
within-room room (t ∷ ts) = by (leb (length t.words) room) refl (within-room (room - length t.words) ts)
  where
    by : (b : Bool) → leb (length t.words) room ≡ b →
        length (fitted (room - length t.words) ts).words ≤ room - length t.words →
        length (fit_by b t (fitted (room - length t.words) ts)).words ≤ room
    by true e h =
        omega (
          arith,
          leb-true (length t.words) room e,
          length-append t.words (fitted (room - length t.words) ts).words,
        )
    by false e h = omega arith

-- a call writes at most ten words
pub ten : (st : HintState) (d : Drawing) (c : Call) → length (words_for st d c) ≤ 10
ten st d (stem min max) = omega arith
ten st d (hint_mask m) = omega arith
ten st d (counter_mask m) = omega arith
ten st d clear = omega arith
ten st d close = omega arith
ten st d (draw p) = words-short (hints_of st d.hints (draw p)).map st.scale d.pen p

-- and so many calls at most ten times as many
pub ten-each : (st : HintState) (d : Drawing) (cs : List Asked) (room : ℕ) →
    length (fitted room (steps_of st d cs)).words ≤ 10 * length cs
unfolding fitted steps_of
ten-each st d [] room = omega arith
ten-each st d (c ∷ cs) room =
    by (leb (length ws) room) (ten st d c.call) (fitted (room - length ws) (steps_of st (next_of st d c.call) cs))
    (ten-each st (next_of st d c.call) cs (room - length ws))
  where
    ws : List ℤ
    ws = words_for st d c.call

    t : Step
    t = record { place = c.place; words = ws }

    by : (b : Bool) → length ws ≤ 10 → (r : Fitted) → length r.words ≤ 10 * length cs →
        length (fit_by b t r).words ≤ 10 * suc (length cs)
    by true h r k = omega (arith, length-append ws r.words)
    by false h r k = omega arith

-- commands are as many calls
pub calls-many : (s : List ℕ) (from : ℕ) (cs : List CommandAt) → length (calls_of s from cs) ≡ length cs
unfolding calls_of
calls-many s from [] = refl
calls-many s from (c ∷ cs) = ap suc (calls-many s from cs)
