-- Laws of a turn of a run of commands: what each kind of command makes of the drawing, the words
-- and the commands that are left. Assumes nothing.
use mathlib.Core.Path.{◌≡◌, refl, sym, ap}
use mathlib.Core.Bool.{Bool, true, false}
use mathlib.Core.List.{List, ◌∷◌, ◌++◌}
use Prim.Native.Nat.{ℕ, ◌+◌, ◌≤◌, ◌<◌}
use native.Mathlib.Omega.{arith}
use lib.IntN.{ℤ}
use lib.ListN.{take, drop}
use Rattle.std.specs.Prelude.{Ok, Err}
use Rattle.zones.specs.declared.state.HintState.{HintState}
use Rattle.pen.specs.declared.strokes.Pen.{Pen}
use Rattle.pen.specs.Strokes.{new_pen}
use Rattle.hints.specs.declared.hints.Hints.{Hints}
use Rattle.pen.specs.declared.strokes.Path.{Path}
use Rattle.pen.specs.declared.drawn.Drawn.{Drawn}
use Rattle.hints.specs.Hints.{new_hints, ready_of}
use Rattle.hints.specs.Path.{has_point, stroke_by}
use Rattle.hints.specs.Calls.{hints_of, still, stroke_of}
use Rattle.hints.specs.Calls.{new_drawing}
use Rattle.pen.proofs.Drew.{DrewWords, DrewNothing}
use Rattle.words.specs.declared.answer.Refusal.TheVariants.{NoRoom}
use Rattle.words.proofs.Answers.{says}
use Rattle.commands.specs.declared.reading.Marking.{Marking}
use Rattle.commands.specs.declared.reading.Marking.TheVariants.{Bad, Stem, Mask, Counter, Clear, Close}
use Rattle.commands.specs.declared.reading.Command.{Command}
use Rattle.commands.specs.declared.reading.Command.TheVariants.{Mark, Draw}
use Rattle.commands.specs.Commands.{read_at, next_at, commands_of}
use Rattle.run.specs.Room.{Step}
use Rattle.run.specs.Run.{mark_call, call_of, calls_of, steps_of, ran_of, Ended, Runnable, wants_map, is_close}
use Rattle.run.proofs.Reading.{calls_at, calls-start, calls-first, calls-none, Sound, sound, sound-behind}
use Rattle.run.proofs.Filling.{begun, following, Stopped}
use Rattle.run.proofs.Calls.{Standing, standing, marked, readied, drew, denied, finished}
use Rattle.words.specs.Answers.{Answer}

-- what writes nothing leaves the pen as it is
pub mark-still : (st : HintState) (h : Hints) (pen : Pen) (s : List ℕ) (from : ℕ) (m : Marking) →
    stroke_of st h pen (mark_call s from m) ≡ still pen
mark-still st h pen s from Bad = refl
mark-still st h pen s from (Stem min max) = refl
mark-still st h pen s from (Mask start len) = refl
mark-still st h pen s from (Counter start len) = refl
mark-still st h pen s from Clear = refl
mark-still st h pen s from Close = refl

-- a close leaves the hints as they are
pub close-idle : (st : HintState) (h : Hints) (s : List ℕ) (from : ℕ) (m : Marking) → is_close m ≡ true →
    hints_of st h (mark_call s from m) ≡ h
close-idle st h s from Bad e = refl
close-idle st h s from (Stem min max) e = cc
close-idle st h s from (Mask start len) e = cc
close-idle st h s from (Counter start len) e = cc
close-idle st h s from Clear e = cc
close-idle st h s from Close e = refl

-- ---- how a run of commands stands
module _ (st : HintState) (s : List ℕ) (w : ℕ → ℕ) (first n from : ℕ) where
  unfoldable pub all_steps : List Step
  all_steps = steps_of st (new_drawing st.scale) (calls_of s from (commands_of first w n))

  pub record Going (out₀ : List ℤ) (h : Hints) (pen : Pen) (next at : ℕ) (out : List ℤ) : Type 0 where
    pub stands : Standing st all_steps out₀ (calls_at s w first n from at) h pen next out
    pub sound : Sound s w first n from at

  -- before the first command
  pub going : Runnable s w first n from → (out : List ℤ) → Going out (new_hints st.scale) new_pen 0 0 out
  unfolding all_steps
  going r out =
      let e = ap (steps_of st (new_drawing st.scale)) (calls-start s w first n from) in
      record { stands = record { along = following e (begun all_steps out) }; sound = sound s w first n from r }

  -- where it ends is what a run gives
  abbrev pub Gives : List ℤ → Answer → ℕ → List ℤ → Type 0
  Gives out₀ answer next out =
      Ended (ran_of st (calls_of s from (commands_of first w n)) out₀)
      (record { answer = answer; words = next }) out

  gives : {out₀ : List ℤ} {answer : Answer} {next : ℕ} {out : List ℤ} → Stopped all_steps out₀ answer next out →
      Gives out₀ answer next out
  unfolding ran_of all_steps
  gives p = record { answer = says p.said; words = p.count; memory = p.left }

module _ {st : HintState} {s : List ℕ} {w : ℕ → ℕ} {first n from : ℕ} {out₀ : List ℤ} {h : Hints} {pen : Pen}
    {next at : ℕ} {out : List ℤ} (g : Going st s w first n from out₀ h pen next at out) where
  module _ (i : at < n) where
    -- the calls from the command at a word on
    calls : {c : Command} → (read_at w n at).command ≡ c →
        Standing st (all_steps st s w first n from) out₀ (record { place = first + at; call = call_of s from c } ∷
        calls_at s w first n from (next_at w at)) h pen next out
    calls e = standing (calls-first s w first n from i e) g.stands

    -- a command that writes nothing
    pub turn-mark : {m : Marking} → (read_at w n at).command ≡ Mark m →
        Going st s w first n from out₀ (hints_of st h (mark_call s from m)) pen next (next_at w at) out
    turn-mark {m} e =
        record { stands = marked (calls e) (mark-still st h pen s from m); sound = sound-behind g.sound i }

    -- a call that wants a map
    pub turn-ready : {path : Path} → (read_at w n at).command ≡ Draw path → has_point path ≡ true →
        Going st s w first n from out₀ (ready_of st h) pen next at out
    turn-ready e p =
        record { stands = standing (sym (calls-first s w first n from i e)) (readied (calls e) p); sound = g.sound }

    module _ {path : Path} (e : (read_at w n at).command ≡ Draw path)
        (u : wants_map h.map.is_valid path ≡ false) where
      -- a call that wrote its words
      pub turn-drew : {said : Drawn} {k : ℕ} {exit : List ℤ} →
          DrewWords (stroke_by h.map st.scale pen path) (drop next out) said k exit →
          Going st s w first n from out₀ h said.pen (next + k) (next_at w at) (take next out ++ exit)
      turn-drew d = record { stands = drew (calls e) u d; sound = sound-behind g.sound i }

      -- and one that did not
      pub turn-refused : {said : Drawn} {exit : List ℤ} →
          DrewNothing (stroke_by h.map st.scale pen path) pen (drop next out) said exit →
          Gives st s w first n from out₀ (Err (NoRoom (first + at))) next out
      turn-refused d = gives st s w first n from (denied (calls e) u d)

  -- after the last command
  pub turn-done : n ≤ at → Gives st s w first n from out₀ (Ok tt) next out
  turn-done i = gives st s w first n from (finished (standing (calls-none s w first n from i) g.stands))

-- ---- a map is made at most once for a call
abbrev pub unready : Bool → ℕ
unready true = 0
unready false = 1

pub unready-one : (b : Bool) → unready b ≤ 1
unready-one true = omega arith
unready-one false = omega arith

-- where a map is wanted, it is not valid and the call has points
pub wanted : (b : Bool) (path : Path) → wants_map b path ≡ true → (b ≡ false) × (has_point path ≡ true)
wanted true path e = (sym e, cc)
wanted false path e = (refl, e)
