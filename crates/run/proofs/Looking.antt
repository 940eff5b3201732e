-- Laws of a look at the hints that commands leave, a command at a time. The drawing that
-- they leave has a pen too, of which nothing is asked. Assumes nothing.
use mathlib.Core.Path.{◌≡◌, sym, ap, ◌∙◌}
use mathlib.Core.List.{List}
use Prim.Native.Nat.{ℕ, suc, ◌≤◌, ◌<◌}
use lib.ListN.{take}
use lib.Seq.{take-nil}
use Rattle.zones.specs.declared.state.HintState.{HintState}
use Rattle.pen.specs.declared.strokes.Pen.{Pen}
use Rattle.pen.specs.Strokes.{new_pen}
use Rattle.hints.specs.declared.hints.Hints.{Hints}
use Rattle.hints.specs.Hints.{new_hints}
use Rattle.hints.specs.Calls.{new_drawing, hints_of, stroke_of}
use Rattle.commands.specs.declared.reading.Command.{Command}
use Rattle.commands.specs.Commands.{read_at, next_at, commands_of}
use Rattle.run.specs.Run.{call_of, calls_of, drawing_after, Runnable}
use Rattle.run.proofs.Calls.{drawing_of}
use Rattle.run.proofs.Reading.{calls_at, calls-start, calls-first, calls-none, Sound, sound, sound-behind}

module _ (st : HintState) (s : List ℕ) (w : ℕ → ℕ) (first n from commands : ℕ) where
  -- the hints after the first so many commands
  abbrev pub asked : Hints
  asked =
      (drawing_after st (new_drawing st.scale) (take commands (calls_of s from (commands_of first w n)))).hints

  -- the hints here, and as many of the calls from word at on as are left, give those that are asked
  pub record Looking (h : Hints) (at left : ℕ) : Type 0 where
    pub sound : Sound s w first n from at
    pub pen : Pen
    pub whole : (drawing_after st (drawing_of h pen) (take left (calls_at s w first n from at))).hints ≡ asked

  -- before the first command
  pub looking : Runnable s w first n from → {left : ℕ} → left ≡ commands → Looking (new_hints st.scale) 0 left
  looking r l =
      record { sound = sound s w first n from r; pen = new_pen; whole = rw (l, ← calls-start s w first n from) }

module _ {st : HintState} {s : List ℕ} {w : ℕ → ℕ} {first n from commands : ℕ} {h : Hints} {at left : ℕ}
    (g : Looking st s w first n from commands h at left) where
  -- behind a command, whose call leaves hints k
  pub turn : at < n → {m : ℕ} → left ≡ suc m → {c : Command} → (read_at w n at).command ≡ c → {k : Hints} →
      hints_of st h (call_of s from c) ≡ k → Looking st s w first n from commands k (next_at w at) m
  unfolding drawing_after
  turn i {m} l {c} e q =
      let pen' = (stroke_of st h g.pen (call_of s from c)).pen in
      record {
        sound = sound-behind g.sound i;
        pen = pen';
        whole =
            ap (λ (x : Hints). (drawing_after st (drawing_of x pen') (take m (calls_at s w first n from
            (next_at w at)))).hints) (sym q) ∙ (rw (l, calls-first s w first n from i e) at g.whole);
      }

  -- after as many commands as are asked, or after the last
  pub none_left : left ≡ 0 → h ≡ asked st s w first n from commands
  unfolding drawing_after
  none_left l = rw l at g.whole

  pub none-there : n ≤ at → h ≡ asked st s w first n from commands
  unfolding drawing_after
  none-there i = rw (calls-none s w first n from i, take-nil left) at g.whole
