-- How a run over kept lists stands: some hints are what the lists keep, and the commands from here on,
-- over them, make of the words from the next free one what all commands make of all words. Assumes
-- nothing.
use mathlib.Core.Path.{◌≡◌, refl, sym, ap, subst, ◌∙◌}
use mathlib.Core.Bool.{false, true}
use mathlib.Core.List.{List, ◌++◌}
use Prim.Native.Nat.{ℕ, ◌+◌, ◌<◌}
use lib.IntN.{ℤ}
use lib.ListN.{length, take, drop, replicate, take-append-drop}
use Rattle.std.specs.Prelude.{Err}
use Rattle.stems.specs.Lists.{Whole}
use Rattle.zones.specs.declared.state.HintState.{HintState}
use Rattle.pen.specs.declared.strokes.Pen.{Pen}
use Rattle.pen.specs.declared.strokes.Path.{Path}
use Rattle.pen.specs.declared.drawn.Drawn.{Drawn}
use Rattle.pen.specs.Strokes.{new_pen}
use Rattle.pen.proofs.Drew.{DrewWords, DrewNothing}
use Rattle.hints.specs.declared.hints.Hints.{Hints}
use Rattle.hints.specs.Path.{has_point, stroke_by}
use Rattle.words.specs.declared.answer.Refusal.TheVariants.{NoRoom}
use Rattle.commands.specs.declared.reading.Marking.{Marking}
use Rattle.commands.specs.declared.reading.Command.TheVariants.{Mark, Draw}
use Rattle.commands.specs.Commands.{read_at, next_at}
use Rattle.run.specs.declared.kept.Sizes.{Sizes}
use Rattle.run.specs.Run.{Runnable, wants_map, is_close}
use Rattle.run.specs.Kept.{no_sizes, Kept, Mappable, Marked, Readied}
use Rattle.run.proofs.Clearing.{cleared-kept}
use Rattle.run.proofs.Turns.{Going, going, Gives, close-idle, turn-mark, turn-ready, turn-drew, turn-refused}

module _ (st : HintState) (s : List ℕ) (w : ℕ → ℕ) (first n from : ℕ) (out₀ : List ℤ) where
  pub record Running (bs : List ℕ) (ns is ms : List ℤ) (ts : List ℕ) (z : Sizes) (pen : Pen) (next at : ℕ)
      (out : List ℤ) : Type 0 where
    pub hints : Hints
    pub goes : Going st s w first n from out₀ hints pen next at out
    pub kept : Kept st hints z bs ns is ms
    pub whole : Whole is ts
    pub long : length ns ≡ 480
    pub current : length ms ≡ 288
    pub twelve : length bs ≡ 12

  -- before the first command
  pub starts : (ns is ms : List ℤ) (ts : List ℕ) → Runnable s w first n from → length ns ≡ 480 → Whole is ts →
      length ms ≡ 288 → Running (replicate 12 255) ns is ms ts no_sizes new_pen 0 0 out₀
  starts ns is ms ts r long whole current =
      record {
        hints = _;
        goes = going st s w first n from r out₀;
        kept = cleared-kept st ns is ms refl;
        whole = whole;
        long = long;
        current = current;
        twelve = refl;
      }

  module _ (bs : List ℕ) (ns is ms : List ℤ) (ts : List ℕ) (z : Sizes) (pen : Pen) (next at : ℕ) (out : List ℤ)
      (g : Running bs ns is ms ts z pen next at out) where
    -- a map can be built
    pub mappable : Mappable z ms is ts ns bs
    mappable =
        record {
          build = record { whole = g.whole; long = g.long; fits = g.kept.initial.fits };
          current = g.current;
          twelve = g.twelve;
        }

    -- whether the map is built is what its size says
    no-map : (path : Path) → wants_map z.valid path ≡ false → wants_map g.hints.map.is_valid path ≡ false
    no-map path u = rw g.kept.map.valid u

    module _ (i : at < n) where
      -- a close changes nothing
      pub closes : {m : Marking} → (read_at w n at).command ≡ Mark m → is_close m ≡ true →
          Running bs ns is ms ts z pen next (next_at w at) out
      closes {m} e c =
          record {
            hints = g.hints;
            goes =
                subst (λ (h : Hints). Going st s w first n from out₀ h pen next (next_at w at) out)
                (close-idle st g.hints s from m c) (turn-mark g.goes i e);
            kept = g.kept;
            whole = g.whole;
            long = g.long;
            current = g.current;
            twelve = g.twelve;
          }

      -- a command that writes nothing
      pub marks : {m : Marking} (z' : Sizes) (bs' : List ℕ) (ns' is' : List ℤ) (ts' : List ℕ) →
          (read_at w n at).command ≡ Mark m → Marked st s from m z bs ns is z' bs' ns' is' ts' →
          Running bs' ns' is' ms ts' z' pen next (next_at w at) out
      marks z' bs' ns' is' ts' e m =
          record {
            hints = _;
            goes = turn-mark g.goes i e;
            kept = m.kept g.hints ms g.kept;
            whole = m.whole;
            long = m.long;
            current = g.current;
            twelve = m.twelve;
          }

      -- a call that wants a map
      pub readies : {path : Path} (z' : Sizes) (ms' is' : List ℤ) (ts' : List ℕ) (ns' : List ℤ) →
          (read_at w n at).command ≡ Draw path → has_point path ≡ true → z.valid ≡ false →
          Readied st z is bs ns z' ms' is' ts' ns' → Running bs ns' is' ms' ts' z' pen next at out
      readies z' ms' is' ts' ns' e p v m =
          record {
            hints = _;
            goes = turn-ready g.goes i e p;
            kept = m.kept g.hints ms v g.kept;
            whole = m.map.build.whole;
            long = m.map.build.long;
            current = m.map.current;
            twelve = g.twelve;
          }

      -- a call that wrote its words
      pub draws : {path : Path} (said : Drawn) (k : ℕ) (exit : List ℤ) → (read_at w n at).command ≡ Draw path →
          wants_map z.valid path ≡ false →
          DrewWords (stroke_by g.hints.map st.scale pen path) (drop next out) said k exit →
          Running bs ns is ms ts z said.pen (next + k) (next_at w at) (take next out ++ exit)
      draws {path} said k exit e u d =
          record {
            hints = g.hints;
            goes = turn-drew g.goes i e (no-map path u) d;
            kept = g.kept;
            whole = g.whole;
            long = g.long;
            current = g.current;
            twelve = g.twelve;
          }

      -- a call that did not, and leaves every word
      pub refuses : {path : Path} (said : Drawn) (exit : List ℤ) → (read_at w n at).command ≡ Draw path →
          wants_map z.valid path ≡ false →
          DrewNothing (stroke_by g.hints.map st.scale pen path) pen (drop next out) said exit →
          Gives st s w first n from out₀ (Err (NoRoom (first + at))) next (take next out ++ exit)
      refuses {path} said exit e u d =
          subst (Gives st s w first n from out₀ (Err (NoRoom (first + at))) next)
          (sym (ap (λ (x : List ℤ). take next out ++ x) d.left ∙ take-append-drop next out))
          (turn-refused g.goes i e (no-map path u) d)
