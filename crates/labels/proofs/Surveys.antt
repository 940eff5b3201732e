-- Laws of the survey of a glyph: how it stands before a command, a command more, and where it ends.
-- Assumes nothing.
use mathlib.Core.Path.{◌≡◌, refl, sym, ap, ◌∙◌}
use mathlib.Core.List.{List}
use Prim.Native.Nat.{ℕ, ◌+◌, ◌-◌, ◌*◌, ◌≤◌, ◌<◌}
use native.Mathlib.Nat.{zero-add, add-zero}
use native.Mathlib.Omega.{arith}
use lib.ListN.{length}
use Rattle.std.specs.Prelude.{Result, Ok, Err}
use Rattle.std.specs.Result.{result_and}
use Rattle.pen.specs.declared.strokes.Path.{Path}
use Rattle.pen.specs.declared.counting.Trail.{Trail}
use Rattle.pen.specs.declared.counting.Counted.{Counted}
use Rattle.pen.specs.Counting.{new_trail, count_of}
use Rattle.words.specs.Words.{given_word}
use Rattle.words.specs.Rows.{first_or}
use Rattle.words.specs.declared.answer.Refusal.{Refusal}
use Rattle.words.specs.Answers.{Answer, number_of, first_of}
use Rattle.words.proofs.Answers.{numbered}
use Rattle.commands.specs.declared.reading.Marking.{Marking}
use Rattle.commands.specs.declared.reading.Marking.TheVariants.{Bad, Stem, Mask, Counter, Clear, Close}
use Rattle.commands.specs.declared.reading.Command.{Command}
use Rattle.commands.specs.declared.reading.Command.TheVariants.{Mark, Draw}
use Rattle.commands.specs.Commands.{CommandAt, read_at, next_at, commands_from}
use Rattle.commands.specs.Faults.{fault_rows, command_rows}
use Rattle.commands.proofs.Laws.{from_start, at_most, rows_none, fault-here, fault-behind}
use Rattle.run.specs.Run.{Asked, mark_call, call_of}
use Rattle.run.specs.Counting.{unwritten, count_for, count_along}
use Rattle.run.proofs.Reading.{calls_at, calls-start, calls-first, calls-none}
use Rattle.run.proofs.Bounds.{calls-many}
use Rattle.run.proofs.Counting.{count-short}
use Rattle.labels.specs.Glyphs.{Glyph, commands_in, fault_of, calls_in}
use Rattle.labels.specs.Measured.{size_of, survey_of}

-- a command that is not drawn writes nothing
mark-unwritten : (t : Trail) (s : List ℕ) (m : Marking) → count_for t (mark_call s 0 m) ≡ unwritten t
mark-unwritten t s Bad = refl
mark-unwritten t s (Stem min max) = refl
mark-unwritten t s (Mask start len) = refl
mark-unwritten t s (Counter start len) = refl
mark-unwritten t s Clear = refl
mark-unwritten t s Close = refl

-- a refusal or a count behind an answer
and-err : (a : Answer) (m : ℕ) {r : Refusal} → ◌≡◌ {A = Result ℕ Refusal} (Err r) (result_and a (Ok m)) → a ≡ Err r
and-err (Ok u) m e = cc
and-err (Err r) m e = cc

and-ok : (a : Answer) {m n : ℕ} → ◌≡◌ {A = Result ℕ Refusal} (Ok n) (result_and a (Ok m)) → (a ≡ Ok tt) × (n ≡ m)
and-ok (Ok u) e = (refl, cc)
and-ok (Err r) e = cc

module _ (g : Glyph) where
  abbrev word : ℕ → ℕ
  word = given_word g.words

  abbrev many : ℕ
  many = length g.words

  abbrev bytes : ℕ
  bytes = length g.masks

  -- ten words a command word are enough
  pub size_few : size_of g ≤ 10 * many
  unfolding size_of
  size_few =
      omega (
        arith,
        count-short new_trail (calls_in g),
        calls-many g.masks 0 (commands_in g),
        at_most 0 word many,
      )

  -- what a glyph's survey is, by its first fault
  pub survey-fault : {r : Refusal} → fault_of g ≡ Err r → survey_of g ≡ Err r
  unfolding survey_of
  survey-fault e = rw e

  pub survey-fine : fault_of g ≡ Ok tt → survey_of g ≡ Ok (size_of g)
  unfolding survey_of
  survey-fine e = rw e

  -- and what its survey says of that
  pub fault-surveyed : {r : Refusal} → Err r ≡ survey_of g → fault_of g ≡ Err r
  unfolding survey_of
  fault-surveyed e = and-err (fault_of g) (size_of g) e

  pub size-surveyed : {n : ℕ} → Ok n ≡ survey_of g → (fault_of g ≡ Ok tt) × (n ≡ size_of g)
  unfolding survey_of
  size-surveyed e = and-ok (fault_of g) e

  -- the commands that are left have the first fault, and the words that are not counted yet
  pub record Surveying (t : Trail) (count at : ℕ) : Type 0 where
    pub faults : fault_of g ≡ first_of (command_rows bytes (commands_from (many - at) 0 word many at))
    pub counts : size_of g ≡ count + count_along t (calls_at g.masks word 0 many 0 at)

  -- before the first command
  pub surveying : Surveying new_trail 0 0
  unfolding fault_of size_of
  surveying =
      record {
        faults = ap (λ (cs : List CommandAt). first_of (command_rows bytes cs)) (from_start 0 word many);
        counts = ap (count_along new_trail) (calls-start g.masks word 0 many 0) ∙ sym (zero-add _);
      }

module _ {g : Glyph} {t : Trail} {count at : ℕ} (m : Surveying g t count at) where
  module _ (h : at < length g.words) {c : Command} (e : (read_at (word g) (many g) at).command ≡ c) {f : Answer}
      (q : f ≡ first_of (fault_rows (bytes g) at c)) where
    placed-fault : f ≡ first_of (fault_rows (bytes g) (0 + at) (read_at (word g) (many g) at).command)
    placed-fault = rw (zero-add at, e) q

    -- a command that has a fault
    pub stopped : {r : Refusal} → f ≡ Err r → survey_of g ≡ Err r
    stopped {r} k =
        let q = fault-here 0 (word g) (many g) (bytes g) at h f placed-fault (rw k (numbered r)) in
        survey-fault g (m.faults ∙ sym q ∙ k)

    module _ (k : f ≡ Ok tt) where
      faults-behind : let i = next_at (word g) at in
          fault_of g ≡ first_of (command_rows (bytes g) (commands_from (many g - i) 0 (word g) (many g) i))
      faults-behind = m.faults ∙ fault-behind 0 (word g) (many g) (bytes g) at h f placed-fault (ap number_of k)

      -- one that writes its words
      abbrev behind : List Asked
      behind = calls_at g.masks (word g) 0 (many g) 0 (next_at (word g) at)

      counts-here : size_of g ≡ count +
          ((count_for t (call_of g.masks 0 c)).words + count_along (count_for t (call_of g.masks 0 c)).trail behind)
      unfolding count_along
      counts-here =
          m.counts ∙
          ap (λ (cs : List Asked). count + count_along t cs) (calls-first g.masks (word g) 0 (many g) 0 h e)

      counted-on : Surveying g (count_for t (call_of g.masks 0 c)).trail
          (count + (count_for t (call_of g.masks 0 c)).words) (next_at (word g) at)
      counted-on = record { faults = faults-behind; counts = omega (arith, counts-here) }

      within : count + (count_for t (call_of g.masks 0 c)).words ≤ 10 * length g.words
      within = omega (arith, counts-here, size_few g)

  -- after the last
  pub surveyed : length g.words ≤ at → survey_of g ≡ Ok count
  unfolding count_along first_or
  surveyed h =
      survey-fine g (m.faults ∙ ap first_of (rows_none 0 (word g) (many g) (bytes g) at h)) ∙
      ap (λ (n : ℕ). let r : Result ℕ Refusal = Ok n in r)
      (m.counts ∙
      ap (λ (cs : List Asked). count + count_along t cs) (calls-none g.masks (word g) 0 (many g) 0 h) ∙
      add-zero count)

-- a command that is not drawn is passed
pub passed_on : {g : Glyph} {t : Trail} {count at : ℕ} → Surveying g t count at → at < length g.words →
    {k : Marking} → (read_at (word g) (many g) at).command ≡ Mark k → {f : Answer} →
    f ≡ first_of (fault_rows (bytes g) at (Mark k)) → f ≡ Ok tt → Surveying g t count (next_at (word g) at)
passed_on {g} {t} m h {k} e q z =
    let r = counted-on m h e q z in
    rw (mark-unwritten t g.masks k, add-zero) at r

-- and the words of one that is are added
pub drawn-on : {g : Glyph} {t : Trail} {count at : ℕ} → Surveying g t count at → at < length g.words →
    {p : Path} → (read_at (word g) (many g) at).command ≡ Draw p → {f : Answer} →
    f ≡ first_of (fault_rows (bytes g) at (Draw p)) → f ≡ Ok tt → {r : Counted} → r ≡ count_of t p →
    Surveying g r.trail (count + r.words) (next_at (word g) at) × (count + r.words ≤ 10 * length g.words)
drawn-on m h e q z u = rw u (counted-on m h e q z, within m h e q z)
