-- Request 5's law over the contracts of both functions: whatever `run_labels` leaves of a glyph, and
-- whatever `run_script` leaves of its own script, the records are the same words. Assumes nothing.
use mathlib.Core.Path.{◌≡◌, refl, sym, ap, ◌∙◌}
use mathlib.Core.Bool.{false}
use mathlib.Core.List.{List}
use Prim.Native.Nat.{ℕ, ◌+◌, ◌*◌, ◌≤◌, ◌<◌}
use native.Mathlib.Omega.{arith}
use lib.IntN.{ℤ, pos}
use lib.ListN.{length, take, drop, get_or}
use lib.Seq.{take_at}
use Rattle.pen.specs.Records.{written}
use Rattle.words.proofs.Answers.{says_is}
use Rattle.script.specs.Script.{Result, result_words, script_of, Scripted}
use Rattle.labels.specs.Answers.{LabelAnswer}
use Rattle.labels.specs.Answers.{label_refuses}
use Rattle.labels.specs.Labels.{Label, glyphs_in, labels_of, Labelled}
use Rattle.own_scripts.specs.OwnScripts.{most_bytes, HeldLabel, script_at, records_at, offset_at, SameLeft}
use Rattle.own_scripts.proofs.Alone.{alone}
use Rattle.words.specs.Answers.{Answer}

-- the result of some record words: how many there are, and that they stand behind its header
said-there : (ws lent : List ℤ) → get_or (written (result_words ws) lent) 3 (pos 0) ≡ pos (length ws)
unfolding written
said-there ws lent = refl

behind-header : (ws lent : List ℤ) → take (length ws) (drop 4 (written (result_words ws) lent)) ≡ ws
unfolding written
behind-header ws lent = take_at ws (drop (length (result_words ws)) lent) (length ws) refl

module _ (l : Label) (out : List ℤ) (held : HeldLabel l) (r : LabelAnswer) (left : List ℤ)
    (labelled : Labelled (labels_of l out) r left) (fine : label_refuses r ≡ false) where
  -- glyph k, with what the header says of it; its own script, within 01's limit and with room enough
  pub same_left : (k : ℕ) → k < length (glyphs_in l) → (o n : ℕ) → get_or left (2 + 2 * k) (pos 0) ≡ pos o →
      get_or left (3 + 2 * k) (pos 0) ≡ pos n → length (script_at l k) ≤ most_bytes → (lent : List ℤ) →
      4 + n ≤ length lent → (said : Answer) (left' : List ℤ) →
      Scripted (script_of (script_at l k) lent) said left' → SameLeft o n left said left'
  same_left k h o n offset words short lent room said left' ran =
      let a = alone l out k held (rw labelled.answer at fine) h in
      let ws = records_at l k in
      let o_is : o ≡ offset_at l k = cc (labelled.memory, a.offset) in
      let n-is : n ≡ length ws = cc (labelled.memory, a.words) in
      let e = a.run short lent (omega arith) in
      let left_is = ran.memory ∙ ap (λ (x : Result). x.left) e in
      record {
        ok = says_is ran.answer ∙ ap (λ (x : Result). x.answer) e;
        words = rw (left_is, n-is) (said-there ws lent);
        records =
            rw (left_is, n-is, o_is, labelled.memory) (behind-header ws lent ∙ sym a.records);
      }
