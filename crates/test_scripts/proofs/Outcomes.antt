-- What becomes of a script, by what the reader and the writer say of it. Assumes nothing.
use Rattle.std.proofs.Common.{◌≡◌, ℕ, ◌<◌, ◌≤◌, Bool, true, false, List, length, take, drop, ℤ, sym, refl, arith}
use Rattle.std.proofs.Common.{length-append}
use Rattle.words.specs.Answers.{Answer, number_of, refuses, first_of}
use Rattle.words.proofs.Answers.{not-refused}
use Rattle.script.proofs.Passed.{passed}
use Rattle.script.proofs.Results.{refused, taken}
use Rattle.writer.specs.Refusals.{WriteAnswer}
use Rattle.writer.specs.ToWrite.{Given, given}
use Rattle.words.specs.Bytes.{over}
use Rattle.writer.specs.Refusals.{write_of, Wrote}
use Rattle.readback.specs.declared.reading_back.ReadBack.{ReadBack}
use Rattle.readback.specs.ReadBack.{given_in, read_rows, read_by, read_back_of, ReadAs}
use Rattle.readback.proofs.ReadRooms.{accepted}
use Rattle.test_scripts.specs.declared.again.Again.{Again}
use Rattle.test_scripts.specs.declared.again.Again.TheVariants.{NotRead}
use Rattle.test_scripts.specs.Again.{written_as, write_again_of}

-- ---- what is read back lies within its buffers
within : {A : Type 0} (xs lent : List A) → length xs ≤ length (over xs lent)
unfolding over
within xs lent = omega (arith, length-append xs (drop (length xs) lent))

both-within : (b : Bool) (a : Answer) (g : Given) (cs : List ℤ) (ms : List ℕ) →
    ((read_by b a g cs ms).said.commands ≤ length (read_by b a g cs ms).commands) ×
    ((read_by b a g cs ms).said.masks ≤ length (read_by b a g cs ms).masks)
both-within true a g cs ms = (omega arith, omega arith)
both-within false a g cs ms = (within g.commands cs, within g.masks ms)

module _ (s : List ℕ) (cs : List ℤ) (ms : List ℕ) where
  abbrev answered : Answer
  answered = first_of (read_rows s (length cs) (length ms))

  read-within : ((read_back_of s cs ms).said.commands ≤ length (read_back_of s cs ms).commands) ×
      ((read_back_of s cs ms).said.masks ≤ length (read_back_of s cs ms).masks)
  unfolding read_back_of
  read-within = both-within (refuses answered) answered (given_in s) cs ms

  module _ {said : ReadBack} {commands : List ℤ} {masks : List ℕ}
      (r : ReadAs (read_back_of s cs ms) said commands masks) where
    pub words-within : said.commands ≤ length commands
    words-within = rw (r.answer, r.words) read-within.0

    pub bytes-within : said.masks ≤ length masks
    bytes-within = rw (r.answer, r.bytes) read-within.1

    -- ---- what the reader refuses, and what the writer is given
    pub not-read : (written : List ℕ) → 0 < number_of said.answer → NotRead ≡ write_again_of s cs ms written
    unfolding write_again_of
    not-read written h = rw (sym r.answer, refused said.answer h)

    pub read-and-written : (written : List ℕ) {left : List ℕ} {answer : WriteAnswer} {again : Again} →
        number_of said.answer ≡ 0 →
        Wrote (write_of (given said.scale said.params (take said.commands commands) (take said.masks masks))
        written) answer left → again ≡ written_as s answer left → again ≡ write_again_of s cs ms written
    unfolding write_again_of
    read-and-written written h w e =
        rw (sym r.answer, sym r.words, sym r.bytes, taken said.answer h, sym w.answer, sym w.memory) e

  -- ---- the reader refuses more bytes than a script may have
  rows-refuse : (written : List ℕ) → refuses answered ≡ true → NotRead ≡ write_again_of s cs ms written
  unfolding write_again_of read_back_of
  rows-refuse written e = rw (e, e)

  pub too_long : (written : List ℕ) → 65536 < length s → NotRead ≡ write_again_of s cs ms written
  too_long written h = by (refuses answered) refl
    where
      by : (b : Bool) → refuses answered ≡ b → NotRead ≡ write_again_of s cs ms written
      by true e = rows-refuse written e
      by false e =
          absurd (omega (arith, (passed s (accepted s (length cs) (length ms) (not-refused answered e))).fine.short))
