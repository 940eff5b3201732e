-- Laws of the tests of room, which stand behind a script's own, and of a whole answer. Assumes
-- nothing.
use mathlib.Core.Path.{◌≡◌, refl, sym, ◌∙◌}
use mathlib.Core.Bool.{false}
use mathlib.Core.List.{List, [], ◌∷◌}
use Prim.Native.Nat.{ℕ, ◌+◌, ◌-◌, ◌*◌, ◌≤◌, ◌<◌}
use native.Mathlib.Omega.{arith}
use lib.Dec.{ltb}
use lib.IntN.{ℤ}
use lib.ListN.{length, take, drop, length-drop, length-map}
use lib.Seq.{length-take-le}
use borrow.Author.Tests.{lt-ltb, le-ltb, ltb-false}
use Rattle.std.specs.Prelude.{Ok, Err}
use Rattle.fixed.specs.declared.Fixed.{Fixed}
use Rattle.fixed.specs.Integers.{signed}
use Rattle.zones.specs.declared.state.HintParams.{HintParams}
use Rattle.words.specs.declared.answer.Refusal.TheVariants.{NoRoom}
use Rattle.words.specs.Words.{raw_at}
use Rattle.words.specs.Rows.{Row, row, first_or, row_at}
use Rattle.words.specs.Answers.{Answer, first_of, number_of}
use Rattle.words.proofs.Rows.{none-holds, found, onward}
use Rattle.words.proofs.Answers.{both_ok}
use Rattle.header.proofs.Tests.{refusing}
use Rattle.writer.specs.ToWrite.{Given}
use Rattle.script.specs.Script.{check_rows}
use Rattle.script.proofs.Passed.{checks-refusing, passed}
use Rattle.script.proofs.Results.{refused}
use Rattle.readback.specs.ReadBack.{script_pieces, shortened, given_in, read_rows}
use Rattle.readback.specs.ReadBack.{refused_back, read_by, read_back_of, ReadAs}

module _ (s : List ℕ) where
  -- ---- how much is given
  -- as many words as those of the shortened pieces
  pub commands-length : length (given_in s).commands ≡ length (shortened (script_pieces s))
  unfolding given_in
  commands-length = length-map (shortened (script_pieces s)) signed

  -- and as many mask bytes as word 7 says
  pub masks-length : first_of (check_rows s) ≡ Ok tt → length (given_in s).masks ≡ raw_at s 7
  unfolding given_in
  masks-length e =
      length-take-le (raw_at s 7) (drop (4 * raw_at s 6) s)
      (omega (arith, length-drop (4 * raw_at s 6) s, (passed s e).fine.bytes))

  -- which are the part that starts where word 6 says
  pub masks-part : {at n : ℕ} → at ≡ raw_at s 6 → n ≡ raw_at s 7 →
      take (4 * at + n - 4 * at) (drop (4 * at) s) ≡ (given_in s).masks
  unfolding given_in
  masks-part {at} {n} f g =
      let e : 4 * at + n - 4 * at ≡ raw_at s 7 = omega arith in
      rw (e, f)

  module _ (words bytes : ℕ) where
    -- ---- the tests of room
    abbrev room_rows : List (Row Answer)
    room_rows =
        row (ltb words (length (given_in s).commands)) (Err (NoRoom 5)) ∷
        row (ltb bytes (length (given_in s).masks)) (Err (NoRoom 7)) ∷
        []

    -- a refusal of the script stands
    pub by-fault : (first_of (check_rows s) ≡ Ok tt → ⊥) → first_of (read_rows s words bytes) ≡ first_of (check_rows s)
    unfolding read_rows
    by-fault h = found (Ok tt) (check_rows s) room_rows h

    module _ (e : first_of (check_rows s) ≡ Ok tt) where
      -- an accepted script is answered by its room
      by-room : first_of (read_rows s words bytes) ≡ first_of room_rows
      unfolding read_rows
      by-room = onward (Ok tt) (check_rows s) room_rows (checks-refusing s) e

      -- too few words
      pub few_words : words < length (shortened (script_pieces s)) →
          (Err (NoRoom 5)) ≡ first_of (read_rows s words bytes)
      unfolding first_or
      few_words h =
          sym (by-room ∙ rw (lt-ltb words (length (given_in s).commands) (omega (arith, commands-length))))

      module _ (h : length (shortened (script_pieces s)) ≤ words) where
        -- enough of them
        first_passes : ltb words (length (given_in s).commands) ≡ false
        first_passes = le-ltb words (length (given_in s).commands) (omega (arith, commands-length))

        -- too few bytes
        pub few_bytes : bytes < raw_at s 7 → (Err (NoRoom 7)) ≡ first_of (read_rows s words bytes)
        unfolding first_or
        few_bytes k =
            sym (by-room ∙
            rw (first_passes, lt-ltb bytes (length (given_in s).masks) (omega (arith, masks-length e))))

        -- enough of both
        pub enough : raw_at s 7 ≤ bytes → (Ok tt) ≡ first_of (read_rows s words bytes)
        unfolding first_or
        enough k =
            sym (by-room ∙
            rw (first_passes, le-ltb bytes (length (given_in s).masks) (omega (arith, masks-length e))))

    -- where the answer is Ok
    module _ (e : first_of (read_rows s words bytes) ≡ Ok tt) where
      -- both lists give it
      both : (first_of (check_rows s) ≡ Ok tt) × (first_of room_rows ≡ Ok tt)
      unfolding read_rows
      both = both_ok (check_rows s) room_rows (checks-refusing s) e

      -- the script is accepted
      pub accepted : first_of (check_rows s) ≡ Ok tt
      accepted = both.0

      -- no test of room holds
      passes : (k : ℕ) → (row_at (Ok tt) room_rows k).fault ≡ false
      passes = none-holds (Ok tt) room_rows (refusing room_rows refl) both.1

      -- its words have room
      pub words-fit : length (shortened (script_pieces s)) ≤ words
      words-fit = omega (arith, ltb-false words (length (given_in s).commands) (passes 0), commands-length)

      -- and so have its mask bytes
      pub bytes_fit : length (given_in s).masks ≤ bytes
      bytes_fit = ltb-false bytes (length (given_in s).masks) (passes 1)

-- ---- a whole answer
-- what is said of a script that is read
pub said-is : (g : Given) {scale : Fixed} {params : HintParams} {commands masks : ℕ} → scale ≡ g.scale →
    params ≡ g.params → commands ≡ length g.commands → masks ≡ length g.masks →
    record { answer = Ok tt; scale = scale; params = params; commands = commands; masks = masks } ≡
    (read_by false (Ok tt) g [] []).said
said-is g a b c d = rw (a, b, c, d)

module _ (s : List ℕ) (cs : List ℤ) (ms : List ℕ) where
  abbrev answered : Answer
  answered = first_of (read_rows s (length cs) (length ms))

  -- a refusal says nothing else, and changes no buffer
  pub read-refused : (a : Answer) → a ≡ answered → 0 < number_of a →
      ReadAs (read_back_of s cs ms) (refused_back a) cs ms
  unfolding read_back_of
  read-refused a e h = rw (sym e, refused a h) (record { answer = refl; words = refl; bytes = refl })

  -- what has room is read
  pub read-given : answered ≡ Ok tt → read_back_of s cs ms ≡ read_by false (Ok tt) (given_in s) cs ms
  unfolding read_back_of
  read-given e = rw e
