-- A script that 01's reader accepts, read back and written, is the same bytes exactly if its masks
-- lie end to end; else the writer's answer is BAD_MASK. Assumes nothing.
use mathlib.Core.Path.{◌≡◌, refl, sym, ap, ◌∙◌}
use mathlib.Core.List.{List, [], ◌∷◌, ◌++◌, map}
use Prim.Native.Nat.{ℕ, ◌+◌, ◌-◌, ◌≤◌}
use native.Mathlib.Omega.{arith}
use lib.ListN.{length, take}
use lib.Seq.{take_at}
use borrow.Author.Tests.{le-ltb}
use Rattle.std.specs.Prelude.{Ok}
use Rattle.words.specs.Words.{raw_at, words_from}
use Rattle.words.specs.Rows.{Row, first_or}
use Rattle.words.specs.Answers.{first_of}
use Rattle.words.specs.Bytes.{over}
use Rattle.words.proofs.Rows.{none-holds}
use Rattle.words.proofs.Words.{from-length}
use Rattle.header.specs.Header.{padded}
use Rattle.header.specs.Params.{param_rows, blues_at, params_of}
use Rattle.header.proofs.Fine.{params-refusing}
use Rattle.commands.specs.Commands.{operands_of}
use Rattle.script.specs.Script.{check_rows}
use Rattle.script.proofs.Passed.{passed}
use Rattle.writer.specs.Refusals.{WriteAnswer}
use Rattle.writer.specs.Pieces.{Piece, pieces_of, joined, starts_from, given_operands, unstarted}
use Rattle.writer.specs.ToWrite.{Given, pieces_in, command_words, script_for}
use Rattle.writer.specs.Refusals.{WriteResult, write_number, given_rows, piece_rows, room_row, write_rows, write_answer}
use Rattle.writer.specs.Refusals.{write_of}
use Rattle.writer.proofs.Cutting.{joined-pieces, pieces-joined}
use Rattle.writer.proofs.PieceFaults.{NoneHold, none_both, none-onward, none-answer}
use Rattle.writer.proofs.Sizes.{script-length}
use Rattle.writer.proofs.Answering.{before, by-room, unrefused}
use Rattle.readback.specs.ReadBack.{script_pieces, shortened, given_in}
use Rattle.readback.proofs.ReadRooms.{masks-length}
use Rattle.round_trips.specs.RoundTrips.{Bytes, EndToEnd, WrittenAgain}
use Rattle.round_trips.proofs.WordBytes.{all-bits}
use Rattle.round_trips.proofs.EndToEnd.{Sound, bare-whole, bare-small, same_length, masked, none-masked}
use Rattle.round_trips.proofs.EndToEnd.{lie-start, start-lie}
use Rattle.round_trips.proofs.Commands.{script-sound, script-parts}
use Rattle.round_trips.proofs.LaidOut.{layout, params-many, script-again}
use Rattle.round_trips.proofs.Written.{pieces-back}

-- what is written over the same bytes is told by them
over-told : (xs ys lent : List ℕ) → length xs ≡ length ys → over xs lent ≡ over ys lent → xs ≡ ys
unfolding over
over-told xs ys lent l e = sym (take_at xs _ (length ys) l) ∙ ap (take (length ys)) e ∙ take_at ys _ (length ys) refl

module _ (s : List ℕ) (held : Bytes s) (e : first_of (check_rows s) ≡ Ok tt) where
  -- ---- what is read back of it
  abbrev g : Given
  g = given_in s

  -- its pieces, and those that are given
  abbrev ps : List Piece
  ps = script_pieces s

  abbrev bare : List Piece
  bare = map unstarted ps

  sound : Sound ps
  sound = script-sound s held e

  -- which come out of their words
  pieces-given : pieces_in g.commands ≡ bare
  unfolding given_in shortened
  pieces-given =
      ap (pieces_of given_operands) (all-bits (joined bare) (bare-small sound)) ∙
      pieces-joined given_operands bare (bare-whole sound)

  -- so these are the command words that are written
  words-given : command_words g.commands ≡ joined (starts_from 0 bare)
  unfolding command_words
  words-given = ap (λ (qs : List Piece). joined (starts_from 0 qs)) pieces-given

  -- its own are those of its pieces
  own-words : joined ps ≡ words_from (raw_at s) (raw_at s 4) (raw_at s 5)
  own-words = joined-pieces operands_of (words_from (raw_at s) (raw_at s 4) (raw_at s 5))

  -- and as many, so that as many bytes are written
  size : length (script_for g) ≡ length s
  size =
      let f = (passed s e).fine in
      let n = from-length (raw_at s) (raw_at s 4) (raw_at s 5) in
      omega (
        arith,
        script-length g,
        params-many s held e,
        ap length words-given ∙ same_length 0 sound ∙ ap length own-words ∙ n,
        ap padded (masks-length s e),
        (layout s (passed s e)).all,
        f.commands,
        f.masks,
      )

  -- ---- the writer's tests
  -- scale and counts pass, since the reader's tests of them do
  given-pass : NoneHold (given_rows g.scale g.params)
  unfolding given_in given_rows param_rows params_of blues_at
  given-pass =
      let f = none-holds (Ok tt) (param_rows (raw_at s)) (params-refusing s) (passed s e).params in
      (f 0, (f 1, (f 2, (f 3, (f 4, tt)))))

  -- those of the pieces are those of the given pieces
  rows-given : piece_rows 0 (length g.masks) (pieces_in g.commands) ≡ piece_rows 0 (raw_at s 7) bare
  rows-given = rw (masks-length s e, pieces-given)

  module _ (lent : List ℕ) (room : length s ≤ length lent) where
    -- it is written where none of them holds
    fits : NoneHold (piece_rows 0 (raw_at s 7) bare) → write_answer g (length lent) ≡ Ok (length s)
    fits t =
        let rs = given_rows g.scale g.params in
        let qs = piece_rows 0 (length g.masks) (pieces_in g.commands) in
        by-room g (length lent) (none-answer (Ok 0) (before g) (none_both rs qs given-pass (rw rows-given t))) ∙
        rw (size, le-ltb (length lent) (length s) room, le-ltb 65536 (length s) (passed s e).fine.short)

    -- and BAD_MASK is answered where one does
    fitting : (write_number (write_answer g (length lent)) ≡ 5 → ⊥) → NoneHold (piece_rows 0 (raw_at s 7) bare)
    unfolding write_answer write_rows
    fitting n =
        let ok = Ok (length (script_for g)) in
        let last = room_row (length (script_for g)) (length lent) ∷ [] in
        let qs = piece_rows 0 (length g.masks) (pieces_in g.commands) in
        let a : write_answer g (length lent) ≡ first_or ok (piece_rows 0 (raw_at s 7) bare ++ last) =
        none-onward ok (given_rows g.scale g.params) (qs ++ last) given-pass ∙
        ap (λ (rs : List (Row WriteAnswer)). first_or ok (rs ++ last)) rows-given in
        none-masked ok (piece_rows 0 (raw_at s 7) bare) last (masked 0 (raw_at s 7) sound) (rw a at n)

    -- masks that lie end to end are written as they were
    pub written : EndToEnd s → WrittenAgain s lent
    unfolding write_of
    written q =
        let f = (passed s e).fine in
        let r = lie-start 0 0 (raw_at s 7) (omega (arith, f.bytes, f.short)) sound (rw (script-parts s held e) at q) in
        let z : raw_at s 7 - 0 ≡ raw_at s 7 = omega arith in
        let a = fits (rw z at r.1.0) in
        let i = script-again s held e (words-given ∙ ap joined r.1.1 ∙ own-words) in
        rw (a, i)

    -- and those that are written as they were lie end to end
    pub end_to_end : WrittenAgain s lent → EndToEnd s
    unfolding write_of
    end_to_end q =
        let a : write_answer g (length lent) ≡ Ok (length s) = ap (λ (r : WriteResult). r.answer) q in
        let o : over (script_for g) lent ≡ over s lent = rw a at (ap (λ (r : WriteResult). r.left) q) in
        let i = over-told (script_for g) s lent size o in
        let b : ps ≡ starts_from 0 bare =
        ap script_pieces (sym i) ∙ pieces-back g (unrefused g (length lent) (rw a)) ∙ ap (starts_from 0) pieces-given in
        let t = fitting (rw a (λ n. omega arith)) in
        let z : 0 + raw_at s 7 ≡ raw_at s 7 = omega arith in
        rw (script-parts s held e) (rw z at (start-lie 0 0 (raw_at s 7) sound t (sym b)))

-- ---- the law of its answer
-- an answer that is not BAD_MASK is that as many bytes are written as the script has
pub otherwise : (s lent : List ℕ) → Bytes s → length s ≤ length lent → first_of (check_rows s) ≡ Ok tt →
    (write_number (write_answer (given_in s) (length lent)) ≡ 5 → ⊥) →
    write_answer (given_in s) (length lent) ≡ Ok (length s)
otherwise s lent held room e n = fits s held e lent room (fitting s held e lent room n)
