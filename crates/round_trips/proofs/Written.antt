-- A script that the writer writes is accepted by the reader, and says what was given. Assumes
-- nothing.
use mathlib.Core.Path.{◌≡◌, refl, sym, ap, ◌∙◌}
use mathlib.Core.Bool.{false}
use mathlib.Core.List.{List, map}
use Prim.Native.Nat.{ℕ, ◌+◌, ◌*◌, ◌≤◌}
use native.Mathlib.Omega.{arith}
use lib.ListN.{length, take, drop}
use lib.Seq.{take_at}
use Rattle.std.specs.Prelude.{Ok}
use Rattle.fixed.specs.Integers.{bits_of, signed}
use Rattle.words.specs.Words.{raw_at}
use Rattle.words.specs.Answers.{first_of}
use Rattle.commands.specs.Commands.{operands_of}
use Rattle.commands.specs.Faults.{command_rows}
use Rattle.commands.proofs.Laws.{from_start}
use Rattle.script.specs.Script.{commands_in, check_rows}
use Rattle.writer.specs.Pieces.{Piece, pieces_of, joined, given_operands, starts_from}
use Rattle.writer.specs.ToWrite.{Given, pieces_in, command_words, padded_bytes, script_for}
use Rattle.writer.specs.Refusals.{write_refuses, write_answer}
use Rattle.writer.proofs.Cutting.{joined-pieces, pieces-joined}
use Rattle.writer.proofs.PieceFaults.{none-answer}
use Rattle.writer.proofs.Sizes.{script-length}
use Rattle.writer.proofs.Answering.{Unrefused, unrefused}
use Rattle.readback.specs.ReadBack.{script_pieces, shortened, given_in}
use Rattle.round_trips.specs.RoundTrips.{HeldGiven, kept, calls_given, calls_made, ReadsBack}
use Rattle.round_trips.proofs.WordBytes.{numbers-back, words-held}
use Rattle.round_trips.proofs.Starts.{given-whole, starts-whole, starts-back}
use Rattle.round_trips.proofs.Commands.{commands_as, commands-as, pieces-pass}
use Rattle.round_trips.proofs.CallsMade.{pieces-call}
use Rattle.round_trips.proofs.LaidOut.{Contents, contents_of, param_count, command_count, word_count, zeros_behind}
use Rattle.round_trips.proofs.LaidOut.{script_with, script-is, LaidOut, Holdable, laid_out, holdable}
use Rattle.round_trips.proofs.LaidOut.{commands-read, masks-there}
use Rattle.round_trips.proofs.Passing.{scale-said, params-said, commands-said, by-commands}

-- its pieces are those given, with their starts
pub pieces-back : (g : Given) → Unrefused g → script_pieces (script_for g) ≡ starts_from 0 (pieces_in g.commands)
unfolding command_words
pieces-back g c =
    let ps = pieces_in g.commands in
    let s = script_with (contents_of g) in
    let there = laid_out (contents_of g) (holdable g c) in
    let whole = given-whole 0 (length g.masks) (map bits_of g.commands) c.pieces in
    rw (script-is g, there.commands_at, there.commands)
    (ap (pieces_of operands_of) (words-held (raw_at s) (8 + param_count (contents_of g)) (command_words g.commands)
    there.commands_there) ∙
    pieces-joined operands_of (starts_from 0 ps) (starts-whole 0 ps whole))

module _ (g : Given) (h : HeldGiven g) (c : Unrefused g) where
  abbrev q : Contents
  q = contents_of g

  abbrev s : List ℕ
  s = script_with q

  holds : Holdable q
  holds = holdable g c

  -- its words
  there : LaidOut q (raw_at s)
  there = laid_out q holds

  -- its commands are those of the pieces with their starts
  commands-there : commands_in s ≡ commands_as (8 + param_count q) (starts_from 0 (pieces_in g.commands))
  unfolding command_words
  commands-there =
      let ps = pieces_in g.commands in
      let at = 8 + param_count q in
      let part = raw_at (drop (4 * at) s) in
      let z : at + 0 ≡ at = omega arith in
      let whole = given-whole 0 (length g.masks) (map bits_of g.commands) c.pieces in
      commands-said q h.scale h.params holds ∙
      from_start at part (command_count q) ∙
      (rw z at (commands-as at part (command_count q) 0 (starts_from 0 ps) (starts-whole 0 ps whole)
      (commands-read q holds) (omega arith)))

  -- none of whose tests holds, so it is accepted
  accepted : first_of (check_rows s) ≡ Ok tt
  accepted =
      let n = length g.masks in
      let few : n ≤ 65536 = omega (arith, script-length g, c.short) in
      by-commands q h.scale h.params holds ∙
      none-answer (Ok tt) (command_rows n (commands_in s)) (rw commands-there
      (pieces-pass 0 (8 + param_count q) 0 n n (pieces_in g.commands) c.pieces (omega arith) few))

  -- ---- what it says
  -- so its commands are those given
  commands-back : map signed (shortened (script_pieces s)) ≡ g.commands
  unfolding shortened
  commands-back =
      let ps = pieces_in g.commands in
      ap (λ (l : List Piece). map signed (shortened l)) (ap script_pieces (sym (script-is g)) ∙ pieces-back g c) ∙
      ap (λ (l : List Piece). map signed (joined l)) (starts-back 0 ps) ∙
      ap (map signed) (joined-pieces given_operands (map bits_of g.commands)) ∙
      numbers-back g.commands h.commands

  -- and its mask bytes
  masks-back : take (raw_at s 7) (drop (4 * raw_at s 6) s) ≡ g.masks
  unfolding padded_bytes
  masks-back =
      let n = length g.masks in
      rw (there.masks, there.masks_at, masks-there q) (take_at g.masks (zeros_behind n) n refl)

  -- and its calls those given
  calls_back : calls_made s ≡ calls_given g.masks (pieces_in g.commands)
  unfolding padded_bytes
  calls_back =
      let n = length g.masks in
      rw (there.masks_at, commands-there)
      (pieces-call s g.masks (zeros_behind n) (4 * word_count q) (masks-there q) 0 (8 + param_count q) 0 n
      (pieces_in g.commands) c.pieces (omega arith))

  -- it says what was given
  says-given : given_in s ≡ kept g
  unfolding given_in
  says-given =
      cc (
        scale-said q h.scale h.params holds,
        params-said q h.scale h.params holds,
        commands-back,
        masks-back,
      )

-- what is written reads back
pub written_back : (g : Given) (room : ℕ) → HeldGiven g → write_refuses (write_answer g room) ≡ false → ReadsBack g
written_back g room h e =
    let c = unrefused g room e in
    rw (script-is g) (record { accepted = accepted g h c; same = says-given g h c; calls = calls_back g h c })
