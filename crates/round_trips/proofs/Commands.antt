-- Commands and pieces: whole pieces are read as commands, wherever they stand among a script's words;
-- those that the writer takes pass the reader's tests; and those of a script that passes them are sound
-- pieces with the commands' masks. Assumes nothing.
use mathlib.Core.Path.{◌≡◌, refl, sym, ap, ◌∙◌}
use mathlib.Core.Bool.{Bool, true, false, cond}
use mathlib.Core.List.{List, [], ◌∷◌}
use Prim.Native.Nat.{ℕ, zero, suc, ◌+◌, ◌-◌, ◌≤◌, ◌<◌, ◌^◌}
use native.Mathlib.Omega.{arith}
use lib.Dec.{eqb, ltb}
use lib.ListN.{length, get_or, length-append}
use borrow.Author.Tests.{ne_eqb, le-ltb, lt-leb}
use Rattle.std.specs.Prelude.{Ok}
use Rattle.fixed.proofs.Tests.{both_false}
use Rattle.words.specs.Words.{raw_at, words_from}
use Rattle.words.specs.Answers.{first_of}
use Rattle.words.proofs.Words.{raw-drop, from-length}
use Rattle.header.specs.Header.{outside}
use Rattle.header.proofs.Tests.{high, before-end}
use Rattle.commands.specs.declared.reading.Marking.TheVariants.{Bad}
use Rattle.commands.specs.declared.reading.Command.TheVariants.{Mark}
use Rattle.commands.specs.Commands.{operands_of, command_of, next_at, read_at, CommandAt, commands_from}
use Rattle.commands.specs.Faults.{mask_past, is_bad, has_bad_mask, fault_rows, command_rows}
use Rattle.commands.proofs.Laws.{none, first, from_start, read-fine}
use Rattle.script.specs.Script.{commands_in, check_rows}
use Rattle.writer.specs.Pieces.{Piece, piece_words, joined, Whole, is_mask, given_operands, bytes_taken, started}
use Rattle.writer.specs.Pieces.{starts_from}
use Rattle.writer.specs.Refusals.{bad_piece, too_long, piece_rows}
use Rattle.writer.proofs.Cutting.{mask-two}
use Rattle.writer.proofs.PieceFaults.{NoneHold, taken-left}
use Rattle.readback.specs.ReadBack.{script_pieces, script_piece}
use Rattle.readback.proofs.Accepted.{behind, along-commands, pieces, next-pieces}
use Rattle.readback.proofs.Shortened.{all_left, none_left}
use Rattle.round_trips.specs.RoundTrips.{Bytes, Part, parts_in, parts_of, piece_word}
use Rattle.round_trips.proofs.WordBytes.{Holds, holds-front, holds-back, from-small, word_small}
use Rattle.round_trips.proofs.EndToEnd.{Sound, mask, plain, part_of, parts_of_pieces}
use Rattle.round_trips.proofs.EndToEnd as E

-- ---- kinds
-- one that is greater is another
unlike : (k j : ℕ) → j < k → eqb k j ≡ false
unlike k j l = ne_eqb k j (λ e. omega arith)

-- there is none above 9
no-command : (w : ℕ → ℕ) (i k : ℕ) → 9 < k → command_of w i k ≡ Mark Bad
unfolding command_of
no-command w i k l =
    rw (
      unlike k 1 (omega arith),
      unlike k 2 (omega arith),
      unlike k 3 (omega arith),
      unlike k 4 (omega arith),
      unlike k 5 (omega arith),
      unlike k 6 (omega arith),
      unlike k 7 (omega arith),
      unlike k 8 (omega arith),
      unlike k 9 (omega arith),
    )

module _ (w : ℕ → ℕ) (i bytes : ℕ) where
  -- the mask of a command, where it is one
  abbrev pub mask_at : Part
  mask_at = record { start = w (i + 1); bytes = w (i + 2) }

  -- a command is bad if its kind is not from 1 to 9, and has a mask if its kind is one
  pub by_kind : (k : ℕ) →
      (is_bad (command_of w i k) ≡ outside 1 9 k) ×
      ((has_bad_mask bytes (command_of w i k) ≡ cond (is_mask k) (mask_past (w (i + 1)) (w (i + 2)) bytes) false) ×
      (parts_in (command_of w i k) ≡ cond (is_mask k) (mask_at ∷ []) []))
  unfolding command_of
  by_kind zero = (refl, (refl, refl))
  by_kind (suc zero) = (refl, (refl, refl))
  by_kind (suc (suc zero)) = (refl, (refl, refl))
  by_kind (suc (suc (suc zero))) = (refl, (refl, refl))
  by_kind (suc (suc (suc (suc zero)))) = (refl, (refl, refl))
  by_kind (suc (suc (suc (suc (suc zero))))) = (refl, (refl, refl))
  by_kind (suc (suc (suc (suc (suc (suc zero)))))) = (refl, (refl, refl))
  by_kind (suc (suc (suc (suc (suc (suc (suc zero))))))) = (refl, (refl, refl))
  by_kind (suc (suc (suc (suc (suc (suc (suc (suc zero)))))))) = (refl, (refl, refl))
  by_kind (suc (suc (suc (suc (suc (suc (suc (suc (suc zero))))))))) = (refl, (refl, refl))
  by_kind (suc (suc (suc (suc (suc (suc (suc (suc (suc (suc k)))))))))) =
      let n = suc (suc (suc (suc (suc (suc (suc (suc (suc (suc k))))))))) in
      rw (no-command w i n (omega arith), high 1 9 n (omega arith), unlike n 2 (omega arith), unlike n 3 (omega arith))
      (refl, (refl, refl))

-- ---- commands that pieces are read as
-- a command is made of its own words, wherever they stand
pub command-moved : (v w : ℕ → ℕ) (i k : ℕ) → ((j : ℕ) → j < 1 + operands_of k → w (i + j) ≡ v j) →
    command_of w i k ≡ command_of v 0 k
unfolding command_of operands_of
command-moved v w i zero h = refl
command-moved v w i (suc zero) h = rw (h 1 (omega arith), h 2 (omega arith))
command-moved v w i (suc (suc zero)) h = rw (h 1 (omega arith), h 2 (omega arith))
command-moved v w i (suc (suc (suc zero))) h = rw (h 1 (omega arith), h 2 (omega arith))
command-moved v w i (suc (suc (suc (suc zero)))) h = refl
command-moved v w i (suc (suc (suc (suc (suc zero))))) h =
    let a : i + 1 + 1 ≡ i + 2 = omega arith in
    rw (h 1 (omega arith), a, h 2 (omega arith))
command-moved v w i (suc (suc (suc (suc (suc (suc zero)))))) h =
    let a : i + 1 + 1 ≡ i + 2 = omega arith in
    rw (h 1 (omega arith), a, h 2 (omega arith))
command-moved v w i (suc (suc (suc (suc (suc (suc (suc zero))))))) h =
    let a : i + 1 + 1 ≡ i + 2 = omega arith in
    let b : i + 3 + 1 ≡ i + 4 = omega arith in
    let c : i + 5 + 1 ≡ i + 6 = omega arith in
    rw (a, b, c)
    (rw (
      h 1 (omega arith),
      h 2 (omega arith),
      h 3 (omega arith),
      h 4 (omega arith),
      h 5 (omega arith),
      h 6 (omega arith),
    ))
command-moved v w i (suc (suc (suc (suc (suc (suc (suc (suc zero)))))))) h = refl
command-moved v w i (suc (suc (suc (suc (suc (suc (suc (suc (suc zero))))))))) h = refl
command-moved v w i (suc (suc (suc (suc (suc (suc (suc (suc (suc (suc k)))))))))) h =
    let n = suc (suc (suc (suc (suc (suc (suc (suc (suc (suc k))))))))) in
    no-command w i n (omega arith) ∙ sym (no-command v 0 n (omega arith))

-- words that stand from word i on, one by one
pub holds_at : (w : ℕ → ℕ) (i : ℕ) (ns : List ℕ) → Holds w i ns → (j : ℕ) → j < length ns → w (i + j) ≡ get_or ns j 0
holds_at w i [] h j l = absurd (omega arith)
holds_at w i (n ∷ ns) h zero l = let z : i + 0 ≡ i = omega arith in rw z h.0
holds_at w i (n ∷ ns) h (suc j) l =
    let e : i + suc j ≡ i + 1 + j = omega arith in
    rw e (holds_at w (i + 1) ns h.1 j (omega arith))

-- the commands of pieces, the first of which stands at a place
unfoldable pub commands_as : ℕ → List Piece → List CommandAt
commands_as place [] = []
commands_as place (p ∷ ps) =
    record { place = place; command = command_of (piece_word p) 0 p.kind } ∷
    commands_as (place + length (piece_words p)) ps

-- are those of the words that hold them
pub commands-as : (b : ℕ) (w : ℕ → ℕ) (last i : ℕ) (ps : List Piece) → Whole operands_of ps → Holds w i (joined ps) →
    i + length (joined ps) ≡ last → commands_from (last - i) b w last i ≡ commands_as (b + i) ps
unfolding commands_as joined read_at
commands-as b w last i [] g h e = none b w last (last - i) i (omega arith)
commands-as b w last i (p ∷ ps) g h e =
    let q = piece_words p in
    let rest = joined ps in
    let l : i + (length q + length rest) ≡ last = omega (arith, length-append q rest) in
    let next : next_at w i ≡ i + length q = rw h.0 (omega (arith, g.0)) in
    let a : b + (i + length q) ≡ b + i + length q = omega arith in
    let behind = commands-as b w last (i + length q) ps g.1 (holds-back w i (i + length q) q rest refl h)
    (omega (arith, l)) in
    let words : (j : ℕ) → j < 1 + operands_of p.kind → w (i + j) ≡ piece_word p j =
    λ j k. holds_at w i q (holds-front w i q rest h) j (omega (arith, g.0)) in
    let here : (read_at w last i).command ≡ command_of (piece_word p) 0 p.kind =
    rw (le-ltb last (next_at w i) (omega (arith, l)))
    (ap (command_of w i) h.0 ∙ command-moved (piece_word p) w i p.kind words) in
    rw (first b w last i (omega arith), here, next, behind, a)

-- ---- pieces that the writer takes, with their starts
-- a mask that starts where those before it end and takes no more bytes than are left is not past the
-- mask bytes
mask-there : (n len left bytes : ℕ) → len ≤ left → n + left ≤ bytes → bytes ≤ 65536 → mask_past n len bytes ≡ false
unfolding mask_past
mask-there n len left bytes l s f =
    rw (lt-leb (2 ^ 31) n (omega arith)) (before-end len bytes (n + len) (omega arith) (omega arith))

-- none of the tests holds of the command of a piece
piece-passes : (n place left bytes : ℕ) (p : Piece) → bad_piece p ≡ false → too_long (bytes_taken p) left ≡ false →
    n + left ≤ bytes → bytes ≤ 65536 →
    NoneHold (fault_rows bytes place (command_of (piece_word (started n p)) 0 p.kind))
piece-passes n place left bytes p k t s f =
    let kind = (both_false (outside 1 9 p.kind) (ltb (length p.operands) (given_operands p.kind)) k).0 in
    let c = by_kind (piece_word (started n p)) 0 bytes p.kind in
    (c.0 ∙ kind, (c.1.0 ∙ by (is_mask p.kind) t, tt))
  where
    by : (b : Bool) → too_long (cond b (get_or p.operands 0 0) 0) left ≡ false →
        cond b
        (mask_past (get_or (cond b (n ∷ p.operands) p.operands) 0 0)
        (get_or (cond b (n ∷ p.operands) p.operands) 1 0) bytes) false ≡ false
    by true t =
        let len = get_or p.operands 0 0 in
        mask-there n len left bytes (taken-left len left t) s f
    by false t = refl

-- nor of those of all of them, first to last
pub pieces-pass : (n place at left bytes : ℕ) (ps : List Piece) → NoneHold (piece_rows at left ps) →
    n + left ≤ bytes → bytes ≤ 65536 → NoneHold (command_rows bytes (commands_as place (starts_from n ps)))
unfolding piece_rows starts_from commands_as command_rows
pieces-pass n place at left bytes [] c s f = tt
pieces-pass n place at left bytes (p ∷ ps) c s f =
    let t = bytes_taken p in
    let l = taken-left t left c.1.0 in
    let here = piece-passes n place left bytes p c.0 c.1.0 s f in
    let behind = pieces-pass (n + t) (place + length (piece_words (started n p))) (at + length (piece_words p))
    (left - t)
    bytes ps c.1.1 (omega arith) f in
    (here.0, (here.1.0, behind))

-- ---- pieces of a script
module _ (w : ℕ → ℕ) (i : ℕ) where
  -- one more, of a kind from 1 to 9, is sound
  piece-sound : ((j : ℕ) → w j < 2 ^ 32) → outside 1 9 (w i) ≡ false → {ps : List Piece} → Sound ps →
      Sound (script_piece w i ∷ ps)
  unfolding words_from
  piece-sound small r {ps} h = go (is_mask (w i)) refl
    where
      go : (b : Bool) → is_mask (w i) ≡ b → Sound (script_piece w i ∷ ps)
      go true e = rw (mask-two (w i) e) (mask e r (small i, (small (i + 1), (small (i + 1 + 1), tt))) h)
      go false e =
          let n = operands_of (w i) in
          plain e r (from-length w (i + 1) n) (small i, from-small w small (i + 1) n) h

  -- and has the mask at its word
  piece-part : cond (is_mask (w i)) (part_of (script_piece w i) ∷ []) [] ≡ cond (is_mask (w i)) (mask_at w i 0 ∷ []) []
  unfolding words_from
  piece-part = go (is_mask (w i)) refl
    where
      go : (b : Bool) → is_mask (w i) ≡ b →
          cond b (part_of (script_piece w i) ∷ []) [] ≡ cond b (mask_at w i 0 ∷ []) []
      go true e = let d : i + 1 + 1 ≡ i + 2 = omega arith in rw (mask-two (w i) e, d)
      go false e = refl

-- where it passes all tests
module _ (s : List ℕ) (held : Bytes s) (e : first_of (check_rows s) ≡ Ok tt) where
  -- its first command word, how many there are, and the words from there on
  abbrev first_word : ℕ
  first_word = raw_at s 4

  abbrev many : ℕ
  many = raw_at s 5

  abbrev v : ℕ → ℕ
  v = behind s e

  -- from word i of the commands on
  abbrev Told : ℕ → Type 0
  Told i =
      Sound (pieces s e i) × (parts_of (commands_from (many - i) first_word v many i) ≡ parts_of_pieces (pieces s e i))

  -- none
  told_none : (i : ℕ) → many ≤ i → Told i
  unfolding parts_of parts_of_pieces
  told_none i h =
      let n = none_left (raw_at s) first_word many i h in
      (rw n E.none, rw (n, none first_word v many (many - i) i h))

  -- one that is not bad, before those behind it
  told-one : (i : ℕ) → i < many → is_bad (read_at v many i).command ≡ false → Told (next_at v i) → Told i
  unfolding parts_of parts_of_pieces
  told-one i h f q =
      let r = read-fine v many i f in
      let d = raw-drop s first_word i in
      let d1 = raw-drop s first_word (i + 1) in
      let d2 = raw-drop s first_word (i + 2) in
      let e1 : first_word + (i + 1) ≡ first_word + i + 1 = omega arith in
      let e2 : first_word + (i + 2) ≡ first_word + i + 2 = omega arith in
      let c = by_kind v i 0 (v i) in
      let k : outside 1 9 (raw_at s (first_word + i)) ≡ false = rw d at (sym c.0 ∙ ap is_bad (sym r.1) ∙ f) in
      let p = next-pieces s e i r.0 in (
        rw p (piece-sound (raw_at s) (first_word + i) (word_small s held) k q.0),
        rw (first first_word v many i h, r.1, q.1, p, piece-part (raw_at s) (first_word + i))
            (rw (c.1.1, d, d1, d2, e1, e2)),
      )

  -- so all of them
  own : Told 0
  own = along-commands s e Told told_none told-one

  -- its pieces are sound
  pub script-sound : Sound (script_pieces s)
  script-sound = rw (all_left (raw_at s) first_word many) at own.0

  -- and have its commands' masks
  pub script-parts : parts_of (commands_in s) ≡ parts_of_pieces (script_pieces s)
  script-parts =
      ap parts_of (from_start first_word v many) ∙ own.1 ∙ ap parts_of_pieces (all_left (raw_at s) first_word many)
