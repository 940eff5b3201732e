-- Laws of the walk that stores the commands: what is left of them after each piece has no fault, and
-- laid behind what is stored it is the whole. Assumes nothing.
use mathlib.Core.Path.{◌≡◌, refl, sym, ap, ◌∙◌}
use mathlib.Core.Bool.{false}
use mathlib.Core.List.{List, [], ◌++◌, map}
use Prim.Native.Nat.{ℕ, ◌+◌, ◌-◌, ◌*◌, ◌≤◌, ◌<◌}
use native.Mathlib.Omega.{arith}
use lib.IntN.{ℤ}
use lib.ListN.{length, drop, get_or, length-append, drop_of_length-le}
use Rattle.fixed.specs.Integers.{bits_of}
use Rattle.words.specs.Bytes.{laid}
use Rattle.words.proofs.Laid.{laid-behind}
use Rattle.commands.specs.Commands.{operands_of}
use Rattle.std.proofs.Common.{Ok}
use Rattle.writer.specs.Pieces.{Piece, pieces_of, piece_words, joined, given_operands, piece_at, bytes_taken}
use Rattle.writer.specs.Pieces.{started, starts_from}
use Rattle.writer.specs.ToWrite.{command_words}
use Rattle.writer.specs.Refusals.{write_number, bad_piece, too_long, piece_rows, FineCommands}
use Rattle.writer.proofs.Cutting.{piece-at, no_pieces, started-whole}
use Rattle.writer.proofs.PieceFaults.{found, next_piece, found-next, piece-there, piece-words}
use Rattle.writer.proofs.PieceFaults.{taken-left, none-hold}
use Rattle.writer.proofs.PieceFaults.{pieces-refuse}

-- ---- what is left has no fault
pub record Sound (ws : List ℕ) (i start : ℕ) : Type 0 where
  pub bytes : ℕ
  pub few : bytes ≤ 65536
  pub taken : start ≤ bytes
  pub faultless : found ws i (bytes - start) ≡ Ok 0
  pub inside : i ≤ length ws

-- at the start all is left
pub sound-first : (cs : List ℤ) → FineCommands cs → Sound (map bits_of cs) 0 0
sound-first cs f =
    let z : f.bytes - 0 ≡ f.bytes = omega arith in
    record {
      bytes = f.bytes;
      few = f.few;
      taken = omega arith;
      faultless = rw z f.faultless;
      inside = omega arith;
    }

module _ (ws : List ℕ) (i start : ℕ) (h : i < length ws) (s : Sound ws i start) where
  -- no test of the piece holds
  sound-tests : (bad_piece (piece_at ws i) ≡ false) × (too_long (bytes_taken (piece_at ws i)) (s.bytes - start) ≡ false)
  unfolding piece_rows
  sound-tests =
      let left = s.bytes - start in
      let c = rw (piece-at ws i h) at
      (none-hold (Ok 0) (piece_rows i left (pieces_of given_operands (drop i ws)))
      (pieces-refuse i left (pieces_of given_operands (drop i ws))) (ap write_number s.faultless)) in
      (c.0, c.1.0)

  -- a piece ends among the words
  pub sound-there : next_piece ws i ≤ length ws
  sound-there = piece-there ws i h sound-tests.0

  -- and its bytes among the mask bytes
  pub sound-taken : start + bytes_taken (piece_at ws i) ≤ s.bytes
  sound-taken = omega (arith, s.taken, taken-left (bytes_taken (piece_at ws i)) (s.bytes - start) sound-tests.1)

  -- so what is left behind it has none
  pub sound-next : Sound ws (next_piece ws i) (start + bytes_taken (piece_at ws i))
  sound-next =
      let l = bytes_taken (piece_at ws i) in
      let e : s.bytes - start - l ≡ s.bytes - (start + l) = omega arith in
      record {
        bytes = s.bytes;
        few = s.few;
        taken = sound-taken;
        faultless =
            ap (found ws (next_piece ws i)) (sym e) ∙
            sym (found-next ws i h (s.bytes - start) sound-tests.0 sound-tests.1) ∙ s.faultless;
        inside = sound-there;
      }

-- ---- what is left is laid behind what is stored
pub left : List ℕ → ℕ → ℕ → List ℕ
left ws i start = joined (starts_from start (pieces_of given_operands (drop i ws)))

-- all of them
pub left-all : (cs : List ℤ) → command_words cs ≡ left (map bits_of cs) 0 0
unfolding left command_words
left-all cs = refl

-- none
pub left-none : (ws : List ℕ) (i start : ℕ) → length ws ≤ i → left ws i start ≡ []
unfolding left joined starts_from
left-none ws i start h =
    ap (λ (l : List ℕ). joined (starts_from start (pieces_of given_operands l))) (drop_of_length-le ws h) ∙
    ap (λ (ps : List Piece). joined (starts_from start ps)) (no_pieces given_operands)

-- the first of them, and the rest
pub left-first : (ws : List ℕ) (i start : ℕ) → i < length ws →
    left ws i start ≡
    piece_words (started start (piece_at ws i)) ++ left ws (next_piece ws i) (start + bytes_taken (piece_at ws i))
unfolding left joined starts_from
left-first ws i start h = ap (λ (ps : List Piece). joined (starts_from start ps)) (piece-at ws i h)

-- a piece that is not cut off has in a script the operands of its kind
pub stored-words : (ws : List ℕ) (i start : ℕ) → i < length ws → next_piece ws i ≤ length ws →
    length (piece_words (started start (piece_at ws i))) ≡ 1 + operands_of (get_or ws i 0)
stored-words ws i start h l =
    omega (arith, started-whole start (piece_at ws i) (omega (arith, piece-words ws i h l)))

-- a piece stored, and the rest behind it
piece-laid : (b : List ℕ) (to : ℕ) (ws : List ℕ) (i start : ℕ) → i < length ws → next_piece ws i ≤ length ws →
    4 * (to + length (left ws i start)) ≤ length b →
    laid b to (left ws i start) ≡
    laid (laid b to (piece_words (started start (piece_at ws i)))) (to + 1 + operands_of (get_or ws i 0))
    (left ws (next_piece ws i) (start + bytes_taken (piece_at ws i)))
piece-laid b to ws i start h l r =
    let p = piece_words (started start (piece_at ws i)) in
    let q = left ws (next_piece ws i) (start + bytes_taken (piece_at ws i)) in
    let e = left-first ws i start h in
    let n = stored-words ws i start h l in
    ap (laid b to) e ∙
    sym (laid-behind b to p (omega (arith, r, ap length e, length-append p q)) q (to + 1 + operands_of (get_or ws i 0))
    (omega (arith, n)))

-- so a turn keeps the walk's invariant
pub turned : (ws : List ℕ) (i start : ℕ) → i < length ws → Sound ws i start →
    (b b' whole : List ℕ) (to many next taken : ℕ) → many ≡ operands_of (get_or ws i 0) →
    next ≡ given_operands (get_or ws i 0) → taken ≡ bytes_taken (piece_at ws i) →
    b' ≡ laid b to (piece_words (started start (piece_at ws i))) → 4 * (to + length (left ws i start)) ≤ length b →
    laid b to (left ws i start) ≡ whole →
    (laid b' (to + (1 + many)) (left ws (i + (1 + next)) (start + taken)) ≡ whole) ×
    (Sound ws (i + (1 + next)) (start + taken) ×
    (4 * (to + (1 + many) + length (left ws (i + (1 + next)) (start + taken))) ≤ length b))
turned ws i start h s b b' whole to many next taken m n t e r w =
    let l = sound-there ws i start h s in
    let p = piece_words (started start (piece_at ws i)) in
    let q = left ws (next_piece ws i) (start + bytes_taken (piece_at ws i)) in
    let o = stored-words ws i start h l in
    let stored : to + (1 + operands_of (get_or ws i 0)) ≡ to + 1 + operands_of (get_or ws i 0) = omega arith in
    let behind : i + (1 + given_operands (get_or ws i 0)) ≡ next_piece ws i = omega arith in
    rw (m, n, t, stored, behind) (
      ap (λ (x : List ℕ). laid x (to + 1 + operands_of (get_or ws i 0)) q) e ∙ sym (piece-laid b to ws i start h l r) ∙
          w,
      (
        sound-next ws i start h s,
        omega (arith, r, o, ap length (left-first ws i start h), length-append p q),
      ),
    )
