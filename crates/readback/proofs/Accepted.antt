-- A script that passes all tests has whole commands. Assumes nothing.
use mathlib.Core.Path.{◌≡◌}
use mathlib.Core.Bool.{false}
use mathlib.Core.List.{List, ◌∷◌}
use Prim.Native.Nat.{ℕ, ◌+◌, ◌*◌, ◌≤◌, ◌<◌}
use native.Mathlib.Omega.{arith}
use lib.ListN.{drop}
use Rattle.std.specs.Prelude.{Ok}
use Rattle.words.specs.Words.{raw_at}
use Rattle.words.specs.Answers.{first_of}
use Rattle.words.proofs.Words.{raw-drop, from-length}
use Rattle.commands.specs.Commands.{operands_of, next_at, read_at}
use Rattle.commands.specs.Faults.{is_bad}
use Rattle.commands.proofs.Laws.{from_start, read-fine, along}
use Rattle.writer.specs.Pieces.{Piece, Whole}
use Rattle.script.specs.Script.{check_rows}
use Rattle.script.proofs.Passed.{passed}
use Rattle.readback.specs.ReadBack.{script_piece, WholeCommands}
use Rattle.readback.proofs.Shortened.{pieces_left, all_left, none_left, first-left}

-- ---- a script that passes all tests
module _ (s : List ℕ) (e : first_of (check_rows s) ≡ Ok tt) where
  -- its words from the first command on
  abbrev pub behind : ℕ → ℕ
  behind = raw_at (drop (4 * raw_at s 4) s)

  -- what holds so at each command holds at the first
  pub along-commands : (P : ℕ → Type 0) → ((i : ℕ) → raw_at s 5 ≤ i → P i) →
      ((i : ℕ) → i < raw_at s 5 → is_bad (read_at behind (raw_at s 5) i).command ≡ false → P (next_at behind i) → P i) →
      P 0
  along-commands P last one =
      let n = raw_at s 5 in
      along (raw_at s 4) behind n (raw_at s 7) P last one n 0 (omega arith)
      (rw (from_start (raw_at s 4) behind n) at (passed s e).commands)

  -- its pieces from word i of the commands on
  abbrev pub pieces : ℕ → List Piece
  pieces i = pieces_left (raw_at s) (raw_at s 4) (raw_at s 5) i

  -- the first of them
  pub next-pieces : (i : ℕ) → next_at behind i ≤ raw_at s 5 →
      pieces i ≡ script_piece (raw_at s) (raw_at s 4 + i) ∷ pieces (next_at behind i)
  next-pieces i h =
      let d = raw-drop s (raw_at s 4) i in
      rw d (first-left (raw_at s) (raw_at s 4) (raw_at s 5) i (rw d at h))

  -- none is cut off
  whole : Whole operands_of (pieces 0)
  whole =
      along-commands (λ i. Whole operands_of (pieces i))
      (λ i h. rw (none_left (raw_at s) (raw_at s 4) (raw_at s 5) i h) tt)
      (λ i h f w. rw (next-pieces i (read-fine behind (raw_at s 5) i f).0)
      (from-length (raw_at s) (raw_at s 4 + i + 1) (operands_of (raw_at s (raw_at s 4 + i))), w))

  -- where its words say that they are
  pub whole-commands : {first n : ℕ} → first ≡ raw_at s 4 → n ≡ raw_at s 5 → WholeCommands s first n
  whole-commands {first} {n} f g =
      let p = (passed s e).fine in
      rw (f, g)
      (record {
        there = p.ends;
        short = p.short;
        whole = rw (all_left (raw_at s) (raw_at s 4) (raw_at s 5)) at whole;
      })
