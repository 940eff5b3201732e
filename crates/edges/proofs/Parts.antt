-- The parts of a line that counts, and the room of such lines: under 100 bytes. Assumes nothing.
use mathlib.Core.Path.{◌≡◌, refl}
use mathlib.Core.Bool.{false}
use mathlib.Core.List.{List, ◌++◌}
use Prim.Native.Nat.{ℕ, ◌+◌, ◌≤◌, ◌<◌}
use native.Mathlib.Omega.{arith}
use lib.ListN.{length, length-append}
use Rattle.listing.specs.declared.summary.Summary.{Summary}
use Rattle.decimal.specs.Decimal.{number_text}
use Rattle.decimal.proofs.Sizes.{number-room}
use Rattle.edges.specs.Page.{edges_text, pairs_text, ghosts_text, locked_text, refused_text, place_text, end_text}
use Rattle.edges.specs.Page.{summary_line}

-- a number behind its name
abbrev pub part : List ℕ → ℕ → List ℕ
part name n = name ++ number_text n

part_length : (name : List ℕ) (n : ℕ) (rest : List ℕ) → n < 4294967296 →
    length (part name n ++ rest) ≤ length name + 10 + length rest
part_length name n rest h =
    omega
    (arith, length-append (part name n) rest, length-append name (number_text n), number-room n h)

-- ---- the summary
module _ (s : Summary) where
  abbrev pub from_locked : List ℕ
  from_locked = part locked_text s.locked ++ end_text false

  abbrev pub from_ghosts : List ℕ
  from_ghosts = part ghosts_text s.ghosts ++ from_locked

  abbrev pub from_pairs : List ℕ
  from_pairs = part pairs_text s.pairs ++ from_ghosts

  pub summary-split : summary_line s ≡ part edges_text s.edges ++ from_pairs
  unfolding summary_line
  summary-split = refl

  pub summary-room : s.edges ≤ 96 → s.pairs ≤ 96 → s.ghosts ≤ 96 → s.locked ≤ 96 → length (summary_line s) ≤ 100
  unfolding summary_line
  summary-room e p g l =
      omega (
        arith,
        part_length edges_text s.edges from_pairs (omega (arith, e)),
        part_length pairs_text s.pairs from_ghosts (omega (arith, p)),
        part_length ghosts_text s.ghosts from_locked (omega (arith, g)),
        part_length locked_text s.locked (end_text false) (omega (arith, l)),
      )

-- ---- a refusal
abbrev pub from_place : ℕ → List ℕ
from_place p = part place_text p ++ end_text false

pub refusal-room : (n p : ℕ) → n < 4294967296 → p < 4294967296 → length (part refused_text n ++ from_place p) ≤ 100
refusal-room n p h g =
    omega (arith, part_length refused_text n (from_place p) h, part_length place_text p (end_text false) g)
