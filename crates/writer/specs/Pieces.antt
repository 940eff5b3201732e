-- Command words cut into pieces, which are a kind and its operands (request 1). A mask is given as
-- its kind and a length; in a script its start stands between the two.
use Rattle.std.specs.Prelude.{◌≡◌, Bool, cond, ◌||◌, List, [], ◌∷◌, ◌++◌, ℕ, zero, suc, ◌+◌, eqb, length, take, drop}
use Rattle.std.specs.Prelude.{get_or}
use Rattle.commands.specs.Commands.{operands_of}

pub record Piece : Type 0 where
  pub kind : ℕ
  pub operands : List ℕ

-- the pieces of some words, at most f of them, where a kind has so many operands; the last one has
-- those that are left
unfoldable pub pieces_by : ℕ → (ℕ → ℕ) → List ℕ → List Piece
pieces_by zero many ws = []
pieces_by (suc f) many [] = []
pieces_by (suc f) many (k ∷ ws) =
    record { kind = k; operands = take (many k) ws } ∷ pieces_by f many (drop (many k) ws)

unfoldable pub pieces_of : (ℕ → ℕ) → List ℕ → List Piece
pieces_of many ws = pieces_by (length ws) many ws

-- pieces as words again
abbrev pub piece_words : Piece → List ℕ
piece_words p = p.kind ∷ p.operands

unfoldable pub joined : List Piece → List ℕ
joined [] = []
joined (p ∷ ps) = piece_words p ++ joined ps

-- none of the pieces is cut off
abbrev pub Whole : (ℕ → ℕ) → List Piece → Type 0
Whole many [] = Unit {0}
Whole many (p ∷ ps) = (length p.operands ≡ many p.kind) × Whole many ps

-- ---- masks: kinds 2 and 3
abbrev pub is_mask : ℕ → Bool
is_mask k = eqb k 2 || eqb k 3

-- how many operands a kind has as it is given: a mask its length alone
unfoldable pub given_operands : ℕ → ℕ
given_operands k = cond (is_mask k) 1 (operands_of k)

-- the given piece at word i
abbrev pub piece_at : List ℕ → ℕ → Piece
piece_at ws i = record { kind = get_or ws i 0; operands = take (given_operands (get_or ws i 0)) (drop (i + 1) ws) }

-- the mask bytes that a given piece takes
abbrev pub bytes_taken : Piece → ℕ
bytes_taken p = cond (is_mask p.kind) (get_or p.operands 0 0) 0

-- how many of the pieces are masks
unfoldable pub masks_in : List Piece → ℕ
masks_in [] = 0
masks_in (p ∷ ps) = cond (is_mask p.kind) 1 0 + masks_in ps

-- a piece with its start, if it is a mask
abbrev pub started : ℕ → Piece → Piece
started n p = record { kind = p.kind; operands = cond (is_mask p.kind) (n ∷ p.operands) p.operands }

-- every mask starts where those before it end
unfoldable pub starts_from : ℕ → List Piece → List Piece
starts_from n [] = []
starts_from n (p ∷ ps) = started n p ∷ starts_from (n + bytes_taken p) ps

-- and without it
abbrev pub unstarted : Piece → Piece
unstarted p = record { kind = p.kind; operands = cond (is_mask p.kind) (drop 1 p.operands) p.operands }
