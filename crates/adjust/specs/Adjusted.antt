-- The adjustment of a map that lists hold.
use Rattle.std.specs.Prelude.{◌≡◌, List, map, ℕ, ℤ, length}
use Rattle.fixed.specs.declared.Fixed.{Fixed}
use Rattle.fixed.specs.Fixed.{from_bits}
use Rattle.stems.specs.Edge.{max_hints}
use Rattle.hintmap.specs.Lent.{map_in, Lent}
use Rattle.adjust.specs.Pass.{Notes}
use Rattle.adjust.specs.Second.{second_pass, adjust_of}

-- notes as numbers
unfoldable pub notes_in : List ℕ → List ℤ → ℕ → Notes
notes_in at by k = record { at = at; by = map from_bits by; count = k }

-- the first k notes are tried
pub record Retried (ls : List ℤ) (ts : List ℕ) (n : ℕ) (at : List ℕ) (by : List ℤ) (k : ℕ) (ls' : List ℤ) : Type 0 where
  pub lent : Lent ls' ts n
  pub map : (s : Fixed) → map_in ls' ts n s ≡ second_pass k (notes_in at by k) (map_in ls ts n s)

-- numbers enough for the moves of all notes
abbrev pub NoteRoom : List ℤ → Type 0
NoteRoom by = length by ≡ max_hints

-- the map is adjusted, whatever its scale; the list that was lent for moves stays as long as it was
pub record Adjusted (ls : List ℤ) (ts : List ℕ) (n : ℕ) (ls' by' : List ℤ) : Type 0 where
  pub lent : Lent ls' ts n
  pub map : (s : Fixed) → map_in ls' ts n s ≡ adjust_of (map_in ls ts n s)
  pub long : NoteRoom by'
