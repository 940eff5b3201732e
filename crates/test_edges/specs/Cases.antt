-- What a run of a case may take for granted.
use Rattle.std.specs.Prelude.{ℕ, ◌+◌, ◌*◌, ◌/◌, ◌≤◌, List, length}

-- ---- the ten words of its start are there, and the script, of so many bytes, with the list, of so
-- many words, before and after
abbrev pub Whole : List ℕ → List ℕ → ℕ → ℕ → Type 0
Whole head case size words =
    (40 ≤ length head) × ((words ≤ 600) × (4 * ((size + 3) / 4 + 2 * words) ≤ length case))
