-- The glyphs of a label run (request 5): command words and mask bytes, each end to end in one list,
-- and a list of two lengths a glyph, words and bytes.
use Rattle.std.specs.Prelude.{Bool, true, false, ◌||◌, not, List, [], ◌∷◌, ℕ, ◌+◌, ◌%◌, eqb, ltb, ℤ, pos, negsuc}
use Rattle.std.specs.Prelude.{length, take, drop}
use Rattle.fixed.specs.Integers.{bits_of}
use Rattle.zones.specs.declared.state.HintState.{HintState}
use Rattle.hints.specs.Calls.{new_drawing}
use Rattle.words.specs.Words.{given_word}
use Rattle.words.specs.Answers.{Answer, first_of}
use Rattle.commands.specs.Commands.{CommandAt, commands_of}
use Rattle.commands.specs.Faults.{command_rows}
use Rattle.run.specs.Room.{words_along}
use Rattle.run.specs.Run.{Asked, calls_of, steps_of}

pub record Glyph : Type 0 where
  pub words : List ℤ
  pub masks : List ℕ

abbrev pub glyph : List ℤ → List ℕ → Glyph
glyph words masks = record { words = words; masks = masks }

-- each takes its words and its bytes from what is left of both lists
unfoldable pub glyphs_of : List ℤ → List ℤ → List ℕ → List Glyph
glyphs_of [] words masks = []
glyphs_of (n ∷ []) words masks = []
glyphs_of (n ∷ b ∷ ls) words masks =
    glyph (take (bits_of n) words) (take (bits_of b) masks) ∷ glyphs_of ls (drop (bits_of n) words)
    (drop (bits_of b) masks)

-- ---- RUN_COUNT
abbrev pub below0 : ℤ → Bool
below0 (pos n) = false
below0 (negsuc n) = true

unfoldable pub any_negative : List ℤ → Bool
any_negative [] = false
any_negative (n ∷ ls) = below0 n || any_negative ls

-- every other one, the first among them
unfoldable pub every_other : List ℤ → List ℤ
every_other [] = []
every_other (n ∷ []) = n ∷ []
every_other (n ∷ b ∷ ls) = n ∷ every_other ls

-- the sum, which is exact
unfoldable pub total : List ℤ → ℕ
total [] = 0
total (n ∷ ls) = bits_of n + total ls

-- over 64 glyphs, an odd list, a negative length, or lengths that do not fill both lists exactly
unfoldable pub miscounted : List ℤ → ℕ → ℕ → Bool
miscounted ls words bytes =
    ltb 128 (length ls) || (eqb (length ls % 2) 1 || (any_negative ls ||
    (not (eqb (total (every_other ls)) words) || not (eqb (total (every_other (drop 1 ls))) bytes))))

-- ---- a glyph, by the definitions of a script's run
-- its commands: places count from its own first word
abbrev pub commands_in : Glyph → List CommandAt
commands_in g = commands_of 0 (given_word g.words) (length g.words)

-- the first fault among them: a mask ends within the glyph's own bytes
unfoldable pub fault_of : Glyph → Answer
fault_of g = first_of (command_rows (length g.masks) (commands_in g))

-- as calls: masks start from its own first byte
abbrev pub calls_in : Glyph → List Asked
calls_in g = calls_of g.masks 0 (commands_in g)

-- their record words, over a new drawing
unfoldable pub records_of : HintState → Glyph → List ℤ
records_of st g = words_along (steps_of st (new_drawing st.scale) (calls_in g))
