-- Room for the record words of a run's calls (01's table, NO_ROOM).
use Rattle.std.specs.Prelude.{Bool, true, false, List, [], ◌∷◌, ◌++◌, ℕ, ◌-◌, leb, ℤ, length, Ok, Err}
use Rattle.words.specs.declared.answer.Refusal.TheVariants.{NoRoom}
use Rattle.words.specs.Answers.{Answer}

-- the record words of one call, and its place
pub record Step : Type 0 where
  pub place : ℕ
  pub words : List ℤ

-- those of some calls, first to last
abbrev pub words_along : List Step → List ℤ
words_along [] = []
words_along (t ∷ ts) = t.words ++ words_along ts

-- the answer, and the words of the calls before the first that does not fit
pub record Fitted : Type 0 where
  pub said : Answer
  pub words : List ℤ

abbrev pub fit_by : Bool → Step → Fitted → Fitted
fit_by true t rest = record { said = rest.said; words = t.words ++ rest.words }
fit_by false t rest = record { said = Err (NoRoom t.place); words = [] }

-- what fits into a room, call by call
unfoldable pub fitted : ℕ → List Step → Fitted
fitted room [] = record { said = Ok tt; words = [] }
fitted room (t ∷ ts) = fit_by (leb (length t.words) room) t (fitted (room - length t.words) ts)
