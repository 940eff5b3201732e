-- The answers that a script can get (01's table).
use Rattle.std.specs.Prelude.{◌≡◌, Bool, not, List, ℕ, eqb, Result, Ok, Err}
use Rattle.words.specs.declared.answer.Refusal.{Refusal}
use Rattle.words.specs.declared.answer.Refusal.TheVariants.{BadScript, BadScale, BadBlues, BadCommand}
use Rattle.words.specs.declared.answer.Refusal.TheVariants.{BadMask, NoRoom}
use Rattle.words.specs.Rows.{Row, first_or}

-- OK, or a refusal
abbrev pub Answer : Type 0
Answer = Result Unit Refusal

-- 01's number
abbrev pub number_of : Answer → ℕ
number_of (Ok tt) = 0
number_of (Err (BadScript p)) = 1
number_of (Err BadScale) = 2
number_of (Err (BadBlues p)) = 3
number_of (Err (BadCommand p)) = 4
number_of (Err (BadMask p)) = 5
number_of (Err (NoRoom p)) = 6

-- 01's place
abbrev pub place_of : Answer → ℕ
place_of (Ok tt) = 0
place_of (Err (BadScript p)) = p
place_of (Err BadScale) = 1
place_of (Err (BadBlues p)) = p
place_of (Err (BadCommand p)) = p
place_of (Err (BadMask p)) = p
place_of (Err (NoRoom p)) = p

-- an answer says what another does: 01's number, and its place
pub record Says (a said : Answer) : Type 0 where
  pub number : number_of said ≡ number_of a
  pub place : place_of said ≡ place_of a

-- every answer but Ok refuses
abbrev pub refuses : Answer → Bool
refuses a = not (eqb (number_of a) 0)

-- the refusal of the first test that holds, or Ok
abbrev pub first_of : List (Row Answer) → Answer
first_of rs = first_or (Ok tt) rs
