-- Laws of room: a run fits whole, or stops at the first command whose records do not fit. Assumes
-- nothing.
use mathlib.Core.Path.{◌≡◌, refl, ap}
use mathlib.Core.Bool.{Bool, true, false}
use mathlib.Core.List.{List, [], ◌∷◌, ◌++◌}
use mathlib.Core.Logic.{◌⊎◌, inl, inr}
use Prim.Native.Nat.{ℕ, ◌+◌, ◌-◌, ◌≤◌, ◌<◌}
use native.Mathlib.Omega.{arith}
use lib.Dec.{leb}
use lib.ListN.{length, length-append}
use borrow.Author.Tests.{leb-true, leb-false, le-leb, lt-leb}
use Rattle.std.specs.Prelude.{Ok, Err}
use Rattle.words.specs.declared.answer.Refusal.TheVariants.{NoRoom}
use Rattle.run.specs.Room.{Step, words_along, Fitted, fit_by, fitted}

-- all records fit
pub fits_whole : (room : ℕ) (ts : List Step) → length (words_along ts) ≤ room →
    fitted room ts ≡ record { said = Ok tt; words = words_along ts }
unfolding fitted
fits_whole room [] h = refl
fits_whole room (t ∷ ts) h =
    let n = length-append t.words (words_along ts) in
    rw (le-leb (length t.words) room (omega arith))
    (ap (λ (f : Fitted). fit_by true t f) (fits_whole (room - length t.words) ts (omega arith)))

-- those of some commands do, and those of the next do not
pub fits-until : (room : ℕ) (before : List Step) (at : Step) (after : List Step) → length (words_along before) ≤ room →
    room < length (words_along before) + length at.words →
    fitted room (before ++ at ∷ after) ≡ record { said = Err (NoRoom at.place); words = words_along before }
unfolding fitted
fits-until room [] at after h k = rw (lt-leb (length at.words) room (omega arith))
fits-until room (t ∷ before) at after h k =
    let n = length-append t.words (words_along before) in
    rw (le-leb (length t.words) room (omega arith))
    (ap (λ (f : Fitted). fit_by true t f)
    (fits-until (room - length t.words) before at after (omega arith) (omega arith)))

-- the first command that does not fit
pub record Over (room : ℕ) (ts : List Step) : Type 0 where
  pub before : List Step
  pub at : Step
  pub after : List Step
  pub split : ts ≡ before ++ at ∷ after
  pub fit : length (words_along before) ≤ room
  pub past : room < length (words_along before) + length at.words

-- one of the two holds
pub fits-or-not : (room : ℕ) (ts : List Step) → (length (words_along ts) ≤ room) ⊎ Over room ts
fits-or-not room [] = inl (omega arith)
fits-or-not room (t ∷ ts) = by (leb (length t.words) room) refl (fits-or-not (room - length t.words) ts)
  where
    by : (b : Bool) → leb (length t.words) room ≡ b →
        (length (words_along ts) ≤ room - length t.words) ⊎ Over (room - length t.words) ts →
        (length (words_along (t ∷ ts)) ≤ room) ⊎ Over room (t ∷ ts)
    by false e w =
        inr (record {
          before = [];
          at = t;
          after = ts;
          split = refl;
          fit = omega arith;
          past = omega (arith, leb-false (length t.words) room e);
        })
    by true e (inl h) =
        inl (omega (arith, leb-true (length t.words) room e, length-append t.words (words_along ts)))
    by true e (inr o) =
        let l = leb-true (length t.words) room e in
        let n = length-append t.words (words_along o.before) in
        inr (record {
          before = t ∷ o.before;
          at = o.at;
          after = o.after;
          split = ap (λ (l : List Step). t ∷ l) o.split;
          fit = omega arith;
          past = omega arith;
        })
