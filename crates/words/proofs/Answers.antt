-- Laws of a script's answers: Ok is the one that is numbered 0, and does not refuse. Assumes
-- nothing.
use mathlib.Core.Path.{◌≡◌, refl, sym, ap, ◌∙◌}
use mathlib.Core.Bool.{Bool, true, false, true≢false}
use mathlib.Core.List.{List, ◌++◌}
use Prim.Native.Nat.{ℕ, zero, suc, ◌<◌}
use native.Mathlib.Omega.{arith}
use lib.Dec.{eqb}
use borrow.Author.Tests.{eqb-true, eqb-false, not-true, not-false}
use Rattle.std.specs.Prelude.{Ok, Err}
use Rattle.std.specs.Prelude.{IsErrAnd, is_err}
use Rattle.std.proofs.lemmas.Result.{err_from_is_err_and}
use Rattle.words.specs.declared.answer.Refusal.{Refusal}
use Rattle.words.specs.declared.answer.Refusal.TheVariants.{BadScript, BadScale, BadBlues, BadCommand}
use Rattle.words.specs.declared.answer.Refusal.TheVariants.{BadMask, NoRoom}
use Rattle.words.specs.Rows.{Row}
use Rattle.words.specs.Answers.{Answer, number_of, place_of, Says, refuses, first_of}
use Rattle.words.proofs.Rows.{Refusing, found, onward}

-- an answer numbered from 1 is not Ok
pub refusal : {a : Answer} → 0 < number_of a → a ≡ Ok tt → ⊥
refusal {a} h e =
    let n : number_of a ≡ 0 = ap number_of e in
    omega arith

-- what the exit of a `?` returns is the answer that it was asked of
pub passed_on : {a x : Answer} (r : Refusal) → a ≡ Err r → IsErrAnd x (λ (e : Refusal). e ≡ r) → x ≡ a
passed_on {x = x} r e f =
    let p = err_from_is_err_and x f in
    p.1 ∙ ap Err p.2 ∙ sym e

-- a refusal is numbered from 1
pub numbered : (r : Refusal) → 0 < number_of (Err r)
numbered (BadScript p) = omega arith
numbered BadScale = omega arith
numbered (BadBlues p) = omega arith
numbered (BadCommand p) = omega arith
numbered (BadMask p) = omega arith
numbered (NoRoom p) = omega arith

never : (k : ℕ) → suc k ≡ 0 → ⊥
never k e = omega arith

-- an answer numbered 0 is Ok
pub is_ok : (a : Answer) → number_of a ≡ 0 → a ≡ Ok tt
is_ok (Ok tt) e = refl
is_ok (Err (BadScript p)) e = absurd (never 0 e)
is_ok (Err BadScale) e = absurd (never 1 e)
is_ok (Err (BadBlues p)) e = absurd (never 2 e)
is_ok (Err (BadCommand p)) e = absurd (never 3 e)
is_ok (Err (BadMask p)) e = absurd (never 4 e)
is_ok (Err (NoRoom p)) e = absurd (never 5 e)

-- by whether it is an error
pub err-refuses : (a : Answer) {b : Bool} → b ≡ is_err a → b ≡ true → 0 < number_of a
err-refuses (Ok tt) v e = absurd (true≢false (sym e ∙ v))
err-refuses (Err r) v e = numbered r

pub err-ok : (a : Answer) {b : Bool} → b ≡ is_err a → b ≡ false → a ≡ Ok tt
err-ok (Ok tt) v e = refl
err-ok (Err r) v e = absurd (true≢false (sym v ∙ e))

-- an answer that does not refuse is Ok, and one that does is numbered from 1
pub not-refused : (a : Answer) → refuses a ≡ false → a ≡ Ok tt
not-refused a e = is_ok a (eqb-true (number_of a) 0 (not-false (eqb (number_of a) 0) e))

pub is-refused : (a : Answer) → refuses a ≡ true → 0 < number_of a
is-refused a e = omega (arith, eqb-false (number_of a) 0 (not-true (eqb (number_of a) 0) e))

-- where two lists give Ok, both do
pub both_ok : (rs qs : List (Row Answer)) → Refusing (Ok tt) rs → first_of (rs ++ qs) ≡ Ok tt →
    (first_of rs ≡ Ok tt) × (first_of qs ≡ Ok tt)
both_ok rs qs h e =
    let o = by (refuses (first_of rs)) refl in
    (o, sym (onward (Ok tt) rs qs h o) ∙ e)
  where
    by : (b : Bool) → refuses (first_of rs) ≡ b → first_of rs ≡ Ok tt
    by true r = sym (found (Ok tt) rs qs (refusal (is-refused (first_of rs) r))) ∙ e
    by false r = not-refused (first_of rs) r

-- ---- the number and the place of an answer tell which it is
abbrev answer_by : ℕ → ℕ → Answer
answer_by zero p = Ok tt
answer_by (suc zero) p = Err (BadScript p)
answer_by (suc (suc zero)) p = Err BadScale
answer_by (suc (suc (suc zero))) p = Err (BadBlues p)
answer_by (suc (suc (suc (suc zero)))) p = Err (BadCommand p)
answer_by (suc (suc (suc (suc (suc zero))))) p = Err (BadMask p)
answer_by (suc (suc (suc (suc (suc (suc n)))))) p = Err (NoRoom p)

told : (a : Answer) → answer_by (number_of a) (place_of a) ≡ a
told (Ok tt) = refl
told (Err (BadScript p)) = refl
told (Err BadScale) = refl
told (Err (BadBlues p)) = refl
told (Err (BadCommand p)) = refl
told (Err (BadMask p)) = refl
told (Err (NoRoom p)) = refl

-- two answers that say the same are one
pub says_is : {a said : Answer} → Says a said → said ≡ a
says_is {a} {said} h =
    sym (told said) ∙ ap (λ (n : ℕ). answer_by n (place_of said)) h.number ∙ ap (answer_by (number_of a)) h.place ∙
    told a

pub says : {a said : Answer} → said ≡ a → Says a said
says e = record { number = ap number_of e; place = ap place_of e }
