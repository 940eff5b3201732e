-- Each verdict, by what was compared up to it. Assumes nothing.
use Rattle.std.proofs.Common.{◌≡◌, ℕ, ◌<◌, ◌≤◌, List, length, ℤ, Some, None, sym, le-ltb, lt-ltb, eq-eqb, ne_eqb}
use Rattle.words.specs.Words.{raw_at}
use Rattle.words.specs.Answers.{Answer, number_of, place_of}
use Rattle.script.specs.Script.{Result, Scripted}
use Rattle.test_tables.specs.Differing.{first_word}
use Rattle.test_scripts.specs.declared.judging.Difference.TheVariants.{Number, Place, Word}
use Rattle.test_scripts.specs.Judging.{verdict_of}

module _ (head stored : List ℕ) (r : Result) (said : Answer) (left : List ℤ) (s : Scripted r said left) where
  pub other-number : (number_of said ≡ raw_at head 4 → ⊥) → Some Number ≡ verdict_of head stored r
  unfolding verdict_of
  other-number n = rw (sym s.answer.number, ne_eqb (number_of said) (raw_at head 4) n)

  pub other_place : number_of said ≡ raw_at head 4 → (place_of said ≡ raw_at head 5 → ⊥) →
      Some Place ≡ verdict_of head stored r
  unfolding verdict_of
  other_place n p =
      rw (
        sym s.answer.number,
        sym s.answer.place,
        eq-eqb (number_of said) (raw_at head 4) n,
        ne_eqb (place_of said) (raw_at head 5) p,
      )

  pub other_word : number_of said ≡ raw_at head 4 → place_of said ≡ raw_at head 5 →
      first_word left stored < length left → Some (Word (first_word left stored)) ≡ verdict_of head stored r
  unfolding verdict_of
  other_word n p w =
      rw (
        sym s.answer.number,
        sym s.answer.place,
        sym s.memory,
        eq-eqb (number_of said) (raw_at head 4) n,
        eq-eqb (place_of said) (raw_at head 5) p,
        lt-ltb (first_word left stored) (length left) w,
      )

  pub same-words : number_of said ≡ raw_at head 4 → place_of said ≡ raw_at head 5 →
      length left ≤ first_word left stored → None ≡ verdict_of head stored r
  unfolding verdict_of
  same-words n p w =
      rw (
        sym s.answer.number,
        sym s.answer.place,
        sym s.memory,
        eq-eqb (number_of said) (raw_at head 4) n,
        eq-eqb (place_of said) (raw_at head 5) p,
        le-ltb (first_word left stored) (length left) w,
      )
