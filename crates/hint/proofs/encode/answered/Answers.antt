-- `answered` lays number and place and, behind them, the result of an answer that is OK. Assumes
-- nothing.
use Rattle.std.proofs.Common.{arith, ◌≡◌, sym, ap, ◌∙◌, List, [], ◌∷◌, map, ℕ, ◌%◌, ◌≤◌, length, take}
use lib.ListN.{length-map, length-take}
use lib.Seq.{length-take-le}
use Rattle.fixed.specs.Integers.{bits_of}
use Rattle.words.specs.Answers.{Answer, number_of, place_of}
use Rattle.words.specs.Bytes.{laid}
use Rattle.words.proofs.Answers.{err-refuses, err-ok}
use Rattle.words.proofs.Laid.{laid-length, laid-behind, low-laid}
use Rattle.hint.specs.Encode.{result_in}
use Rattle.hint.proofs.AnswerWords.{refused-words, ok-words, result-taken, result-short}
use Rattle.hint.proofs.encode.answered.Goals as goal

-- number and place, once both are stored
module _ (said : Answer) (bytes : List ℕ) {one two : List ℕ} {n p : ℕ} (h : 8 ≤ length bytes)
    (en : n ≡ number_of said) (ep : p ≡ place_of said)
    (e1 : one ≡ laid bytes 0 (n ∷ [])) (e2 : two ≡ laid one 1 (p % 4294967296 ∷ [])) where
  both : two ≡ laid bytes 0 (number_of said ∷ place_of said ∷ [])
  both =
      e2 ∙ ap (λ (k : ℕ). laid one 1 (k % 4294967296 ∷ [])) ep ∙
      low-laid one 1 (place_of said) ∙
      ap (λ (b : List ℕ). laid b 1 (place_of said ∷ [])) (e1 ∙ ap (λ (k : ℕ). laid bytes 0 (k ∷ [])) en) ∙
      laid-behind bytes 0 (number_of said ∷ []) (omega (arith, h)) (place_of said ∷ []) 1 (omega arith)

  both-length : length two ≡ length bytes
  both-length = ap length both ∙ laid-length bytes 0 (number_of said ∷ place_of said ∷ []) (omega (arith, h))

pub returns-then-is_err : goal.returns-then-is_err
returns-then-is_err c =
    let a = c.args.answer in
    let b = c.args.bytes.now in
    let w = refused-words a (result_in c.args.out.now) (err-refuses _ c.is_err.ensures.value c.if-is_err.true) in
    let h : 8 ≤ length b = omega (arith, c.requires) in
    let m = both a b h c.code.ensures c.place.ensures c.store.ensures c.store-2.ensures in
    record { number = omega (arith, ap length w); memory = m ∙ ap (laid b 0) (sym w) }

pub slice_bounds-store_words-end : goal.slice_bounds-store_words-end
slice_bounds-store_words-end c =
    sym (length-take-le _ _ (omega (arith, c.result_words-words.ensures, result-short c.args.out.now)))

pub store_words-requires : goal.store_words-requires
store_words-requires c =
    let h : 8 ≤ length c.args.bytes.now = omega (arith, c.requires) in
    omega (
      arith,
      c.result_words-words.ensures,
      result-short c.args.out.now,
      length-take c.result_words-words.result c.args.out.now,
      both-length c.args.answer c.args.bytes.now h c.code.ensures c.place.ensures c.store.ensures c.store-2.ensures,
      c.requires,
    )

pub overflow_mul-result : goal.overflow_mul-result
overflow_mul-result c =
    omega (arith, c.result_words-words.ensures, result-short c.args.out.now, c.well_formed)

pub overflow_add-result : goal.overflow_add-result
overflow_add-result c =
    omega (arith, c.result_words-words.ensures, result-short c.args.out.now, c.well_formed)

pub returns : goal.returns
returns c =
    let a = c.args.answer in
    let o = c.args.out.now in
    let b = c.args.bytes.now in
    let two = number_of a ∷ place_of a ∷ [] in
    let many = c.result_words-words.ensures in
    let h : 8 ≤ length b = omega (arith, c.requires) in
    let m = both a b h c.code.ensures c.place.ensures c.store.ensures c.store-2.ensures in
    let w = ok-words a (result_in o) (ap number_of (err-ok _ c.is_err.ensures.value c.if-is_err.false)) in
    let t : map bits_of (take c.result_words-words.result o) ≡
    map bits_of (result_in o) = ap (map bits_of) (ap (λ (k : ℕ). take k o) many ∙ result-taken o) in
    let e = c.store_words.ensures ∙
    ap (λ (l : List ℕ). laid l 2 (map bits_of (take c.result_words-words.result o))) m ∙
    ap (laid (laid b 0 two) 2) t in
    record {
      number = omega (arith, ap length w, length-map (result_in o) bits_of, many);
      memory =
          e ∙ laid-behind b 0 two (omega (arith, h)) (map bits_of (result_in o)) 2 (omega arith) ∙
          ap (laid b 0) (sym w);
    }
