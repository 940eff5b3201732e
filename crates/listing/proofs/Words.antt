-- Laws of the words of records: six stores are a record's, and those of one record more go behind
-- those of the others. Assumes nothing.
use mathlib.Core.Path.{◌≡◌, refl, sym, ap, ◌∙◌}
use mathlib.Core.List.{List, [], ◌∷◌, ◌++◌}
use Prim.Native.Nat.{ℕ, ◌+◌, ◌-◌, ◌*◌, ◌≤◌}
use native.Mathlib.Omega.{arith}
use lib.IntN.{ℤ}
use lib.ListN.{length, set}
use lib.Seq.{drop-drop}
use borrow.Rule.Slice.PartMut.{put_mid}
use Rattle.words.specs.Bytes.{over, placed}
use Rattle.words.proofs.Placing.{placed-start, placed-behind, placed-length}
use Rattle.listing.specs.declared.record.EdgeRecord.{EdgeRecord}
use Rattle.listing.specs.Listing.{record_words, list_words}

-- six words stored into six, each known by another name
pub six-stores : (l : List ℤ) {a b c d e f a' b' c' d' e' f' : ℤ} → length l ≡ 6 → a ≡ a' → b ≡ b' → c ≡ c' → d ≡ d' →
    e ≡ e' → f ≡ f' →
    set (set (set (set (set (set l 0 a) 1 b) 2 c) 3 d) 4 e) 5 f ≡ a' ∷ b' ∷ c' ∷ d' ∷ e' ∷ f' ∷ []
six-stores [] n p q r s t u = absurd (omega arith)
six-stores (_ ∷ []) n p q r s t u = absurd (omega arith)
six-stores (_ ∷ _ ∷ []) n p q r s t u = absurd (omega arith)
six-stores (_ ∷ _ ∷ _ ∷ []) n p q r s t u = absurd (omega arith)
six-stores (_ ∷ _ ∷ _ ∷ _ ∷ []) n p q r s t u = absurd (omega arith)
six-stores (_ ∷ _ ∷ _ ∷ _ ∷ _ ∷ []) n p q r s t u = absurd (omega arith)
six-stores (_ ∷ _ ∷ _ ∷ _ ∷ _ ∷ _ ∷ []) n p q r s t u = rw (p, q, r, s, t, u)
six-stores (_ ∷ _ ∷ _ ∷ _ ∷ _ ∷ _ ∷ _ ∷ l) n p q r s t u = absurd (omega arith)

-- six words a record
pub words-length : (rs : List EdgeRecord) → length (list_words rs) ≡ 6 * length rs
unfolding list_words
words-length [] = refl
words-length (r ∷ rs) = omega (arith, words-length rs)

words_append : (rs ss : List EdgeRecord) → list_words (rs ++ ss) ≡ list_words rs ++ list_words ss
unfolding list_words
words_append [] ss = refl
words_append (r ∷ rs) ss = ap (λ (ws : List ℤ). record_words r ++ ws) (words_append rs ss)

module _ (lent : List ℤ) (rs : List EdgeRecord) (h : 6 * length rs ≤ length lent) where
  room : 0 + length (list_words rs) ≤ length lent
  room = omega (arith, words-length rs)

  -- no word is lost
  pub over-length : length (over (list_words rs) lent) ≡ length lent
  over-length = ap length (sym (placed-start lent (list_words rs))) ∙ placed-length lent 0 (list_words rs) room

  -- a part that has the words of one record more
  pub one_more : (r : EdgeRecord) {part : List ℤ} (i : ℕ) → i ≡ length rs → part ≡ record_words r →
      put_mid (6 * i) (6 * i + 6 - 6 * i) (over (list_words rs) lent) part ≡ over (list_words (rs ++ r ∷ [])) lent
  unfolding placed list_words
  one_more r i e p =
      let k : 6 * i + 6 - 6 * i ≡ 6 = omega arith in
      let ws = list_words rs in
      rw (p, k, sym (placed-start lent ws), drop-drop 6 (6 * i) (placed lent 0 ws))
      (placed-behind lent 0 ws room (record_words r) (6 * i) (omega (arith, words-length rs)) ∙
      rw (words_append rs (r ∷ [])) (placed-start lent (ws ++ record_words r)))
