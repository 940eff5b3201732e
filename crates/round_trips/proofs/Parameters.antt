-- Parameters come back out of their words, but for pairs past a count, and words out of the parameters
-- that are read from them. Assumes nothing.
use mathlib.Core.Path.{◌≡◌, refl, subst, sym, ap, ◌∙◌}
use mathlib.Core.List.{List, [], ◌∷◌, ◌++◌}
use Prim.Native.Nat.{ℕ, zero, suc, ◌+◌, ◌-◌, ◌*◌, ◌≤◌, ◌<◌, ◌^◌}
use native.Mathlib.Omega.{arith}
use lib.ListN.{length, take, get_or, replicate}
use lib.Seq.{take_at}
use Rattle.fixed.specs.declared.Fixed.{Fixed}
use Rattle.fixed.specs.Integers.{signed}
use Rattle.fixed.specs.Fixed.{from_bits}
use Rattle.fixed.proofs.Bits.{low-lt}
use Rattle.zones.specs.declared.blues.Blue.{Blue}
use Rattle.zones.specs.declared.blues.Blues.{Blues}
use Rattle.zones.specs.declared.state.HintParams.{HintParams}
use Rattle.zones.specs.Zones.{max_blues, no_blue, list_of}
use Rattle.words.specs.Words.{word_at, number_at, words_from}
use Rattle.words.proofs.Words.{words-split}
use Rattle.header.specs.Params.{pairs_in, pairs_from, blues_at, params_of}
use Rattle.writer.specs.ToWrite.{number_word, pair_words, number_words, param_words}
use Rattle.writer.specs.Refusals.{FineParams}
use Rattle.writer.proofs.Laying.{Sevens, list_length, list-words, signed-bits}
use Rattle.round_trips.specs.RoundTrips.{Held, HeldBlues, HeldParams, kept_blues, kept_params}
use Rattle.round_trips.proofs.WordBytes.{Small, small-both, Holds, holds-front, holds-back, number-back}

-- ---- one number
-- its bits are below 2^32
pub number_small : (x : Fixed) → number_word x < 2 ^ 32
number_small x = low-lt 32 x.bits

-- and where they stand the number does
pub number-there : (w : ℕ → ℕ) (i : ℕ) (x : Fixed) → Held x → w i ≡ number_word x → number_at w i ≡ x
number-there w i x h e = ap (λ (n : ℕ). from_bits (signed n)) e ∙ ap from_bits (number-back x.bits h)

-- ---- pairs
-- numbers of 32 bits
abbrev HeldPairs : List Blue → Type 0
HeldPairs [] = Unit {0}
HeldPairs (b ∷ bs) = Held b.bottom × (Held b.top × HeldPairs bs)

-- where every place has such a pair, the first n are
held-pairs : (n : ℕ) (bs : List Blue) → ((i : ℕ) → i < length bs → Held (get_or bs i no_blue).bottom) →
    ((i : ℕ) → i < length bs → Held (get_or bs i no_blue).top) → HeldPairs (take n bs)
held-pairs zero bs f g = tt
held-pairs (suc n) [] f g = tt
held-pairs (suc n) (b ∷ bs) f g = (
  f 0 (omega arith),
  (g 0 (omega arith), held-pairs n bs (λ i l. f (suc i) (omega arith)) (λ i l. g (suc i) (omega arith))),
)

-- their words are below 2^32
pairs_small : (bs : List Blue) → Small (pair_words bs)
unfolding pair_words
pairs_small [] = tt
pairs_small (b ∷ bs) = (number_small b.bottom, (number_small b.top, pairs_small bs))

-- and where they stand the pairs do
pairs-back : (w : ℕ → ℕ) (i : ℕ) (bs : List Blue) → HeldPairs bs → Holds w i (pair_words bs) →
    pairs_from w i (length bs) ≡ bs
unfolding pair_words pairs_from
pairs-back w i [] k h = refl
pairs-back w i (b ∷ bs) k h =
    let j : i + 1 + 1 ≡ i + 2 = omega arith in
    let p = number-there w i b.bottom k.0 h.0 in
    let q = number-there w (i + 1) b.top k.1.0 h.1.0 in
    let r = pairs-back w (i + 2) bs k.1.1 (subst (λ (n : ℕ). Holds w n (pair_words bs)) j h.1.1) in
    rw (p, q, r)

-- ---- a list of them
-- the words of the pairs that count
abbrev words_of : Blues → List ℕ
words_of b = pair_words (list_of b)

-- are below 2^32, before others that are
list-small : (b : Blues) (ns : List ℕ) → Small ns → Small (words_of b ++ ns)
list-small b ns s = small-both (words_of b) ns (pairs_small (list_of b)) s

-- where the words stand the list does, but for the pairs past its count
blues-back : (w : ℕ → ℕ) (i n : ℕ) (b : Blues) → HeldBlues b → b.count ≤ max_blues → n ≡ b.count →
    Holds w i (words_of b) → blues_at w i n ≡ kept_blues b
unfolding blues_at
blues-back w i n b h l e k =
    let held = held-pairs b.count b.pairs (λ j m. h.bottoms j (omega (arith, h.seven)))
    (λ j m. h.tops j (omega (arith, h.seven))) in
    let all = pairs-back w i (list_of b) held k in
    let there : pairs_from w i b.count ≡ list_of b = ap (pairs_from w i) (sym (list_length b h.seven l)) ∙ all in
    rw (e, there)

-- ---- all of them
-- their words are below 2^32
pub params_small : (p : HintParams) → FineParams p → Small (param_words p)
unfolding param_words number_words
params_small p c =
    let r = words_of p.other_blues in
    let s = words_of p.family_blues in
    let t = words_of p.family_other_blues in
    let numbers : Small (number_words p) =
    omega (
      arith,
      number_small p.blue_scale,
      number_small p.blue_shift,
      number_small p.blue_fuzz,
      low-lt 32 p.language_group,
    ) in
    small-both (number_words p) (words_of p.blues ++ (r ++ (s ++ t))) numbers
    (list-small p.blues (r ++ (s ++ t))
    (list-small p.other_blues (s ++ t)
    (list-small p.family_blues t (pairs_small (list_of p.family_other_blues)))))

-- every list has seven places
pub sevens : (p : HintParams) → HeldParams p → Sevens p
sevens p h =
    record {
      blues = h.blues.seven;
      others = h.other_blues.seven;
      family = h.family_blues.seven;
      family_others = h.family_other_blues.seven;
    }

module _ (p : HintParams) (h : HeldParams p) (c : FineParams p) where
  -- where the words stand the parameters do
  pub params-back : (w : ℕ → ℕ) → Holds w 8 (param_words p) → params_of w ≡ kept_params p
  unfolding param_words number_words params_of
  params-back w k =
      let q = words_of p.blues in
      let r = words_of p.other_blues in
      let s = words_of p.family_blues in
      let t = words_of p.family_other_blues in
      let counts = k.1.1.1.1 in
      let at = 16 + 2 * w 12 in
      let there = counts.1.1.1.1 in
      let behind = holds-back w 16 at q (r ++ (s ++ t))
      (omega (arith, counts.0, list-words p.blues h.blues.seven c.blues)) there in
      let further = holds-back w at (at + 2 * w 13) r (s ++ t)
      (omega (arith, counts.1.0, list-words p.other_blues h.other_blues.seven c.others)) behind in
      let last = holds-back w (at + 2 * w 13) (at + 2 * w 13 + 2 * w 14) s t
      (omega (arith, counts.1.1.0, list-words p.family_blues h.family_blues.seven c.family)) further in
      let a = number-there w 8 p.blue_scale h.blue_scale k.0 in
      let b = number-there w 9 p.blue_shift h.blue_shift k.1.0 in
      let d = number-there w 10 p.blue_fuzz h.blue_fuzz k.1.1.0 in
      let e : word_at w 11 ≡ p.language_group =
      ap signed k.1.1.1.0 ∙ number-back p.language_group h.language_group in
      let f = blues-back w 16 (w 12) p.blues h.blues c.blues counts.0 (holds-front w 16 q _ there) in
      let g = blues-back w at (w 13) p.other_blues h.other_blues c.others counts.1.0
      (holds-front w at r _ behind) in
      let m = blues-back w (at + 2 * w 13) (w 14) p.family_blues h.family_blues c.family counts.1.1.0
      (holds-front w (at + 2 * w 13) s _ further) in
      let n = blues-back w (at + 2 * w 13 + 2 * w 14) (w 15) p.family_other_blues h.family_other_blues
      c.family_others counts.1.1.1.0 last in
      cc (a, b, d, e, f, g, m, n)

-- ---- words out of the parameters that are read from them
module _ (w : ℕ → ℕ) (small : (j : ℕ) → w j < 2 ^ 32) where
  -- n pairs are n
  pairs-many : (i n : ℕ) → length (pairs_from w i n) ≡ n
  unfolding pairs_from
  pairs-many i zero = refl
  pairs-many i (suc n) = ap suc (pairs-many (i + 2) n)

  -- and have 2 n words, those that they were read from
  pairs-words : (i n : ℕ) → pair_words (pairs_from w i n) ≡ words_from w i (2 * n)
  unfolding pairs_from pair_words words_from
  pairs-words i zero = refl
  pairs-words i (suc n) =
      let e : 2 * suc n ≡ suc (suc (2 * n)) = omega arith in
      let d : i + 1 + 1 ≡ i + 2 = omega arith in
      rw (e, signed-bits (w i) (small i), signed-bits (w (i + 1)) (small (i + 1)), pairs-words (i + 2) n, d)

  -- so does a list of them, with zeros behind it
  blues-words : (i n : ℕ) → pair_words (list_of (blues_at w i n)) ≡ words_from w i (2 * n)
  unfolding blues_at
  blues-words i n =
      ap pair_words (take_at (pairs_from w i n) (replicate (max_blues - n) no_blue) n (pairs-many i n)) ∙ pairs-words i
      n

  -- the numbers and the counts
  number-words : number_words (params_of w) ≡ words_from w 8 8
  unfolding number_words params_of blues_at words_from
  number-words =
      rw (
        signed-bits (w 8) (small 8),
        signed-bits (w 9) (small 9),
        signed-bits (w 10) (small 10),
        signed-bits (w 11) (small 11),
      )

  -- all parameters
  pub param-words : param_words (params_of w) ≡ words_from w 8 (8 + 2 * pairs_in w)
  unfolding param_words params_of
  param-words =
      let a = 2 * w 12 in
      let b = 2 * w 13 in
      let c = 2 * w 14 in
      let d = 2 * w 15 in
      let e : 8 + 2 * pairs_in w ≡ 8 + (a + (b + (c + d))) = omega arith in
      rw (
        e,
        words-split w 8 8 (a + (b + (c + d))),
        words-split w 16 a (b + (c + d)),
        words-split w (16 + a) b (c + d),
        words-split w (16 + a + b) c d,
        blues-words 16 (w 12),
        blues-words (16 + a) (w 13),
        blues-words (16 + a + b) (w 14),
        blues-words (16 + a + b + c) (w 15),
        number-words,
      )
