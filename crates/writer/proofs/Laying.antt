-- Laws of the words of a script's header and parameters: how many there are. Assumes nothing.
use mathlib.Core.Path.{◌≡◌, refl, ap, ◌∙◌}
use mathlib.Core.List.{List, [], ◌∷◌, ◌++◌, append_assoc}
use Prim.Native.Nat.{ℕ, zero, suc, ◌+◌, ◌*◌, ◌≤◌, ◌<◌}
use native.Mathlib.Omega.{arith}
use lib.ListN.{length, take, get_or, length-append}
use lib.Seq.{length-take-le}
use mir.Syntax.{w32}
use mir.Facts.{of_z-to_z, sfits_to_z, Fits-of_lt}
use Rattle.fixed.specs.Integers.{bits_of, signed}
use Rattle.fixed.proofs.Bits.{whole-low}
use Rattle.zones.specs.declared.blues.Blue.{Blue}
use Rattle.zones.specs.declared.blues.Blues.{Blues}
use Rattle.zones.specs.declared.state.HintParams.{HintParams}
use Rattle.zones.specs.Zones.{max_blues, no_blue, list_of}
use Rattle.words.specs.Bytes.{laid}
use Rattle.words.proofs.Laid.{laid-behind}
use Rattle.writer.specs.ToWrite.{number_word, pair_words, number_words, param_words}
use Rattle.writer.specs.Refusals.{FineParams}

pub pair-words : (bs : List Blue) → length (pair_words bs) ≡ 2 * length bs
unfolding pair_words
pair-words [] = refl
pair-words (b ∷ bs) = omega (arith, pair-words bs)

-- a list has as many pairs as its count says
pub list_length : (b : Blues) → length b.pairs ≡ max_blues → b.count ≤ max_blues → length (list_of b) ≡ b.count
list_length b s h = length-take-le b.count b.pairs (omega (arith, s, h))

-- with two words each
pub list-words : (b : Blues) → length b.pairs ≡ max_blues → b.count ≤ max_blues →
    length (pair_words (list_of b)) ≡ 2 * b.count
list-words b s h = omega (arith, pair-words (list_of b), list_length b s h)

-- every list has seven places
pub record Sevens (p : HintParams) : Type 0 where
  pub blues : length p.blues.pairs ≡ max_blues
  pub others : length p.other_blues.pairs ≡ max_blues
  pub family : length p.family_blues.pairs ≡ max_blues
  pub family_others : length p.family_other_blues.pairs ≡ max_blues

pub params-length : (p : HintParams) → Sevens p → FineParams p →
    length (param_words p) ≡
    8 + 2 * (p.blues.count + p.other_blues.count + p.family_blues.count + p.family_other_blues.count)
unfolding param_words number_words
params-length p s f =
    let a = pair_words (list_of p.blues) in
    let b = pair_words (list_of p.other_blues) in
    let c = pair_words (list_of p.family_blues) in
    let d = pair_words (list_of p.family_other_blues) in
    omega (
      arith,
      length-append a (b ++ (c ++ d)),
      length-append b (c ++ d),
      length-append c d,
      list-words p.blues s.blues f.blues,
      list-words p.other_blues s.others f.others,
      list-words p.family_blues s.family f.family,
      list-words p.family_other_blues s.family_others f.family_others,
    )

-- 32 bits read as signed have the same bits
pub signed-bits : (n : ℕ) → n < 4294967296 → bits_of (signed n) ≡ n
unfolding signed
signed-bits n h = whole-low {w = w32} _ (sfits_to_z (Fits-of_lt h)) ∙ of_z-to_z {w = w32} (Fits-of_lt h)

-- one pair more
pub one-pair : (bs : List Blue) (i : ℕ) → i < length bs →
    pair_words (take (i + 1) bs) ≡ pair_words (take i bs) ++ pair_words (get_or bs i no_blue ∷ [])
unfolding pair_words
one-pair [] i h = absurd (omega arith)
one-pair (b ∷ bs) zero h = refl
one-pair (b ∷ bs) (suc i) h =
    let e : suc i + 1 ≡ suc (i + 1) = omega arith in
    rw e (ap (λ (l : List ℕ). number_word b.bottom ∷ number_word b.top ∷ l) (one-pair bs i (omega arith)))

-- the numbers and the four lists, laid one behind the other
module _ (b : List ℕ) (p : HintParams) (s : Sevens p) (f : FineParams p)
    (r : 4 * (8 + length (param_words p)) ≤ length b) where
  abbrev at1 : ℕ
  at1 = 16 + 2 * p.blues.count

  abbrev at2 : ℕ
  at2 = at1 + 2 * p.other_blues.count

  abbrev at3 : ℕ
  at3 = at2 + 2 * p.family_blues.count

  pub params-laid : {b0 b1 b2 b3 b4 : List ℕ} → b0 ≡ laid b 8 (number_words p) →
      b1 ≡ laid b0 16 (pair_words (list_of p.blues)) → b2 ≡ laid b1 at1 (pair_words (list_of p.other_blues)) →
      b3 ≡ laid b2 at2 (pair_words (list_of p.family_blues)) →
      b4 ≡ laid b3 at3 (pair_words (list_of p.family_other_blues)) → b4 ≡ laid b 8 (param_words p)
  unfolding param_words number_words
  params-laid e0 e1 e2 e3 e4 =
      let n = number_words p in
      let v = pair_words (list_of p.blues) in
      let x = pair_words (list_of p.other_blues) in
      let y = pair_words (list_of p.family_blues) in
      let z = pair_words (list_of p.family_other_blues) in
      let m = params-length p s f in
      let lv = list-words p.blues s.blues f.blues in
      let lx = list-words p.other_blues s.others f.others in
      let ly = list-words p.family_blues s.family f.family in
      let l1 = length-append n v in
      let l2 = length-append (n ++ v) x in
      let l3 = length-append ((n ++ v) ++ x) y in
      let f1 = e1 ∙ ap (λ (l : List ℕ). laid l 16 v) e0 ∙ laid-behind b 8 n (omega (arith, r, m)) v 16 (omega arith) in
      let f2 = e2 ∙ ap (λ (l : List ℕ). laid l at1 x) f1 ∙
      laid-behind b 8 (n ++ v) (omega (arith, r, m, l1, lv)) x at1 (omega (arith, l1, lv)) in
      let f3 = e3 ∙ ap (λ (l : List ℕ). laid l at2 y) f2 ∙
      laid-behind b 8 ((n ++ v) ++ x) (omega (arith, r, m, l1, l2, lv, lx)) y at2 (omega (arith, l1, l2, lv, lx)) in
      let f4 = e4 ∙ ap (λ (l : List ℕ). laid l at3 z) f3 ∙
      laid-behind b 8 (((n ++ v) ++ x) ++ y) (omega (arith, r, m, l1, l2, l3, lv, lx, ly)) z at3
      (omega (arith, l1, l2, l3, lv, lx, ly)) in
      f4 ∙ ap (laid b 8)
      (append_assoc ((n ++ v) ++ x) y z ∙ append_assoc (n ++ v) x (y ++ z) ∙ append_assoc n v (x ++ (y ++ z)))
