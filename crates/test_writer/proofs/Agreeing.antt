-- Parameters compared field by field, as the library compares them. Assumes nothing.
use Rattle.std.proofs.Common.{◌≡◌, ℕ, zero, suc, ◌==◌, Bool, true, false, cond, ◌&&◌, int_eq, List, [], ◌∷◌, length}
use Rattle.std.proofs.Common.{get_or, refl, sym, ap, ◌∙◌, arith, ne_eqb}
use Rattle.std.proofs.lemmas.Grind.{common_steps}
use lib.Dec.{eqb-suc-suc}
use lib.Pointwise.{pointwise}
use Rattle.fixed.specs.declared.Fixed.{Fixed}
use Rattle.fixed.specs.Fixed.{from_bits, same_f}
use Rattle.zones.specs.declared.blues.Blue.{Blue}
use Rattle.zones.specs.declared.blues.Blues.{Blues}
use Rattle.zones.specs.declared.state.HintParams.{HintParams}
use Rattle.zones.specs.Zones.{no_blue}
use Rattle.test_tables.specs.Differing.{first_from, first_different}
use Rattle.test_writer.specs.Comparing.{same_pair, same_blues, same_numbers, same_params}

-- ---- a search of the places behind the first is one of all places of the rest
further : (b : Bool) (x y i : ℕ) → x ≡ suc y → cond b x (suc i) ≡ suc (cond b y i)
further true x y i e = e
further false x y i e = refl

behind : (f : ℕ → Bool) (i n : ℕ) → first_from f (suc i) n ≡ suc (first_from (λ (j : ℕ). f (suc j)) i n)
unfolding first_from
behind f i zero = refl
behind f i (suc n) = further (f (suc i)) _ _ i (behind f (suc i) n)

one-more : (b c : Bool) (x y n : ℕ) → x ≡ suc y → c ≡ (y == n) → (b && c) ≡ (cond b x 0 == suc n)
one-more true c x y n e h = h ∙ sym (eqb-suc-suc y n) ∙ ap (λ (m : ℕ). m == suc n) (sym e)
one-more false c x y n e h = sym (ne_eqb 0 (suc n) (λ e. omega arith))

-- ---- two lists of one length agree if no place is found where they differ
module _ {A : Type 0} (R Q : A → A → Bool) (d : A) (same : (x y : A) → R x y ≡ Q x y) where
  abbrev agree : List A → List A → ℕ → Bool
  agree xs ys i = Q (get_or xs i d) (get_or ys i d)

  all_agree : (xs ys : List A) → length ys ≡ length xs →
      pointwise R xs ys ≡ (first_different (agree xs ys) (length xs) == length xs)
  unfolding first_from
  all_agree [] [] l = refl
  all_agree [] (y ∷ ys) l = absurd (omega arith)
  all_agree (x ∷ xs) [] l = absurd (omega arith)
  all_agree (x ∷ xs) (y ∷ ys) l =
      ap (λ (b : Bool). b && pointwise R xs ys) (same x y) ∙
      one-more (Q x y) (pointwise R xs ys) _ _ (length xs) (behind (agree (x ∷ xs) (y ∷ ys)) 0 (length xs))
      (all_agree xs ys (omega arith))

-- ---- numbers, pairs and lists of pairs
pub same_fixed : (a b : Fixed) → int_eq a.bits b.bits ≡ same_f a b
same_fixed a b = grind (arith, common_steps)

abbrev pub blue_eq : Blue → Blue → Bool
blue_eq a b = int_eq a.bottom.bits b.bottom.bits && int_eq a.top.bits b.top.bits

blue_same : (a b : Blue) → blue_eq a b ≡ same_pair a b
blue_same a b = rw (same_fixed a.bottom b.bottom, same_fixed a.top b.top)

swap : (x y : Bool) → (x && y) ≡ (y && x)
swap true true = refl
swap true false = refl
swap false true = refl
swap false false = refl

pub blues-same : (a b : Blues) → length a.pairs ≡ 7 → length b.pairs ≡ 7 →
    (pointwise blue_eq a.pairs b.pairs && (a.count == b.count)) ≡ same_blues a b
unfolding same_blues
blues-same a b l m =
    let e = rw l at (all_agree blue_eq same_pair no_blue blue_same a.pairs b.pairs (m ∙ sym l)) in
    swap (pointwise blue_eq a.pairs b.pairs) (a.count == b.count) ∙ ap (λ (t : Bool). (a.count == b.count) && t) e

-- ---- all parameters
assoc : (x y z : Bool) → ((x && y) && z) ≡ (x && (y && z))
assoc true y z = refl
assoc false y z = refl

-- each list has its seven pairs
pub record Full (a : HintParams) : Type 0 where
  pub blues : length a.blues.pairs ≡ 7
  pub others : length a.other_blues.pairs ≡ 7
  pub family : length a.family_blues.pairs ≡ 7
  pub family_others : length a.family_other_blues.pairs ≡ 7

abbrev pub blues_eq : Blues → Blues → Bool
blues_eq a b = pointwise blue_eq a.pairs b.pairs && (a.count == b.count)

abbrev pub params_eq : HintParams → HintParams → Bool
params_eq a b =
    int_eq a.blue_scale.bits b.blue_scale.bits &&
    (int_eq a.blue_shift.bits b.blue_shift.bits &&
    (int_eq a.blue_fuzz.bits b.blue_fuzz.bits &&
    (int_eq a.language_group b.language_group &&
    (blues_eq a.blues b.blues &&
    (blues_eq a.other_blues b.other_blues &&
    (blues_eq a.family_blues b.family_blues && blues_eq a.family_other_blues b.family_other_blues))))))

-- the four numbers, and what follows them
four : (s t u v w : Bool) → ((s && (t && (u && v))) && w) ≡ (s && (t && (u && (v && w))))
four s t u v w =
    assoc s (t && (u && v)) w ∙ ap (λ (x : Bool). s && x) (assoc t (u && v) w ∙ ap (λ (x : Bool). t && x) (assoc u v w))

pub params-same : (a b : HintParams) → Full a → Full b → params_eq a b ≡ same_params a b
unfolding same_params same_numbers
params-same a b f g =
    rw (
      same_fixed a.blue_scale b.blue_scale,
      same_fixed a.blue_shift b.blue_shift,
      same_fixed a.blue_fuzz b.blue_fuzz,
      same_fixed (from_bits a.language_group) (from_bits b.language_group),
      blues-same a.blues b.blues f.blues g.blues,
      blues-same a.other_blues b.other_blues f.others g.others,
      blues-same a.family_blues b.family_blues f.family g.family,
      blues-same a.family_other_blues b.family_other_blues f.family_others g.family_others,
    )
    (sym
    (four (same_f a.blue_scale b.blue_scale) (same_f a.blue_shift b.blue_shift) (same_f a.blue_fuzz b.blue_fuzz)
    (same_f (from_bits a.language_group) (from_bits b.language_group))
    (same_blues a.blues b.blues &&
    (same_blues a.other_blues b.other_blues &&
    (same_blues a.family_blues b.family_blues && same_blues a.family_other_blues b.family_other_blues)))))
