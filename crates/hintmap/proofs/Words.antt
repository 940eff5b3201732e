-- What whole stems say of each place in a map's list: demand 3's sentences. Assumes nothing.
use mathlib.Core.Path.{◌≡◌, sym, ap, ◌∙◌}
use mathlib.Core.Bool.{true, false, true≢false}
use mathlib.Core.List.{List, [], ◌∷◌}
use mathlib.Core.Logic.{◌⊎◌, inl, inr, ⊎_elim}
use Prim.Native.Nat.{ℕ, zero, suc, ◌+◌, ◌-◌, ◌<◌}
use native.Mathlib.Numerals.{add-one}
use native.Mathlib.Omega.{arith}
use lib.ListN.{length, get_or}
use lib.Signed.{◌≤ℤ◌, ◌<ℤ◌}
use Rattle.fixed.specs.declared.Fixed.{Fixed}
use Rattle.fixed.proofs.Order.{heights}
use Rattle.stems.specs.declared.edge.Kind.TheVariants.{PairBottom, PairTop}
use Rattle.stems.specs.declared.edge.Hint.{Hint}
use Rattle.stems.specs.Edge.{no_hint, valid_k, pair_k, pair_top_k, is_valid, is_pair}
use Rattle.hintmap.specs.WholeStems.{height, Single, Pair, Past, WholeStems, none, one, two, Ascends}

-- ---- heights never fall
-- an edge before others, no higher than the first of them
pub cons-ascends : (x : Hint) (xs : List Hint) → (0 < length xs → (height x).bits ≤ℤ
    (height (get_or xs 0 no_hint)).bits) →
    Ascends xs → Ascends (x ∷ xs)
cons-ascends x xs f s zero zero l k = omega heights
cons-ascends x xs f s zero (suc j) l k =
    let a = f (omega arith) in
    let b = s 0 j (omega arith) (omega arith) in
    omega heights
cons-ascends x xs f s (suc i) zero l k = absurd (omega arith)
cons-ascends x xs f s (suc i) (suc j) l k = s i j (omega arith) (omega arith)

past_first : (z : Fixed) (xs : List Hint) → Past z xs → 0 < length xs → z.bits <ℤ (height (get_or xs 0 no_hint)).bits
unfolding Past
past_first z [] p l = absurd (omega arith)
past_first z (x ∷ xs) p l = p

past-least : (z : Fixed) (xs : List Hint) → Past z xs → 0 < length xs → z.bits ≤ℤ (height (get_or xs 0 no_hint)).bits
past-least z xs p l =
    let a = past_first z xs p l in
    omega heights

-- the edges stand in never-falling character height
pub stems-ascend : {es : List Hint} → WholeStems es → Ascends es
stems-ascend none = λ i j l k. absurd (omega arith)
stems-ascend (one {x} {xs} s f r) = cons-ascends x xs (past-least (height x) xs f) (stems-ascend r)
stems-ascend (two {b} {t} {xs} s o f r) =
    cons-ascends b (t ∷ xs) (λ _. o) (cons-ascends t xs (past-least (height t) xs f) (stems-ascend r))

-- ---- bottoms and tops
-- no edge is a bottom and a top, and a single edge is neither
not-both : (x : Hint) → x.kind ≡ PairBottom → x.kind ≡ PairTop → ⊥
not-both x p q = true≢false (sym (ap pair_top_k q) ∙ ap pair_top_k p)

not-single : (x : Hint) → pair_k x.kind ≡ true → Single x → ⊥
not-single x p s = true≢false (sym p ∙ s.single)

followed : {es : List Hint} → WholeStems es → (i : ℕ) → i < length es → (get_or es i no_hint).kind ≡ PairBottom →
    (suc i < length es) × Pair (get_or es i no_hint) (get_or es (suc i) no_hint)
followed none i l k = absurd (omega arith)
followed (one {x} s f r) zero l k = absurd (not-single x (ap pair_k k) s)
followed (one s f r) (suc i) l k =
    let ih = followed r i (omega arith) k in
    (omega arith, ih.1)
followed (two s o f r) zero l k = (omega arith, s)
followed (two {b} {t} s o f r) (suc zero) l k = absurd (not-both t k s.top)
followed (two s o f r) (suc (suc i)) l k =
    let ih = followed r i (omega arith) k in
    (omega arith, ih.1)

-- a pair's bottom is directly followed by its own top
pub bottom-top : {es : List Hint} → WholeStems es → (i : ℕ) → i < length es → (get_or es i no_hint).kind ≡ PairBottom →
    (i + 1 < length es) × Pair (get_or es i no_hint) (get_or es (i + 1) no_hint)
bottom-top r i l k = rw (add-one i) (followed r i l k)

-- two neighbours are a stem's, or the second is above the first and no pair's top
Beside : Hint → Hint → Type 0
Beside x y = Pair x y ⊎ (((height x).bits <ℤ (height y).bits) × (y.kind ≡ PairTop → ⊥))

first-no-top : {es : List Hint} → WholeStems es → 0 < length es → (get_or es 0 no_hint).kind ≡ PairTop → ⊥
first-no-top none l k = omega arith
first-no-top (one {x} s f r) l k = not-single x (ap pair_k k) s
first-no-top (two {b} s o f r) l k = not-both b s.bottom k

next : (x : Hint) {xs : List Hint} → Past (height x) xs → WholeStems xs → 0 < length xs → Beside x (get_or xs 0 no_hint)
unfolding Beside
next x {xs} f r l = inr (past_first (height x) xs f l, first-no-top r l)

beside : {es : List Hint} → WholeStems es → (i : ℕ) → suc i < length es →
    Beside (get_or es i no_hint) (get_or es (suc i) no_hint)
unfolding Beside
beside none i l = absurd (omega arith)
beside (one {x} s f r) zero l = next x f r (omega arith)
beside (one s f r) (suc i) l = beside r i (omega arith)
beside (two s o f r) zero l = inl s
beside (two {b} {t} s o f r) (suc zero) l = next t f r (omega arith)
beside (two s o f r) (suc (suc i)) l = beside r i (omega arith)

-- a pair's top has its own bottom directly before it
pub top-bottom : {es : List Hint} → WholeStems es → (i : ℕ) → i < length es → (get_or es i no_hint).kind ≡ PairTop →
    (0 < i) × Pair (get_or es (i - 1) no_hint) (get_or es i no_hint)
unfolding Beside
top-bottom r zero l k = absurd (first-no-top r l k)
top-bottom {es} r (suc i) l k =
    let e : suc i - 1 ≡ i = omega arith in
    rw e (omega arith, ⊎_elim (λ p. p) (λ q. absurd (q.1 k)) (beside r i l))

-- neighbours of one height are bottom and top of one stem
pub shared : {es : List Hint} → WholeStems es → (i : ℕ) → i + 1 < length es →
    height (get_or es i no_hint) ≡ height (get_or es (i + 1) no_hint) →
    Pair (get_or es i no_hint) (get_or es (i + 1) no_hint)
unfolding Beside
shared {es} r i l e =
    rw (add-one i) (⊎_elim (λ p. p) (λ q. absurd (level q.0 (rw (add-one i) at e)))
    (beside r i (rw (add-one i) at l)))
  where
    level : {a b : Fixed} → a.bits <ℤ b.bits → a ≡ b → ⊥
    level p q = omega heights

-- ---- every edge
-- none is absent
pub present : {es : List Hint} → WholeStems es → (i : ℕ) → i < length es → is_valid (get_or es i no_hint) ≡ true
present none i l = absurd (omega arith)
present (one s f r) zero l = s.present
present (one s f r) (suc i) l = present r i (omega arith)
present (two s o f r) zero l = ap valid_k s.bottom
present (two s o f r) (suc zero) l = ap valid_k s.top
present (two s o f r) (suc (suc i)) l = present r i (omega arith)

-- those of pairs are not synthetic
pub pair-real : {es : List Hint} → WholeStems es → (i : ℕ) → i < length es → is_pair (get_or es i no_hint) ≡ true →
    (get_or es i no_hint).synthetic ≡ false
pair-real none i l k = absurd (omega arith)
pair-real (one {x} s f r) zero l k = absurd (not-single x k s)
pair-real (one s f r) (suc i) l k = pair-real r i (omega arith) k
pair-real (two s o f r) zero l k = s.bottom_real
pair-real (two s o f r) (suc zero) l k = s.top_real
pair-real (two s o f r) (suc (suc i)) l k = pair-real r i (omega arith) k
