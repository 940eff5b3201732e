-- A list that differs on the device only has the same stems. Assumes nothing.
use mathlib.Core.Path.{◌≡◌, refl, sym, ap, ◌∙◌}
use mathlib.Core.List.{List, [], ◌∷◌, ◌++◌}
use Prim.Native.Nat.{ℕ, zero, suc}
use lib.ListN.{take}
use Rattle.fixed.specs.declared.Fixed.{Fixed}
use Rattle.fixed.proofs.Order.{heights}
use Rattle.stems.specs.declared.edge.Hint.{Hint}
use Rattle.stems.specs.Edge.{valid_k, pair_k, at_device}
use Rattle.hintmap.specs.WholeStems.{Pair, Past, WholeStems, none, one, two, Like, Alike, nil, cons}

-- an edge moved on the device differs there only
pub like-device : (x : Hint) (d : Fixed) → Like x (at_device x d)
like-device x d = record { kind = refl; synthetic = refl; index = refl; level = refl }

-- an edge is like itself
pub like-refl : (x : Hint) → Like x x
like-refl x = like-device x x.ds_coord

-- every list is alike itself
pub alike_refl : (es : List Hint) → Alike es es
alike_refl [] = nil
alike_refl (x ∷ xs) = cons (like-refl x) (alike_refl xs)

-- alike lists joined are alike
pub alike-append : {xs ys zs ws : List Hint} → Alike xs ys → Alike zs ws → Alike (xs ++ zs) (ys ++ ws)
alike-append nil b = b
alike-append (cons p a) b = cons p (alike-append a b)

-- alike lists cut are alike
pub alike-take : {xs ys : List Hint} (n : ℕ) → Alike xs ys → Alike (take n xs) (take n ys)
alike-take zero a = nil
alike-take (suc n) nil = nil
alike-take (suc n) (cons p a) = cons p (alike-take n a)

-- a pair stays one, and what is above a height stays so
pair-like : {b t c d : Hint} → Like b c → Like t d → Pair b t → Pair c d
pair-like p q s = record { bottom = (cc); top = (cc); own = (cc); bottom_real = (cc); top_real = (cc) }

past-like : {xs ys : List Hint} (z w : Fixed) → z ≡ w → Alike xs ys → Past z xs → Past w ys
unfolding Past
past-like z w e nil f = tt
past-like z w e (cons p a) f = omega heights

-- whole stems stay whole
pub stems-alike : {xs ys : List Hint} → Alike xs ys → WholeStems xs → WholeStems ys
stems-alike nil none = none
stems-alike (cons p a) (one s f r) =
    one (record { present = sym (ap valid_k p.kind) ∙ s.present; single = sym (ap pair_k p.kind) ∙ s.single })
    (past-like _ _ p.level a f) (stems-alike a r)
stems-alike (cons p (cons q a)) (two s o f r) =
    two (pair-like p q s) (omega heights) (past-like _ _ q.level a f) (stems-alike a r)
