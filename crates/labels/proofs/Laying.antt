-- Laws of a result: what the turns of a walk lay over an output is the header and the records.
-- Assumes nothing.
use mathlib.Core.Path.{◌≡◌, refl, sym, ap, ◌∙◌}
use mathlib.Core.List.{List, [], ◌∷◌, ◌++◌}
use Prim.Native.Nat.{ℕ, ◌+◌, ◌*◌, ◌≤◌}
use native.Mathlib.Omega.{arith}
use lib.IntN.{ℤ, pos}
use lib.ListN.{length, take, drop, set, length-append, length-set}
use lib.Seq.{drop-drop}
use Rattle.pen.specs.Records.{written}
use Rattle.words.specs.Bytes.{over, placed}
use Rattle.words.proofs.Placing.{placed-start, placed-none, placed-store, placed-length, placed-behind, placed-either}
use Rattle.labels.specs.Labels.{places_from, joined, header_of, label_words}

-- words written from a place on
pub written_at : (out ws : List ℤ) (i : ℕ) → take i out ++ written ws (drop i out) ≡ placed out i ws
unfolding written placed
written_at out ws i = ap (λ (l : List ℤ). take i out ++ (ws ++ l)) (drop-drop (length ws) i out)

-- two stores side by side
pub two-stored : (out : List ℤ) (i : ℕ) (a b : ℤ) → i + 2 ≤ length out →
    set (set out i a) (i + 1) b ≡ placed out i (a ∷ b ∷ [])
two-stored out i a b h =
    sym (placed-none (set (set out i a) (i + 1) b) (i + 1 + 1)) ∙
    placed-store (set out i a) (i + 1) b [] (omega (arith, length-set out i a)) ∙
    placed-store out i a (b ∷ []) (omega arith)

-- two words a glyph
pub places-length : (at : ℕ) (wss : List (List ℤ)) → length (places_from at wss) ≡ 2 * length wss
unfolding places_from
places-length at [] = refl
places-length at (ws ∷ wss) = omega (arith, places-length (at + length ws) wss)

-- what the turns from a place in the header and a free word on lay over an output
unfoldable pub laid_from : ℕ → ℕ → List (List ℤ) → List ℤ → List ℤ
laid_from i next [] out = out
laid_from i next (ws ∷ wss) out =
    laid_from (i + 2) (next + length ws) wss (placed (placed out next ws) i (pos next ∷ pos (length ws) ∷ []))

-- is the records together, and their places together
laid-apart : (i next : ℕ) (wss : List (List ℤ)) (out : List ℤ) → i + 2 * length wss ≤ next →
    next + length (joined wss) ≤ length out →
    laid_from i next wss out ≡ placed (placed out next (joined wss)) i (places_from next wss)
unfolding laid_from joined places_from
laid-apart i next [] out h k = sym (placed-none (placed out next []) i ∙ placed-none out next)
laid-apart i next (ws ∷ wss) out h k =
    let js = joined wss in
    let ps = places_from (next + length ws) wss in
    let two : List ℤ = pos next ∷ pos (length ws) ∷ [] in
    let n = length-append ws js in
    let one = placed out next ws in
    let same = placed-length out next ws (omega arith) in
    let both = placed one i two in
    let again = placed-length one i two (omega arith) in
    laid-apart (i + 2) (next + length ws) wss both (omega arith) (omega arith) ∙
    ap (λ (l : List ℤ). placed l (i + 2) ps)
    (placed-either one i two (omega arith) js (next + length ws) (omega arith) (omega arith) ∙
    ap (λ (l : List ℤ). placed l i two) (placed-behind out next ws (omega arith) js (next + length ws) refl)) ∙
    placed-behind (placed out next (ws ++ js)) i two
    (omega (arith, placed-length out next (ws ++ js) (omega arith))) ps (i + 2) refl

-- so behind its first two words the result stands
pub laid-whole : (wss : List (List ℤ)) (out : List ℤ) → length (label_words wss) ≤ length out →
    laid_from 2 (header_of (length wss)) wss (placed out 0 (pos 1 ∷ pos (length wss) ∷ [])) ≡
    written (label_words wss) out
unfolding label_words written over
laid-whole wss out h =
    let m = header_of (length wss) in
    let js = joined wss in
    let ps = places_from m wss in
    let two : List ℤ = pos 1 ∷ pos (length wss) ∷ [] in
    let p = places-length m wss in
    let n = length-append ps js in
    let start = placed out 0 two in
    let same = placed-length out 0 two (omega arith) in
    let head = placed-behind out 0 two (omega arith) ps 2 refl in
    laid-apart 2 m wss start (omega arith) (omega arith) ∙
    sym (placed-either start 2 ps (omega arith) js m (omega arith) (omega arith)) ∙
    ap (λ (l : List ℤ). placed l m js) head ∙
    placed-behind out 0 (two ++ ps) (omega arith) js m (omega arith) ∙
    placed-start out (two ++ ps ++ js)
