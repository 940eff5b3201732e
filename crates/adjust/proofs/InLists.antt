-- A map that lists hold, some of whose edges are written in place with another device height and
-- another scale: it is the map with these edges. Assumes nothing.
use mathlib.Core.Path.{◌≡◌, refl, sym, ap, ◌∙◌}
use mathlib.Core.Bool.{false}
use mathlib.Core.List.{List, [], ◌∷◌, map}
use Prim.Native.Nat.{ℕ, zero, suc, ◌+◌, ◌<◌}
use native.Mathlib.Omega.{arith}
use lib.IntN.{ℤ, pos}
use lib.ListN.{get_or, set, get_or-map}
use lib.Seq.{get_or-set_other}
use Rattle.fixed.specs.declared.Fixed.{Fixed}
use Rattle.fixed.specs.Fixed.{from_bits, ZERO}
use Rattle.stems.specs.declared.edge.Hint.{Hint}
use Rattle.stems.specs.Lists.{hint_in, set_line}
use Rattle.stems.proofs.Places.{on_line, line-whole}
use Rattle.hintmap.specs.declared.map.HintMap.{HintMap}
use Rattle.hintmap.specs.Lent.{map_in, Lent}
use Rattle.hintmap.proofs.Lent.{read_is, line-map}
use Rattle.std.proofs.Common.{Some}
use Rattle.adjust.specs.Adjust.{edge_at, with_edge}
use Rattle.adjust.specs.Pass.{noted_of}
use Rattle.adjust.specs.Adjusted.{notes_in}
use Rattle.adjust.proofs.Keeps.{still, Kept, kept_refl, kept_at, set-kept}

-- ---- edges read and written
module _ (ls : List ℤ) (ts : List ℕ) (n : ℕ) (w : Lent ls ts n) (i : ℕ) (l : i < n) where
  -- an edge that is read is the map's
  pub edge-is : (s : Fixed) {x : Hint} → x ≡ hint_in ls ts i → x ≡ edge_at (map_in ls ts n s) i
  edge-is s e = e ∙ sym (read_is ls ts n w.fits s i l)

  module _ (e : Hint) where
    -- a write changes no character height
    height-kept : (k : ℕ) → k < 96 → get_or (set_line ls i e) k (pos 0) ≡ get_or ls k (pos 0)
    height-kept k q =
        get_or-set_other (set ls (96 + i) e.ds_coord.bits) (192 + i) k e.scale.bits (pos 0) (λ z. omega arith) ∙
        get_or-set_other ls (96 + i) k e.ds_coord.bits (pos 0) (λ z. omega arith)

    -- so the lists are lent on as they were
    line-lent : Lent (set_line ls i e) ts n
    line-lent =
        record {
          whole = line-whole ls ts w.whole i (omega (arith, w.fits)) e;
          fits = w.fits;
          order = λ a b p q. rw (height-kept a (omega (arith, w.fits)), height-kept b (omega (arith, w.fits)))
              (w.order a b p q);
        }

-- lent lists hold a map that is m but on the device
pub record Holds (m : HintMap) (ls : List ℤ) (ts : List ℕ) (n : ℕ) (s : Fixed) (k : HintMap) : Type 0 where
  pub lent : Lent ls ts n
  pub map : map_in ls ts n s ≡ k
  pub kept : Kept m k

-- at first it is m itself
pub holds : (ls : List ℤ) (ts : List ℕ) (n : ℕ) (s : Fixed) → Lent ls ts n →
    Holds (map_in ls ts n s) ls ts n s (map_in ls ts n s)
holds ls ts n s w = record { lent = w; map = refl; kept = kept_refl (map_in ls ts n s) }

-- an edge that is written, and is m's but on the device, is put into that map
pub write : {m k : HintMap} {ls ls' : List ℤ} {ts : List ℕ} {n : ℕ} {s : Fixed} → Holds m ls ts n s k → (i : ℕ)
    (e : Hint) → ls' ≡ set_line ls i e → i < n → still e ≡ still (edge_at m i) → Holds m ls' ts n s (with_edge k i e)
unfolding map_in
write {m} {k} {ls} {ls'} {ts} {n} {s} h i e r l q =
    let w = h.lent in
    let p = q ∙ sym (kept_at m k h.kept i) ∙ sym (ap (λ (x : HintMap). still (edge_at x i)) h.map) in
    record {
      lent = rw r (line-lent ls ts n w i l e);
      map = rw r
          (ap (λ (es : List Hint). record { edges = es; len = n; is_valid = false; scale = s })
          (line-map ls ts n w.fits s i l e w.whole (ap (on_line e) p)) ∙
          ap (λ (x : HintMap). with_edge x i e) h.map);
      kept = set-kept m k i e h.kept q;
    }

-- ---- notes as numbers
module _ (at : List ℕ) (by : List ℤ) (c k : ℕ) where
  -- a note's move is the number that stands for it, and its place is the number itself
  pub move-is : get_or (notes_in at by c).by k ZERO ≡ from_bits (get_or by k (pos 0))
  unfolding notes_in
  move-is = get_or-map from_bits by k (pos 0)

  pub place_is : get_or (notes_in at by c).at k 0 ≡ get_or at k 0
  unfolding notes_in
  place_is = refl

-- a number put among moves is a move put there
map-set : (l : List ℤ) (i : ℕ) (z : ℤ) → map from_bits (set l i z) ≡ set (map from_bits l) i (from_bits z)
map-set [] i z = refl
map-set (x ∷ l) zero z = refl
map-set (x ∷ l) (suc i) z = ap (λ (fs : List Fixed). from_bits x ∷ fs) (map-set l i z)

-- a note more
pub noted_in : (at : List ℕ) (by : List ℤ) (k j : ℕ) (x : Fixed) →
    noted_of (notes_in at by k) j (Some x) ≡ notes_in (set at k j) (set by k x.bits) (k + 1)
unfolding notes_in noted_of
noted_in at by k j x = rw (map-set by k x.bits)
