-- Laws of a label's result: where the records of a glyph start, how many words they have, and that
-- they stand there. Assumes nothing.
use mathlib.Core.Path.{◌≡◌, refl, sym, ap, ◌∙◌}
use mathlib.Core.List.{List, [], ◌∷◌, ◌++◌, append_assoc}
use Prim.Native.Nat.{ℕ, zero, suc, ◌+◌, ◌*◌, ◌<◌}
use native.Mathlib.Omega.{arith}
use lib.IntN.{ℤ, pos}
use lib.ListN.{length, take, drop, get_or, length-append}
use lib.Seq.{take_at, drop_at, drop-drop, drop-append-add}
use Rattle.pen.specs.Records.{written}
use Rattle.labels.specs.Labels.{places_from, joined, header_of, label_words}
use Rattle.labels.proofs.Laying.{places-length}

-- the places, before other words
module _ (d rest : List ℤ) where
  place_at : (at : ℕ) (wss : List (List ℤ)) (k : ℕ) → k < length wss →
      (get_or (places_from at wss ++ rest) (2 * k) (pos 0) ≡ pos (at + length (joined (take k wss)))) ×
      (get_or (places_from at wss ++ rest) (2 * k + 1) (pos 0) ≡ pos (length (get_or wss k d)))
  unfolding places_from joined
  place_at at [] k h = absurd (omega arith)
  place_at at (ws ∷ wss) zero h = let z : at ≡ at + 0 = omega arith in (ap pos z, refl)
  place_at at (ws ∷ wss) (suc k) h =
      let e : 2 * suc k ≡ suc (suc (2 * k)) = omega arith in
      let f : suc (suc (2 * k)) + 1 ≡ suc (suc (2 * k + 1)) = omega arith in
      let again = place_at (at + length ws) wss k (omega arith) in
      let n : at + length ws + length (joined (take k wss)) ≡ at + length (ws ++ joined (take k wss)) =
      omega (arith, length-append ws (joined (take k wss))) in
      rw (e, f) (again.0 ∙ ap pos n, again.1)

  -- the records, behind those before them
  records-at : (wss : List (List ℤ)) (k : ℕ) → k < length wss →
      take (length (get_or wss k d)) (drop (length (joined (take k wss))) (joined wss ++ rest)) ≡ get_or wss k d
  unfolding joined
  records-at [] k h = absurd (omega arith)
  records-at (ws ∷ wss) zero h =
      ap (take (length ws)) (append_assoc ws (joined wss) rest) ∙ take_at ws (joined wss ++ rest) (length ws) refl
  records-at (ws ∷ wss) (suc k) h =
      let js = joined (take k wss) in
      let n = length-append ws js in
      rw (append_assoc ws (joined wss) rest, n, drop-append-add ws (joined wss ++ rest) (length js))
      (records-at wss k (omega arith))

module _ (wss : List (List ℤ)) (out d : List ℤ) (k : ℕ) (h : k < length wss) where
  -- the words past the result
  abbrev past : List ℤ
  past = drop (length (label_words wss)) out

  abbrev header : ℕ
  header = header_of (length wss)

  -- the result, in its parts
  in_parts : written (label_words wss) out ≡
      pos 1 ∷ pos (length wss) ∷ (places_from header wss ++ (joined wss ++ past))
  unfolding written label_words
  in_parts =
      ap (λ (l : List ℤ). pos 1 ∷ pos (length wss) ∷ l) (append_assoc (places_from header wss) (joined wss) past)

  pub offset-there : get_or (written (label_words wss) out) (2 + 2 * k) (pos 0) ≡
      pos (header + length (joined (take k wss)))
  offset-there =
      let e : 2 + 2 * k ≡ suc (suc (2 * k)) = omega arith in
      rw (in_parts, e) (place_at d (joined wss ++ past) header wss k h).0

  pub words-there : get_or (written (label_words wss) out) (3 + 2 * k) (pos 0) ≡ pos (length (get_or wss k d))
  words-there =
      let e : 3 + 2 * k ≡ suc (suc (2 * k + 1)) = omega arith in
      rw (in_parts, e) (place_at d (joined wss ++ past) header wss k h).1

  pub records-there :
      take (length (get_or wss k d)) (drop (header + length (joined (take k wss))) (written (label_words wss) out)) ≡
      get_or wss k d
  records-there =
      let n = length (joined (take k wss)) in
      let front : List ℤ = pos 1 ∷ pos (length wss) ∷ places_from header wss in
      ap (take (length (get_or wss k d)))
      (sym (drop-drop n header (written (label_words wss) out)) ∙
      ap (λ (l : List ℤ). drop n (drop header l)) in_parts ∙
      ap (drop n) (drop_at front (joined wss ++ past) header (omega (arith, places-length header wss)))) ∙
      records-at d past wss k h

-- words past the result stand
pub past-there : (ws out : List ℤ) → drop (length ws) (written ws out) ≡ drop (length ws) out
unfolding written
past-there ws out = drop_at ws (drop (length ws) out) (length ws) refl
