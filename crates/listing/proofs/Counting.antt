-- Laws of the records of a map: how many they are, one more of them, how many of those are
-- counted, and their summary. Assumes nothing.
use mathlib.Core.Path.{◌≡◌, refl, sym, ap, ◌∙◌}
use mathlib.Core.Bool.{Bool, true, false, not, cond}
use mathlib.Core.List.{List, [], ◌∷◌, ◌++◌, map}
use Prim.Native.Nat.{ℕ, min, ◌+◌, ◌<◌}
use native.Mathlib.Numerals.{add-one}
use native.Mathlib.Omega.{arith}
use lib.ListN.{length, take, length-map, length-take, get_or-map}
use lib.Seq.{take-suc, get_or-take}
use borrow.Author.Tests.{not-true, not-false}
use Rattle.std.specs.Prelude.{count_by}
use Rattle.std.proofs.lemmas.List.Recursion.{is_count_by}
use Rattle.fixed.proofs.Counts.{take-least}
use Rattle.stems.specs.declared.edge.Hint.{Hint}
use Rattle.stems.specs.Edge.{no_hint}
use Rattle.hintmap.specs.declared.map.HintMap.{HintMap}
use Rattle.hintmap.specs.Map.{view}
use Rattle.listing.specs.declared.record.EdgeRecord.{EdgeRecord}
use Rattle.listing.specs.declared.record.Counted.TheVariants.{Pairs, Ghosts, Locked}
use Rattle.listing.specs.Records.{record_of, record_at, edge_records, records_of, counts, count_of, summary_of}
use Rattle.listing.specs.Records.{no_summary}

-- edges whose records pass
counted_more : (t : Bool) (n : ℕ) → cond t 1 0 + n ≡ cond t (1 + n) n
counted_more true n = refl
counted_more false n = omega arith

count-edges : (f : EdgeRecord → Bool) (es : List Hint) →
    count_of f (map record_of es) ≡ count_by (λ e. f (record_of e)) es
unfolding count_of
count-edges f = is_count_by (λ es. count_of f (map record_of es)) _ refl (λ e es. counted_more (f (record_of e)) _)

-- so many records are a map's, one for each edge
module _ (m : HintMap) (long : length m.edges ≡ 96) where
  pub records-length : length (edge_records m) ≡ min m.len 96
  unfolding edge_records
  records-length = length-map (view m) record_of ∙ length-take m.len m.edges ∙ ap (min m.len) long

  -- one more of them
  pub records-more : (i : ℕ) → i < length (edge_records m) →
      take (i + 1) (edge_records m) ≡ take i (edge_records m) ++ (record_at m i ∷ [])
  unfolding edge_records
  records-more i h =
      let n : i < m.len = omega (arith, records-length, h) in
      let e = get_or-map record_of (view m) i no_hint ∙ ap record_of (get_or-take m.len m.edges i no_hint n) in
      rw (add-one, take-suc _ i (record_of no_hint) h, e)

  -- and so many are counted
  pub count-whole : (f : EdgeRecord → Bool) →
      count_by (λ e. f (record_of e)) (take (min m.len 96) m.edges) ≡ count_of f (edge_records m)
  unfolding edge_records
  count-whole f = rw (take-least m.len 96 m.edges long) (sym (count-edges f (view m)))

-- the summary of a map that is not valid, and of one that is
module _ (m : HintMap) where
  pub summary_none : not m.is_valid ≡ true → no_summary ≡ summary_of (records_of m)
  unfolding records_of summary_of count_of
  summary_none h = rw (not-true m.is_valid h) refl

  pub summary_whole : not m.is_valid ≡ false → length m.edges ≡ 96 → {edges pairs ghosts locked : ℕ} →
      edges ≡ min m.len 96 → pairs ≡ count_of (counts Pairs) (edge_records m) →
      ghosts ≡ count_of (counts Ghosts) (edge_records m) → locked ≡ count_of (counts Locked) (edge_records m) →
      record { edges = edges; pairs = pairs; ghosts = ghosts; locked = locked } ≡ summary_of (records_of m)
  unfolding records_of summary_of
  summary_whole v long e p g l =
      let s = ap (λ (b : Bool). summary_of (cond b (edge_records m) [])) (not-false m.is_valid v) in
      rw (e ∙ sym (records-length m long), p, g, l) (sym s)
