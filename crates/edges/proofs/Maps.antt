-- Laws of a map's records: at most 96, and counted no more often. Assumes nothing.
use mathlib.Core.Path.{◌≡◌, ap}
use mathlib.Core.Bool.{Bool, true, false, cond}
use mathlib.Core.List.{List, [], ◌∷◌, ◌++◌}
use Prim.Native.Nat.{ℕ, ◌+◌, ◌≤◌, ◌<◌}
use native.Mathlib.Omega.{arith}
use lib.ListN.{length, take}
use Rattle.hintmap.specs.declared.map.HintMap.{HintMap}
use Rattle.listing.specs.declared.record.EdgeRecord.{EdgeRecord}
use Rattle.listing.specs.declared.summary.Summary.{Summary}
use Rattle.listing.specs.Records.{record_at, edge_records, records_of, count_of, summary_of}
use Rattle.listing.proofs.Counting.{records-length, records-more}

-- no more are counted than there are
counted : (f : EdgeRecord → Bool) (rs : List EdgeRecord) → count_of f rs ≤ length rs
unfolding count_of
counted f [] = omega arith
counted f (r ∷ rs) = by (f r) (counted f rs)
  where
    by : (b : Bool) → count_of f rs ≤ length rs → cond b 1 0 + count_of f rs ≤ length (r ∷ rs)
    by true h = omega arith
    by false h = omega arith

module _ (m : HintMap) (long : length m.edges ≡ 96) where
  pub few : length (records_of m) ≤ 96
  unfolding records_of
  few = by m.is_valid
    where
      by : (b : Bool) → length (cond b (edge_records m) []) ≤ 96
      by true = omega (arith, records-length m long)
      by false = omega arith

  pub record-more : (i : ℕ) → i < length (records_of m) →
      take (i + 1) (records_of m) ≡ take i (records_of m) ++ (record_at m i ∷ [])
  unfolding records_of
  record-more i = by m.is_valid
    where
      by : (b : Bool) → i < length (cond b (edge_records m) []) →
          take (i + 1) (cond b (edge_records m) []) ≡ take i (cond b (edge_records m) []) ++ (record_at m i ∷ [])
      by true h = records-more m long i h
      by false h = absurd (omega (arith, h))

  -- the counts of a summary
  few-of : (f : EdgeRecord → Bool) (n : ℕ) → n ≡ count_of f (records_of m) → n ≤ 96
  few-of f n e = omega (arith, e, counted f (records_of m), few)

  pub few-counted : (s : Summary) → s ≡ summary_of (records_of m) →
      (s.edges ≤ 96) × ((s.pairs ≤ 96) × ((s.ghosts ≤ 96) × (s.locked ≤ 96)))
  unfolding summary_of
  few-counted s e =
      let n : s.edges ≡ length (records_of m) = ap (λ (t : Summary). t.edges) e in (
        omega (arith, n, few),
        (
          few-of _ s.pairs (ap (λ (t : Summary). t.pairs) e),
          (
            few-of _ s.ghosts (ap (λ (t : Summary). t.ghosts) e),
            few-of _ s.locked (ap (λ (t : Summary). t.locked) e),
          ),
        ),
      )

  pub all_listed : (s : Summary) → s ≡ summary_of (records_of m) → s.edges ≡ length (records_of m)
  unfolding summary_of
  all_listed s e = ap (λ (t : Summary). t.edges) e
