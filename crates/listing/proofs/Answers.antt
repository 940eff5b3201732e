-- Laws of what is listed: the summary counts it, it has room, and each record of it is that of the
-- edge at its place. Assumes nothing.
use mathlib.Core.Path.{◌≡◌, refl}
use mathlib.Core.Bool.{Bool, true, false, cond}
use mathlib.Core.List.{List, [], ◌∷◌, ◌++◌}
use Prim.Native.Nat.{ℕ, zero, suc, ◌+◌, ◌≤◌, ◌<◌}
use native.Mathlib.Omega.{arith}
use lib.Dec.{leb}
use lib.ListN.{length, take}
use borrow.Author.Tests.{leb-true}
use Rattle.hintmap.specs.declared.map.HintMap.{HintMap}
use Rattle.listing.specs.declared.record.EdgeRecord.{EdgeRecord}
use Rattle.std.specs.Prelude.{Ok, Err}
use Rattle.listing.specs.Records.{record_at, edge_records, records_of, summary_of}
use Rattle.listing.specs.Listing.{list_summary, list_answer, records_in}
use Rattle.listing.proofs.Counting.{records-length, records-more}

-- the summary's edges are as many as are listed
edges_by : (t : Bool) (rs : List EdgeRecord) →
    (list_summary (cond t (Ok (summary_of rs)) (Err (record {})))).edges ≡ length (cond t rs [])
unfolding summary_of
edges_by true rs = refl
edges_by false rs = refl

pub edges-listed : (m : HintMap) (room : ℕ) → (list_summary (list_answer m room)).edges ≡ length (records_in m room)
unfolding list_answer records_in
edges-listed m room = edges_by (leb (length (records_of m)) room) (records_of m)

-- they have room
fits_by : (t : Bool) (rs : List EdgeRecord) (room : ℕ) → leb (length rs) room ≡ t → length (cond t rs []) ≤ room
fits_by true rs room h = leb-true (length rs) room h
fits_by false rs room h = omega arith

pub listed-fits : (m : HintMap) (room : ℕ) → length (records_in m room) ≤ room
unfolding records_in
listed-fits m room = fits_by (leb (length (records_of m)) room) (records_of m) room refl

-- each stands at its edge's place, of which there are 96
abbrev pub Stand : HintMap → List EdgeRecord → Type 0
Stand m rs = (i : ℕ) → i < length rs → (i < 96) × (take (i + 1) rs ≡ take i rs ++ (record_at m i ∷ []))

stand-by : (m : HintMap) (t : Bool) (rs : List EdgeRecord) → Stand m rs → Stand m (cond t rs [])
stand-by m true rs s = s
stand-by m false rs s = λ i h. absurd (omega arith)

pub listed-stand : (m : HintMap) (room : ℕ) → length m.edges ≡ 96 → Stand m (records_in m room)
unfolding records_in records_of
listed-stand m room l =
    stand-by m (leb (length (records_of m)) room) (records_of m)
    (stand-by m m.is_valid (edge_records m) (λ i h. (omega (arith, records-length m l, h), records-more m l i h)))

-- so no more are listed than a map has places
few_places : (n : ℕ) → ((i : ℕ) → i < n → i < 96) → n ≤ 96
few_places zero f = omega arith
few_places (suc n) f = omega (arith, f n (omega arith))

pub listed_few : (m : HintMap) → length m.edges ≡ 96 → (room : ℕ) → length (records_in m room) ≤ 96
listed_few m long room = few_places (length (records_in m room)) (λ i h. (listed-stand m room long i h).0)
