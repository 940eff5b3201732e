-- Laws of the zones that are kept. Assumes nothing.
use mathlib.Core.Path.{◌≡◌, refl, sym, ap, ◌∙◌}
use mathlib.Core.Bool.{Bool, true, false, cond}
use mathlib.Core.List.{List, [], ◌∷◌, ◌++◌, map, map-append, append_assoc, append-nil}
use Prim.Native.Nat.{ℕ, suc, min, ◌+◌, ◌-◌, ◌≤◌, ◌<◌}
use native.Mathlib.Numerals.{add-one}
use native.Mathlib.Omega.{arith}
use lib.ListN.{length, take, drop, get_or, set, length-append, length-take, length-map, drop_of_length-le}
use borrow.Author.Tests.{ne_eqb, leb-true, leb-false}
use Rattle.std.specs.Prelude.{leb}
use Rattle.fixed.proofs.Counts.{take-least}
use lib.Seq.{set_at, take-suc, take-take, take_all, drop-cons, length-take-le}
use Rattle.fixed.specs.declared.Fixed.{Fixed}
use Rattle.fixed.specs.Fixed.{ZERO, sub_f, less_f, max_f}
use Rattle.stems.specs.declared.edge.Side.{Side}
use Rattle.stems.specs.declared.edge.Side.TheVariants.{Bottom, Top}
use Rattle.zones.specs.declared.blues.Blue.{Blue}
use Rattle.zones.specs.declared.blues.Blues.{Blues}
use Rattle.zones.specs.declared.blues.BlueZone.{BlueZone}
use Rattle.zones.specs.declared.blues.Zones.{Zones}
use Rattle.zones.specs.Zones.{no_blue, no_zone, height_of, zone_of, sift, blues_zones, greatest_from, filled, packed}
use Rattle.zones.specs.Zones.{no_zones, pushed, kept_side, kept_in, read_in, list_of, kept}

module _ (other : Bool) (q : Zones) (bs : List Blue) (i : ℕ) where
  -- a pair more of those to be read
  pub read_more : i < length bs →
      read_in other q (drop i bs) ≡ read_in other (kept_in other q (get_or bs i no_blue)) (drop (i + 1) bs)
  unfolding read_in
  read_more l = rw (drop-cons bs i no_blue l, add-one i)

  -- none are left
  pub read-ends : length bs ≤ i → read_in other q (drop i bs) ≡ q
  unfolding read_in
  read-ends l = rw (drop_of_length-le bs l)

-- ---- zones kept, as a list
abbrev span : BlueZone → Fixed
span z = sub_f z.cs_top_edge z.cs_bottom_edge

-- the height of a pair is that of its zone
zone-span : (side : Side) (b : Blue) → height_of b ≡ span (zone_of side b)
zone-span Bottom b = refl
zone-span Top b = refl

greatest-last : (g : Fixed) (zs : List BlueZone) (z : BlueZone) →
    greatest_from g (zs ++ z ∷ []) ≡ max_f (greatest_from g zs) (span z)
unfolding greatest_from
greatest-last g [] z = refl
greatest-last g (y ∷ ys) z = greatest-last (max_f g (span y)) ys z

-- one zone more, behind n others
fill_more : (zs : List BlueZone) (z : BlueZone) (n : ℕ) → length zs ≡ n → n < 12 →
    set (filled zs) n z ≡ filled (zs ++ z ∷ [])
fill_more zs z n e h =
    let left : 12 - length zs ≡ suc (12 - (length zs + 1)) = omega arith in
    rw (length-append zs (z ∷ []), left) (set_at zs no_zone _ z n e ∙ sym (append_assoc zs (z ∷ []) _))

push-packed : (zs : List BlueZone) (z : BlueZone) → length zs < 12 →
    pushed (packed zs) z (span z) ≡ packed (zs ++ z ∷ [])
push-packed zs z h =
    rw (fill_more zs z (length zs) refl h, length-append zs (z ∷ []), greatest-last ZERO zs z)

-- ---- a list that is read
-- what every zone is that is kept once there are m
abbrev Steady : Bool → Side → ℕ → Type 0
Steady other side m = (n : ℕ) → m ≤ n → kept_side other n ≡ side

-- what reading some pairs is to give, whatever zones there are
abbrev Reads : Bool → Side → List Blue → Type 0
Reads other side bs =
    (zs : List BlueZone) → Steady other side (length zs) → length zs + length bs ≤ 12 →
    read_in other (packed zs) bs ≡ packed (zs ++ map (zone_of side) (sift bs))

module _ (other : Bool) (side : Side) where
  read_one : (t : Bool) (b : Blue) (bs : List Blue) → Reads other side bs → (zs : List BlueZone) →
      less_f (height_of b) ZERO ≡ t → Steady other side (length zs) → length zs + suc (length bs) ≤ 12 →
      read_in other (kept_in other (packed zs) b) bs ≡ packed
      (zs ++ map (zone_of side) (cond t (sift bs) (b ∷ sift bs)))
  unfolding kept_in
  read_one true b bs ih zs e k h = rw e (ih zs k (omega arith))
  read_one false b bs ih zs e k h =
      let z = zone_of side b in
      let more : length (zs ++ z ∷ []) ≡ length zs + 1 = length-append zs (z ∷ []) in
      rw (e, k (length zs) (omega arith), zone-span side b, push-packed zs z (omega arith))
      (ih (zs ++ z ∷ []) (λ n q. k n (omega arith)) (omega arith) ∙
      ap packed (append_assoc zs (z ∷ []) (map (zone_of side) (sift bs))))

  read_all : (bs : List Blue) → Reads other side bs
  unfolding read_in sift
  read_all [] zs k h = rw (append-nil zs)
  read_all (b ∷ bs) zs k h = read_one (less_f (height_of b) ZERO) b bs (read_all bs) zs refl k h

-- other blues are bottom zones
pub read-others : (zs : List BlueZone) (bs : List Blue) → length zs + length bs ≤ 12 →
    read_in true (packed zs) bs ≡ packed (zs ++ map (zone_of Bottom) (sift bs))
read-others zs bs h = read_all true Bottom bs zs (λ n q. refl) h

-- of the blues the first kept is a bottom zone, and the later ones are top zones
first-kept : (t : Bool) (b : Blue) (bs : List Blue) → less_f (height_of b) ZERO ≡ t → length bs < 12 →
    read_in false no_zones bs ≡ packed (blues_zones (sift bs)) →
    read_in false (kept_in false no_zones b) bs ≡ packed (blues_zones (cond t (sift bs) (b ∷ sift bs)))
unfolding kept_in blues_zones
first-kept true b bs e h ih = rw e ih
first-kept false b bs e h ih =
    let z = zone_of Bottom b in
    rw (e, push-packed [] z (omega arith))
    (read_all false Top bs (z ∷ []) (λ n q. rw (ne_eqb n 0 (λ w. omega arith))) (omega arith))

pub read-blues : (bs : List Blue) → length bs ≤ 12 → read_in false no_zones bs ≡ packed (blues_zones (sift bs))
unfolding read_in sift blues_zones
read-blues [] h = refl
read-blues (b ∷ bs) h = first-kept (less_f (height_of b) ZERO) b bs refl (omega arith) (read-blues bs (omega arith))

-- no more zones than pairs
sift-length : (bs : List Blue) → length (sift bs) ≤ length bs
unfolding sift
sift-length [] = omega arith
sift-length (b ∷ bs) = go (less_f (height_of b) ZERO) (sift-length bs)
  where
    go : (t : Bool) → length (sift bs) ≤ length bs → length (cond t (sift bs) (b ∷ sift bs)) ≤ suc (length bs)
    go true h = omega arith
    go false h = omega arith

pub blues-length : (bs : List Blue) → length (blues_zones (sift bs)) ≤ length bs
unfolding blues_zones
blues-length bs = go (sift bs) (sift-length bs)
  where
    go : (cs : List Blue) → length cs ≤ length bs → length (blues_zones cs) ≤ length bs
    go [] h = h
    go (c ∷ cs) h = simp length-map h

pub kept-length : (blues others : Blues) → length (list_of blues) ≤ 7 → length (kept blues others) ≤ 12
unfolding kept
kept-length blues others h =
    let five = take 5 (list_of others) in
    simp (length-append, length-map)
    (omega (arith, blues-length (list_of blues), sift-length five, length-take 5 (list_of others)))

-- at most five other blues are read
take-others : (n : ℕ) (bs : List Blue) → take (min n 5) bs ≡ take 5 (take n bs)
take-others n bs = go (leb n 5) refl
  where
    go : (t : Bool) → leb n 5 ≡ t → take (min n 5) bs ≡ take 5 (take n bs)
    go true h =
        let few : min n 5 ≡ n = omega (arith, leb-true n 5 h) in
        rw (few, take_all 5 (take n bs) (omega (arith, length-take n bs, leb-true n 5 h)))
    go false h =
        let many : min n 5 ≡ 5 = omega (arith, leb-false n 5 h) in
        rw (many, take-take 5 n bs (omega (arith, leb-false n 5 h)))

-- the blues read into no zones, then the other blues
module _ (blues others : Blues) (seven : length blues.pairs ≡ 7) where
  abbrev first : Zones
  first = read_in false no_zones (take (min blues.count 7) blues.pairs)

  few : length (list_of blues) ≤ 7
  few = omega (arith, length-take blues.count blues.pairs)

  first-is : first ≡ packed (blues_zones (sift (list_of blues)))
  first-is = rw (take-least blues.count 7 blues.pairs seven) (read-blues (list_of blues) (omega (arith, few)))

  pub first-count : first.count ≤ 7
  first-count = rw first-is (omega (arith, blues-length (list_of blues), few))

  pub kept-is : read_in true first (take (min others.count 5) others.pairs) ≡ packed (kept blues others)
  unfolding kept
  kept-is =
      let five = take 5 (list_of others) in
      rw (first-is, take-others others.count others.pairs) (read-others (blues_zones (sift (list_of blues))) five
      (omega (arith, blues-length (list_of blues), few, length-take 5 (list_of others))))

-- zones that are changed alike: one more
pub each_more : (f : BlueZone → BlueZone) (zs : List BlueZone) (i : ℕ) → i < length zs → i < 12 →
    set (filled (map f (take i zs))) i (f (get_or zs i no_zone)) ≡ filled (map f (take (i + 1) zs))
each_more f zs i h k =
    rw (add-one i, take-suc zs i no_zone, map-append)
    (fill_more (map f (take i zs)) _ i (simp length-map (length-take-le i zs (omega arith))) k)
