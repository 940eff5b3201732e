-- Zones (01, "Zones"): the pairs, and what the first two steps and the last make of them.
use Rattle.std.specs.Prelude.{Bool, true, false, cond, ◌&&◌, ◌||◌, List, [], ◌∷◌, ◌++◌, map, ℕ, ◌+◌, ◌-◌, eqb, length}
use Rattle.std.specs.Prelude.{take, drop, set, replicate}
use Rattle.fixed.specs.declared.Fixed.{Fixed}
use Rattle.fixed.specs.Fixed.{ZERO, MAX, add_f, sub_f, neg_f, abs_f, mul_f, round_f, less_f, same_f, max_f}
use Rattle.stems.specs.declared.edge.Side.{Side}
use Rattle.stems.specs.declared.edge.Side.TheVariants.{Bottom, Top}
use Rattle.zones.specs.declared.blues.Blue.{Blue}
use Rattle.zones.specs.declared.blues.Blues.{Blues}
use Rattle.zones.specs.declared.blues.BlueZone.{BlueZone}
use Rattle.zones.specs.declared.blues.Zones.{Zones}
use Rattle.zones.specs.declared.blues.Nearest.{Nearest}

-- the most pairs of a list, the other blues that count, and the most zones
abbrev pub max_blues : ℕ
max_blues = 7

abbrev pub max_other_blues : ℕ
max_other_blues = 5

abbrev pub max_zones : ℕ
max_zones = 12

abbrev pub no_blue : Blue
no_blue = record { bottom = ZERO; top = ZERO }

-- the pairs of a list
abbrev pub list_of : Blues → List Blue
list_of bs = take bs.count bs.pairs

-- top − bottom
abbrev pub height_of : Blue → Fixed
height_of b = sub_f b.top b.bottom

-- both ends below a height, both above
abbrev pub wholly_below : Fixed → Blue → Bool
wholly_below h b = less_f b.bottom h && less_f b.top h

abbrev pub wholly_above : Fixed → Blue → Bool
wholly_above h b = less_f h b.bottom && less_f h b.top

-- ---- step 1: the zones kept
-- the zone of a pair, a bottom zone (true) or a top zone, that is flat at a height
abbrev pub zone_flat_at : Fixed → Bool → Blue → BlueZone
zone_flat_at flat bottom b =
    record {
      is_bottom = bottom;
      cs_bottom_edge = b.bottom;
      cs_top_edge = b.top;
      cs_flat_edge = flat;
      ds_flat_edge = ZERO;
    }

-- a bottom zone is flat at its top, a top zone at its bottom
abbrev pub zone_of : Side → Blue → BlueZone
zone_of Bottom b = zone_flat_at b.top true b
zone_of Top b = zone_flat_at b.bottom false b

-- the pairs whose height is not negative
unfoldable pub sift : List Blue → List Blue
sift [] = []
sift (b ∷ bs) = cond (less_f (height_of b) ZERO) (sift bs) (b ∷ sift bs)

-- of the blues the first is a bottom zone, the later ones top zones
unfoldable pub blues_zones : List Blue → List BlueZone
blues_zones [] = []
blues_zones (b ∷ bs) = zone_of Bottom b ∷ map (zone_of Top) bs

-- blues in order, then the first five other blues, which are bottom zones
unfoldable pub kept : Blues → Blues → List BlueZone
kept blues others = blues_zones (sift (list_of blues)) ++ map (zone_of Bottom)
    (sift (take max_other_blues (list_of others)))

-- for step 3: the greatest height of some zones, or g if that is greater
unfoldable pub greatest_from : Fixed → List BlueZone → Fixed
greatest_from g [] = g
greatest_from g (z ∷ zs) = greatest_from (max_f g (sub_f z.cs_top_edge z.cs_bottom_edge)) zs

-- ---- step 2: the family
-- the edges that a family's pairs have for bottom zones, and for top zones, which pass over the
-- first pair
abbrev pub family_edge : Side → Blue → Fixed
family_edge Bottom b = b.top
family_edge Top b = b.bottom

abbrev pub family_from : Side → ℕ
family_from Bottom = 0
family_from Top = 1

abbrev pub family_edges : Side → Blues → List Fixed
family_edges side bs = map (family_edge side) (drop (family_from side) (list_of bs))

abbrev pub distance : Fixed → Fixed → Fixed
distance flat edge = abs_f (sub_f flat edge)

-- the nearest so far, or another edge where that is nearer and less than the limit, 1.0/scale, away
unfoldable pub nearer : Fixed → Fixed → Nearest → Fixed → Nearest
nearer flat limit n edge =
    cond (less_f (distance flat edge) n.diff && less_f (distance flat edge) limit)
    (record { edge = edge; diff = distance flat edge }) n

-- the search along some edges: of two that are as near the earlier stays, and a distance of 0 ends
-- it
unfoldable pub nearest_from : Fixed → Fixed → Nearest → List Fixed → Nearest
nearest_from flat limit n [] = n
nearest_from flat limit n (x ∷ xs) = cond (same_f n.diff ZERO) n (nearest_from flat limit (nearer flat limit n x) xs)

-- before the search: the flat edge itself, at the greatest distance
abbrev pub unmoved : Fixed → Nearest
unmoved flat = record { edge = flat; diff = MAX }

unfoldable pub nearest_of : Side → Blues → Fixed → Fixed → Nearest
nearest_of side bs flat limit = nearest_from flat limit (unmoved flat) (family_edges side bs)

-- what a search found, or the top of the first of some pairs, if there is one and it is nearer
unfoldable pub first_too : Fixed → Fixed → Nearest → List Blue → Nearest
first_too flat limit n [] = n
first_too flat limit n (b ∷ bs) = nearer flat limit n b.top

-- a bottom zone looks at the family's other blues, then at its first blue; a top zone at its blues
abbrev pub family_nearest : Bool → Blues → Blues → Fixed → Fixed → Nearest
family_nearest true others blues flat limit = first_too flat limit (nearest_of Bottom others flat limit) (list_of blues)
family_nearest false others blues flat limit = nearest_of Top blues flat limit

abbrev pub with_flat : BlueZone → Fixed → BlueZone
with_flat z flat =
    record {
      is_bottom = z.is_bottom;
      cs_bottom_edge = z.cs_bottom_edge;
      cs_top_edge = z.cs_top_edge;
      cs_flat_edge = flat;
      ds_flat_edge = z.ds_flat_edge;
    }

-- the flat edge moves to the nearest of those that count, or stays
unfoldable pub moved_flat : Blues → Blues → Fixed → BlueZone → BlueZone
moved_flat others blues limit z =
    with_flat z (family_nearest z.is_bottom others blues z.cs_flat_edge limit).edge

-- ---- step 5: the flat edge on the device
abbrev pub with_device_flat : BlueZone → Fixed → BlueZone
with_device_flat z d =
    record {
      is_bottom = z.is_bottom;
      cs_bottom_edge = z.cs_bottom_edge;
      cs_top_edge = z.cs_top_edge;
      cs_flat_edge = z.cs_flat_edge;
      ds_flat_edge = d;
    }

-- round(flat·scale + boost), with the boost negated for bottom zones
unfoldable pub device_flat : Fixed → Fixed → BlueZone → BlueZone
device_flat s boost z =
    with_device_flat z (round_f (add_f (mul_f z.cs_flat_edge s) (cond z.is_bottom (neg_f boost) boost)))

-- ---- zones held by value
abbrev pub no_zone : BlueZone
no_zone = zone_of Top no_blue

-- some zones, at most twelve, with blank ones behind them; and the same with their count and
-- greatest height
abbrev pub filled : List BlueZone → List BlueZone
filled zs = zs ++ replicate (max_zones - length zs) no_zone

abbrev pub packed : List BlueZone → Zones
packed zs = record { list = filled zs; count = length zs; greatest = greatest_from ZERO zs }

abbrev pub no_zones : Zones
no_zones = packed []

abbrev pub pushed : Zones → BlueZone → Fixed → Zones
pushed q z h = record { list = set q.list q.count z; count = q.count + 1; greatest = max_f q.greatest h }

-- what a zone is that is kept after n others: of the other blues (true) always a bottom zone, of
-- the blues only as the first
abbrev pub kept_side : Bool → ℕ → Side
kept_side other n = cond (other || eqb n 0) Bottom Top

-- one pair read: of the other blues (true) or of the blues
unfoldable pub kept_in : Bool → Zones → Blue → Zones
kept_in other q b = cond (less_f (height_of b) ZERO) q (pushed q (zone_of (kept_side other q.count) b) (height_of b))

unfoldable pub read_in : Bool → Zones → List Blue → Zones
read_in other q [] = q
read_in other q (b ∷ bs) = read_in other (kept_in other q b) bs
