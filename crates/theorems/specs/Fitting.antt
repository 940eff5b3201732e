-- Laws in 01's words of what is defined by following a loop ("The map", Adjust and Build): the
-- smallest moves, the scales after the first pass, and the baseline.
use Rattle.std.specs.Prelude.{◌≡◌, false, ◌⊎◌, ℕ, ◌+◌, ◌<◌, ◌≤ℤ◌, ◌<ℤ◌}
use Rattle.fixed.specs.declared.Fixed.{Fixed}
use Rattle.fixed.specs.Fixed.{ZERO, add_f, sub_f, div_f, fract_f}
use Rattle.stems.specs.declared.edge.Kind.TheVariants.{GhostBottom}
use Rattle.hintmap.specs.declared.map.HintMap.{HintMap}
use Rattle.hintmap.specs.declared.insert.Edges.TheVariants.{One}
use Rattle.hintmap.specs.Insert.{insert_in}
use Rattle.build.specs.Ghosts.{ghost_at}
use Rattle.theorems.specs.Reached.{edge, height}

-- ---- the moves of a hint, from the device heights of its two edges
-- a move puts either edge on a whole pixel
pub data Lands (low high by : Fixed) : Type 0 where
  lower : fract_f (add_f low by) ≡ ZERO → Lands low high by
  upper : fract_f (add_f high by) ≡ ZERO → Lands low high by

-- the smallest move up that does
pub record SmallestUp (low high by : Fixed) : Type 0 where
  pub up : ZERO.bits ≤ℤ by.bits
  pub lands : Lands low high by
  pub least : (other : Fixed) → ZERO.bits ≤ℤ other.bits → other.bits <ℤ by.bits → Lands low high other → ⊥

-- and the smallest move down
pub record SmallestDown (low high by : Fixed) : Type 0 where
  pub down : by.bits ≤ℤ ZERO.bits
  pub lands : Lands low high by
  pub least : (other : Fixed) → other.bits ≤ℤ ZERO.bits → by.bits <ℤ other.bits → Lands low high other → ⊥

-- ---- the scales that the first pass sets in a map
pub record Scaled (before after : HintMap) : Type 0 where
  -- device difference by character difference to the next edge, where these differ
  pub differ : (i : ℕ) → i + 1 < before.len → (height after i ≡ height after (i + 1) → ⊥) →
      (edge after i).scale ≡ div_f (sub_f (edge after (i + 1)).ds_coord (edge after i).ds_coord)
      (sub_f (height after (i + 1)) (height after i))
  -- where they do not, and at the last edge, the scale stays
  pub same : (i : ℕ) → i + 1 < before.len → height after i ≡ height after (i + 1) →
      (edge after i).scale ≡ (edge before i).scale
  pub last : (i : ℕ) → i + 1 ≡ before.len → (edge after i).scale ≡ (edge before i).scale

-- ---- the baseline of an initial map
-- no edges, or all above 0, or all below
pub data Uncovered (m : HintMap) : Type 0 where
  none : m.len ≡ 0 → Uncovered m
  above : ((i : ℕ) → i < m.len → ZERO.bits <ℤ (height m i).bits) → Uncovered m
  below : ((i : ℕ) → i < m.len → (height m i).bits <ℤ ZERO.bits) → Uncovered m

-- a locked synthetic bottom ghost at height 0 and device 0, inserted by the rule
abbrev pub with_baseline : HintMap → HintMap
with_baseline m = insert_in m (One (ghost_at GhostBottom ZERO ZERO m.scale)) m false

-- it is put in exactly if no edge covers it
pub record Baselined (before after : HintMap) : Type 0 where
  pub put : Uncovered before → after ≡ with_baseline before
  pub left : (Uncovered before → ⊥) → after ≡ before
  -- one of the two holds
  pub either : Uncovered before ⊎ (Uncovered before → ⊥)
