-- The hints of a run, kept in lists (01, "Stems and masks", "The map"): which hints they are, and what
-- each command that changes them leaves.
use Rattle.std.specs.Prelude.{◌≡◌, Bool, true, false, List, ℕ, ◌≤◌, ℤ, pos, length, replicate}
use Rattle.fixed.specs.declared.Fixed.{Fixed}
use Rattle.stems.specs.declared.mask.HintMask.{HintMask}
use Rattle.stems.specs.Edge.{max_hints}
use Rattle.stems.specs.Mask.{mask_size, of_bytes}
use Rattle.stems.specs.Lists.{Whole, stems_in}
use Rattle.zones.specs.declared.state.HintState.{HintState}
use Rattle.hintmap.specs.declared.map.HintMap.{HintMap}
use Rattle.hintmap.specs.Lent.{Rises, LinesOf}
use Rattle.build.specs.Made.{SameDeclared}
use Rattle.hints.specs.declared.hints.Hints.{Hints}
use Rattle.hints.specs.Hints.{with_stem, with_mask, with_initial, countered, ready_of}
use Rattle.hints.specs.Calls.{hints_of}
use Rattle.commands.specs.declared.reading.Marking.{Marking}
use Rattle.run.specs.declared.kept.KeptLists.{KeptLists}
use Rattle.run.specs.declared.kept.Sizes.{Sizes}
use Rattle.run.specs.Run.{mark_call}

-- lists of zeros
abbrev pub no_lists : KeptLists
no_lists =
    record {
      stems = replicate 480 (pos 0);
      initial = replicate 288 (pos 0);
      map = replicate 288 (pos 0);
      tags = replicate 192 0;
      notes = replicate 96 (pos 0);
    }

abbrev pub no_sizes : Sizes
no_sizes = record { stems = 0; initial = 0; based = false; map = 0; valid = false }

-- a map of a run: its lines, in order, its scale, and whether it is built
pub record KeptMap (s : Fixed) (m : HintMap) (ls : List ℤ) (n : ℕ) (built : Bool) : Type 0 where
  pub lines : LinesOf m ls n
  pub fits : n ≤ max_hints
  pub order : Rises ls n
  pub scale : m.scale ≡ s
  pub valid : m.is_valid ≡ built

-- the hints that lists keep: of the stems that are declared, of the mask's bytes, and of the lines of
-- both maps
pub record Kept (st : HintState) (h : Hints) (z : Sizes) (bs : List ℕ) (ns is ms : List ℤ) : Type 0 where
  pub stems : SameDeclared h.stems (stems_in ns z.stems)
  pub mask : h.mask ≡ of_bytes bs
  pub initial : KeptMap st.scale h.initial is z.initial z.based
  pub map : KeptMap st.scale h.map ms z.map z.valid

-- a stem declared
pub record Stemmed (z : Sizes) (ns : List ℤ) (min max : Fixed) (z' : Sizes) (ns' : List ℤ) : Type 0 where
  pub long : length ns' ≡ 480
  pub kept : (st : HintState) (h : Hints) (bs : List ℕ) (is ms : List ℤ) → Kept st h z bs ns is ms →
      Kept st (with_stem min max h) z' bs ns' is ms

-- a mask set
pub record Masked (z : Sizes) (bs : List ℕ) (given : HintMask) (z' : Sizes) (bs' : List ℕ) : Type 0 where
  pub twelve : length bs' ≡ mask_size
  pub kept : (st : HintState) (h : Hints) (ns is ms : List ℤ) → Kept st h z bs ns is ms →
      Kept st (with_mask given h) z' bs' ns is ms

-- the initial map made, where it is not
pub record Based (st : HintState) (z : Sizes) (is ns : List ℤ) (z' : Sizes) (is' : List ℤ) (ts' : List ℕ) : Type 0 where
  pub whole : Whole is' ts'
  pub fits : z'.initial ≤ max_hints
  pub kept : (h : Hints) (bs : List ℕ) (ms : List ℤ) → Kept st h z bs ns is ms →
      Kept st (with_initial st h) z' bs ns is' ms

-- lists in which a map can be built
pub record Buildable (z : Sizes) (is : List ℤ) (ts : List ℕ) (ns : List ℤ) : Type 0 where
  pub whole : Whole is ts
  pub long : length ns ≡ 480
  pub fits : z.initial ≤ max_hints

-- the heights of a counter mask's map, saved
pub record Countered (st : HintState) (m : HintMask) (z : Sizes) (is ns : List ℤ) (z' : Sizes) (is' : List ℤ)
    (ts' : List ℕ) (ns' : List ℤ) : Type 0 where
  pub build : Buildable z' is' ts' ns'
  pub kept : (h : Hints) (bs : List ℕ) (ms : List ℤ) → Kept st h z bs ns is ms →
      Kept st (countered st m h) z' bs ns' is' ms

-- lists in which the current map can be built
pub record Mappable (z : Sizes) (ms is : List ℤ) (ts : List ℕ) (ns : List ℤ) (bs : List ℕ) : Type 0 where
  pub build : Buildable z is ts ns
  pub current : length ms ≡ 288
  pub twelve : length bs ≡ mask_size

-- the current map made, where it is not
pub record Readied (st : HintState) (z : Sizes) (is : List ℤ) (bs : List ℕ) (ns : List ℤ) (z' : Sizes)
    (ms' is' : List ℤ) (ts' : List ℕ) (ns' : List ℤ) : Type 0 where
  pub map : Mappable z' ms' is' ts' ns' bs
  pub valid : z'.valid ≡ true
  pub kept : (h : Hints) (ms : List ℤ) → z.valid ≡ false → Kept st h z bs ns is ms →
      Kept st (ready_of st h) z' bs ns' is' ms'

-- what a command that writes nothing leaves
pub record Marked (st : HintState) (s : List ℕ) (from : ℕ) (m : Marking) (z : Sizes) (bs : List ℕ) (ns is : List ℤ)
    (z' : Sizes) (bs' : List ℕ) (ns' is' : List ℤ) (ts' : List ℕ) : Type 0 where
  pub whole : Whole is' ts'
  pub long : length ns' ≡ 480
  pub twelve : length bs' ≡ mask_size
  pub kept : (h : Hints) (ms : List ℤ) → Kept st h z bs ns is ms →
      Kept st (hints_of st h (mark_call s from m)) z' bs' ns' is' ms
