-- Placing the edges of stems (01, "The map", Build).
use Rattle.std.specs.Prelude.{Bool, true, false, ◌||◌, List, [], ◌∷◌, ℕ, suc, take}
use Rattle.stems.specs.declared.mask.HintMask.{HintMask}
use Rattle.stems.specs.declared.edge.StemHint.{StemHint}
use Rattle.stems.specs.declared.edge.Side.TheVariants.{Bottom, Top}
use Rattle.stems.specs.declared.edge.Hint.{Hint}
use Rattle.stems.specs.Mask.{is_active, cleared}
use Rattle.stems.specs.declared.edge.Shape.{Shape}
use Rattle.stems.specs.Edge.{shape_of, setup_of}
use Rattle.zones.specs.declared.state.HintState.{HintState}
use Rattle.zones.specs.declared.capture.Captured.{Captured}
use Rattle.zones.specs.Capture.{capture_of}
use Rattle.hintmap.specs.declared.map.HintMap.{HintMap}
use Rattle.hintmap.specs.Insert.{chosen, insert_in}
use Rattle.stems.specs.declared.edge.Stems.{Stems}

-- the map so far, and the stems that are still to be placed
pub record Placed : Type 0 where
  pub map : HintMap
  pub rest : HintMask

-- the stems that are declared
abbrev pub declared_in : Stems → List StemHint
declared_in ss = take ss.count ss.list

abbrev pub prepared_by : Bool → HintState → Hint → Hint → Captured
prepared_by true st b t = record { captured = true; bottom = b; top = t }
prepared_by false st b t = capture_of st b t

-- a stem's edges, and whether they are locked or captured
unfoldable pub prepared_of : HintState → StemHint → ℕ → Captured
prepared_of st stem i =
    prepared_by ((setup_of stem i st.scale Bottom).locked || (setup_of stem i st.scale Top).locked) st
    (setup_of stem i st.scale Bottom) (setup_of stem i st.scale Top)

-- a stem's edges put in, where they are to be
abbrev pub put_by : Bool → HintMap → Bool → Placed → ℕ → Shape → Captured → Placed
put_by true initial given p i h e =
    record { map = insert_in p.map (chosen h e.bottom e.top) initial given; rest = cleared p.rest i }
put_by false initial given p i h e = p

abbrev pub locked_by : Bool → HintState → HintMap → Bool → Placed → ℕ → StemHint → Placed
locked_by true st initial given p i stem =
    put_by (prepared_of st stem i).captured initial given p i (shape_of stem) (prepared_of st stem i)
locked_by false st initial given p i stem = p

-- an active stem that is locked or captured is put in, and is handled even if it is dropped
unfoldable pub locked_turn : HintState → HintMap → Bool → Placed → ℕ → StemHint → Placed
locked_turn st initial given p i stem = locked_by (is_active p.rest i) st initial given p i stem

abbrev pub free_by : Bool → HintState → HintMap → Placed → ℕ → StemHint → Placed
free_by true st initial p i stem =
    record {
      map = insert_in p.map
          (chosen (shape_of stem) (setup_of stem i st.scale Bottom) (setup_of stem i st.scale Top))
          initial true;
      rest = p.rest;
    }
free_by false st initial p i stem = p

-- an active stem that is left is put in
unfoldable pub free_turn : HintState → HintMap → Placed → ℕ → StemHint → Placed
free_turn st initial p i stem = free_by (is_active p.rest i) st initial p i stem

-- the stems in order, the first of them number i
unfoldable pub locked_turns : HintState → HintMap → Bool → ℕ → List StemHint → Placed → Placed
locked_turns st initial given i [] p = p
locked_turns st initial given i (x ∷ xs) p = locked_turns st initial given (suc i) xs
    (locked_turn st initial given p i x)

unfoldable pub free_turns : HintState → HintMap → ℕ → List StemHint → Placed → Placed
free_turns st initial i [] p = p
free_turns st initial i (x ∷ xs) p = free_turns st initial (suc i) xs (free_turn st initial p i x)
