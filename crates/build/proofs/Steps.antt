-- Each step of a build is an insertion of a single edge or of one stem's two edges, or leaves the
-- map, so that it keeps what all such insertions keep. Assumes nothing.
use mathlib.Core.Path.{◌≡◌, refl, sym}
use mathlib.Core.Bool.{Bool, true, false, ◌||◌}
use mathlib.Core.Logic.{inl, inr}
use Prim.Native.Nat.{ℕ}
use lib.ListN.{take}
use Rattle.fixed.specs.declared.Fixed.{Fixed}
use Rattle.fixed.specs.Fixed.{ZERO}
use Rattle.stems.specs.declared.edge.StemHint.{StemHint}
use Rattle.stems.specs.declared.edge.Kind.TheVariants.{GhostBottom}
use Rattle.stems.specs.declared.edge.Side.{Side}
use Rattle.stems.specs.declared.edge.Side.TheVariants.{Bottom, Top}
use Rattle.stems.specs.declared.edge.Hint.{Hint}
use Rattle.stems.specs.Mask.{is_active, cleared}
use Rattle.stems.specs.Edge.{shape_of, setup_of}
use Rattle.zones.specs.declared.state.HintState.{HintState}
use Rattle.std.specs.Prelude.{Option, Some, None}
use Rattle.zones.specs.declared.blues.BlueZone.{BlueZone}
use Rattle.zones.specs.declared.capture.Captured.{Captured}
use Rattle.zones.specs.Capture.{first_holding, lifted, captured_by, capture_of}
use Rattle.zones.proofs.Holding.{capture-keeps}
use Rattle.hintmap.specs.declared.map.HintMap.{HintMap}
use Rattle.hintmap.specs.declared.insert.Edges.{Edges}
use Rattle.hintmap.specs.declared.insert.Edges.TheVariants.{One}
use Rattle.hintmap.specs.Insert.{chosen, insert_in}
use Rattle.hintmap.specs.WholeStems.{Made, Like}
use Rattle.hintmap.proofs.Alike.{like-refl}
use Rattle.hintmap.proofs.Made.{made-ghost, made-like, made-setup}
use Rattle.build.specs.Place.{Placed}
use Rattle.build.specs.Ghosts.{ghost_at, em_bottom, em_top, em_boxed, uncovered, baseline_by, baselined}
use Rattle.build.specs.Place.{prepared_by, prepared_of, put_by, locked_by, locked_turn, free_by, free_turn}

-- ---- what is put in
like-lifted : (e : Hint) (by : Fixed) → Like e (lifted e by)
like-lifted e by =
    let k = capture-keeps e by in
    record { kind = sym k.kind; synthetic = sym k.synthetic; index = sym k.index; level = sym k.height }

module _ (st : HintState) (x : StemHint) (i : ℕ) where
  abbrev own : Side → Hint
  own b = setup_of x i st.scale b

  abbrev Likes : Captured → Type 0
  Likes c = Like (own Bottom) c.bottom × Like (own Top) c.top

  -- locked or captured, a stem's edges differ on the device only
  pub prepared-like : Likes (prepared_of st x i)
  unfolding prepared_of capture_of
  prepared-like =
      go ((own Bottom).locked || (own Top).locked)
      (held (first_holding st.blue_fuzz (own Bottom) (own Top) (take st.zone_count st.zones)))
    where
      held : (h : Option BlueZone) → Likes (captured_by h st (own Bottom) (own Top))
      held None = (like-refl _, like-refl _)
      held (Some z) = (like-lifted _ _, like-lifted _ _)

      go : (t : Bool) → Likes (capture_of st (own Bottom) (own Top)) → Likes (prepared_by t st (own Bottom) (own Top))
      go true l = (like-refl _, like-refl _)
      go false l = l

  -- so they are a single edge or one stem's two
  pub made-prepared : Made (chosen (shape_of x) (prepared_of st x i).bottom (prepared_of st x i).top)
  made-prepared = made-like x i st.scale _ _ prepared-like.0 prepared-like.1

-- the em box's ghosts and the baseline's are single edges
pub made-box-bottom : (s : Fixed) → Made (One (em_bottom s))
unfolding em_bottom
made-box-bottom s = made-ghost (em_bottom s) (inl refl)

pub made-box-top : (s : Fixed) → Made (One (em_top s))
unfolding em_top
made-box-top s = made-ghost (em_top s) (inr refl)

pub made-baseline : (s : Fixed) → Made (One (ghost_at GhostBottom ZERO ZERO s))
made-baseline s = made-ghost (ghost_at GhostBottom ZERO ZERO s) (inl refl)

-- ---- what a turn comes to
module _ (initial : HintMap) (p : Placed) (i : ℕ) (x : StemHint) (P : Placed → Type 0) (same : P p) where
  -- the first round leaves all as it is, or puts in an active stem, which is then handled
  pub locked-cases : (st : HintState) (given : Bool) →
      (is_active p.rest i ≡ true →
      P (record {
        map = insert_in p.map (chosen (shape_of x) (prepared_of st x i).bottom (prepared_of st x i).top)
            initial given;
        rest = cleared p.rest i;
      })) →
      P (locked_turn st initial given p i x)
  unfolding locked_turn
  locked-cases st given f = go (is_active p.rest i) refl
    where
      put : is_active p.rest i ≡ true → (c : Bool) → P (put_by c initial given p i (shape_of x) (prepared_of st x i))
      put e true = f e
      put e false = same

      go : (a : Bool) → is_active p.rest i ≡ a → P (locked_by a st initial given p i x)
      go true e = put e (prepared_of st x i).captured
      go false e = same

  -- the second leaves all as it is, or puts in an active stem
  pub free-cases : (st : HintState) →
      (is_active p.rest i ≡ true →
      P (record {
        map = insert_in p.map
            (chosen (shape_of x) (setup_of x i st.scale Bottom) (setup_of x i st.scale Top)) initial
            true;
        rest = p.rest;
      })) →
      P (free_turn st initial p i x)
  unfolding free_turn
  free-cases st f = go (is_active p.rest i) refl
    where
      go : (a : Bool) → is_active p.rest i ≡ a → P (free_by a st initial p i x)
      go true e = f e
      go false e = same

-- ---- what all insertions keep
abbrev pub Stable : (HintMap → Type 0) → Type 0
Stable P = (m : HintMap) (e : Edges) (initial : HintMap) (given : Bool) → Made e → P m → P (insert_in m e initial given)

module _ (P : HintMap → Type 0) (keep : Stable P) where
  -- the em box keeps it
  pub boxed-keeps : (wanted : Bool) (initial : HintMap) (given : Bool) (m : HintMap) → P m →
      P (em_boxed wanted initial given m)
  unfolding em_boxed
  boxed-keeps true initial given m h =
      keep _ _ initial given (made-box-top m.scale) (keep m _ initial given (made-box-bottom m.scale) h)
  boxed-keeps false initial given m h = h

  -- so does the baseline
  pub baselined-keeps : (m : HintMap) → P m → P (baselined m)
  unfolding baselined
  baselined-keeps m h = go (uncovered m)
    where
      go : (b : Bool) → P (baseline_by b m)
      go true = keep m _ m false (made-baseline m.scale) h
      go false = h

  -- so does a turn of either round
  pub locked-keeps : (st : HintState) (initial : HintMap) (given : Bool) (p : Placed) (i : ℕ) (x : StemHint) →
      P p.map → P (locked_turn st initial given p i x).map
  locked-keeps st initial given p i x h =
      locked-cases initial p i x (λ (q : Placed). P q.map) h st given
      (λ e. keep p.map _ initial given (made-prepared st x i) h)

  pub free-keeps : (st : HintState) (initial : HintMap) (p : Placed) (i : ℕ) (x : StemHint) → P p.map →
      P (free_turn st initial p i x).map
  free-keeps st initial p i x h =
      free-cases initial p i x (λ (q : Placed). P q.map) h st
      (λ e. keep p.map _ initial true (made-setup x i st.scale) h)
