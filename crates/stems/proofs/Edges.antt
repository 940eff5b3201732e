-- A stem's two edges: the number that both have of the stem, that neither is synthetic, and that
-- one is always there. Assumes nothing.
use mathlib.Core.Path.{◌≡◌, refl, sym, ap, ◌∙◌}
use mathlib.Core.Bool.{Bool, true, false, ◌&&◌}
use Prim.Native.Nat.{ℕ}
use Rattle.fixed.specs.declared.Fixed.{Fixed}
use Rattle.stems.specs.declared.edge.StemHint.{StemHint}
use Rattle.stems.specs.declared.edge.Side.{Side}
use Rattle.stems.specs.declared.edge.Side.TheVariants.{Bottom, Top}
use Rattle.stems.specs.declared.edge.Hint.{Hint}
use Rattle.stems.specs.declared.edge.Shape.{Shape}
use Rattle.stems.specs.declared.edge.Shape.TheVariants.{BottomGhost, TopGhost, Pair}
use Rattle.stems.specs.Edge.{valid_k, is_valid, shape_of, edge_of, used_by, setup_of}

-- what use leaves of an edge e
record Leaves (e r : Hint) : Type 0 where
  kind : r.kind ≡ e.kind
  synthetic : r.synthetic ≡ e.synthetic
  index : r.index ≡ e.index

kept : (u : Bool) (st : StemHint) (e : Hint) → Leaves e (used_by u st e)
kept true st e = record { kind = refl; synthetic = refl; index = refl }
kept false st e = record { kind = refl; synthetic = refl; index = refl }

-- an edge before its stem is used, by shape and side
module _ (i : ℕ) (s : Fixed) where
  numbered : (h : Shape) (b : Side) → (edge_of h b i s).index ≡ i
  unfolding edge_of
  numbered (BottomGhost h) Bottom = refl
  numbered (BottomGhost h) Top = refl
  numbered (TopGhost h) Bottom = refl
  numbered (TopGhost h) Top = refl
  numbered (Pair l h) Bottom = refl
  numbered (Pair l h) Top = refl

  real : (h : Shape) (b : Side) → (edge_of h b i s).synthetic ≡ false
  unfolding edge_of
  real (BottomGhost h) Bottom = refl
  real (BottomGhost h) Top = refl
  real (TopGhost h) Bottom = refl
  real (TopGhost h) Top = refl
  real (Pair l h) Bottom = refl
  real (Pair l h) Top = refl

  one : (h : Shape) → is_valid (edge_of h Bottom i s) ≡ false → is_valid (edge_of h Top i s) ≡ true
  unfolding edge_of
  one (BottomGhost h) e = sym e
  one (TopGhost h) e = refl
  one (Pair l h) e = refl

module _ (st : StemHint) (i : ℕ) (s : Fixed) where
  drawn : (b : Side) → Leaves (edge_of (shape_of st) b i s) (setup_of st i s b)
  unfolding setup_of
  drawn b = kept (st.is_used && is_valid (edge_of (shape_of st) b i s)) st (edge_of (shape_of st) b i s)

  -- an edge is of the kind that its stem's shape gives it
  pub setup-kind : (b : Side) → (setup_of st i s b).kind ≡ (edge_of (shape_of st) b i s).kind
  setup-kind b = (drawn b).kind

  -- an edge has its stem's number
  pub setup-index : (b : Side) → (setup_of st i s b).index ≡ i
  setup-index b = (drawn b).index ∙ numbered i s (shape_of st) b

  -- an edge is its stem's, and not synthetic
  pub setup-real : (b : Side) → (setup_of st i s b).synthetic ≡ false
  setup-real b = (drawn b).synthetic ∙ real i s (shape_of st) b

  -- a stem without its bottom edge has its top edge
  pub setup-one : is_valid (setup_of st i s Bottom) ≡ false → is_valid (setup_of st i s Top) ≡ true
  setup-one e = ap valid_k (setup-kind Top) ∙ one i s (shape_of st) (sym (ap valid_k (setup-kind Bottom)) ∙ e)
