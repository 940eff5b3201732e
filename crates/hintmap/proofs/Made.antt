-- What a stem gives to put in is one single edge or the two of one stem. Assumes nothing.
use mathlib.Core.Path.{◌≡◌, sym, ap, ◌∙◌}
use mathlib.Core.Bool.{false}
use mathlib.Core.Logic.{◌⊎◌, ⊎_elim}
use Prim.Native.Nat.{ℕ}
use Rattle.fixed.specs.declared.Fixed.{Fixed}
use Rattle.stems.specs.declared.edge.StemHint.{StemHint}
use Rattle.stems.specs.declared.edge.Kind.TheVariants.{GhostBottom, GhostTop}
use Rattle.stems.specs.declared.edge.Side.TheVariants.{Bottom, Top}
use Rattle.stems.specs.declared.edge.Hint.{Hint}
use Rattle.stems.specs.declared.edge.Shape.{Shape}
use Rattle.stems.specs.declared.edge.Shape.TheVariants.{BottomGhost, TopGhost, Pair}
use Rattle.stems.specs.Edge.{valid_k, pair_k, shape_of, edge_of, setup_of}
use Rattle.stems.proofs.Edges.{setup-kind, setup-index, setup-real}
use Rattle.hintmap.specs.declared.insert.Edges.{Edges}
use Rattle.hintmap.specs.declared.insert.Edges.TheVariants.{One, Two}
use Rattle.hintmap.specs.Insert.{chosen, Valid}
use Rattle.hintmap.specs.WholeStems.{Made, Like}
use Rattle.hintmap.proofs.Alike.{like-refl}

-- a ghost by itself is made
pub made-ghost : (e : Hint) → (e.kind ≡ GhostBottom) ⊎ (e.kind ≡ GhostTop) → Made (One e)
unfolding Made
made-ghost e k = record { present = ⊎_elim (ap valid_k) (ap valid_k) k; single = ⊎_elim (ap pair_k) (ap pair_k) k }

-- what is made is there
pub made-valid : (e : Edges) → Made e → Valid e
unfolding Made Valid
made-valid (One e) s = s.present
made-valid (Two b t) p = (ap valid_k p.bottom, ap valid_k p.top)

-- two edges of one stem, of the kinds that a shape has
by_shape : (h : Shape) (i : ℕ) (s : Fixed) (b t : Hint) → b.kind ≡ (edge_of h Bottom i s).kind →
    t.kind ≡ (edge_of h Top i s).kind → b.index ≡ t.index → b.synthetic ≡ false → t.synthetic ≡ false →
    Made (chosen h b t)
unfolding edge_of Made chosen
by_shape (BottomGhost h) i s b t p q o f g = record { present = ap valid_k p; single = ap pair_k p }
by_shape (TopGhost h) i s b t p q o f g = record { present = ap valid_k q; single = ap pair_k q }
by_shape (Pair l h) i s b t p q o f g = record { bottom = p; top = q; own = o; bottom_real = f; top_real = g }

module _ (st : StemHint) (i : ℕ) (s : Fixed) where
  -- two edges that differ from those of a stem on the device only are made
  pub made-like : (b t : Hint) → Like (setup_of st i s Bottom) b → Like (setup_of st i s Top) t →
      Made (chosen (shape_of st) b t)
  made-like b t p q =
      by_shape (shape_of st) i s b t (sym p.kind ∙ setup-kind st i s Bottom) (sym q.kind ∙ setup-kind st i s Top)
      (sym p.index ∙ setup-index st i s Bottom ∙ sym (setup-index st i s Top) ∙ q.index)
      (sym p.synthetic ∙ setup-real st i s Bottom) (sym q.synthetic ∙ setup-real st i s Top)

  -- so are those of the stem
  pub made-setup : Made (chosen (shape_of st) (setup_of st i s Bottom) (setup_of st i s Top))
  made-setup = made-like _ _ (like-refl _) (like-refl _)
