-- `put_em_box` meets its contract, by those of its calls: its ghosts are locked. Assumes nothing.
use Rattle.std.proofs.Common.{◌≡◌, Bool, true, false, refl, ap, ◌∙◌}
use Rattle.fixed.specs.declared.Fixed.{Fixed}
use Rattle.stems.specs.declared.edge.Hint.{Hint}
use Rattle.hintmap.specs.declared.map.HintMap.{HintMap}
use Rattle.hintmap.specs.declared.insert.Edges.TheVariants.{One}
use Rattle.hintmap.specs.Map.{new_map}
use Rattle.hintmap.specs.Insert.{insert_in}
use Rattle.hintmap.specs.Lent.{map_in}
use Rattle.hintmap.proofs.Lent.{none_lent}
use Rattle.hintmap.proofs.Placed.{insert-locked}
use Rattle.build.specs.Ghosts.{em_bottom, em_top, em_boxed}
use Rattle.build.proofs.ghosts.put_em_box.Goals as goal

-- the two ghosts inserted one after the other are the box, whatever initial map is given
boxed : (s : Fixed) (initial : HintMap) (given : Bool) (one two : HintMap) (b t : Hint) → b ≡ em_bottom s →
    t ≡ em_top s →
    one ≡ insert_in (new_map s) (One b) initial false → two ≡ insert_in one (One t) initial false →
    two ≡ em_boxed true initial given (new_map s)
unfolding em_boxed em_bottom em_top
boxed s initial given one two b t p q r w =
    w ∙ rw (r, p, q)
    (insert-locked (insert_in (new_map s) (One (em_bottom s)) initial false) (One (em_top s)) initial initial given
    refl ∙
    ap (λ (m : HintMap). insert_in m (One (em_top s)) initial given)
    (insert-locked (new_map s) (One (em_bottom s)) initial initial given refl))

pub returns-then-wanted : goal.returns-then-wanted
unfolding map_in
returns-then-wanted c =
    let s = c.args.scale in
    record {
      lent = c.insert_edges.ensures.lent;
      map = λ initial given.
          rw c.if-wanted.true
          (boxed s initial given _ _ c.em_bottom.result c.em_top.result c.em_bottom.ensures c.em_top.ensures
          (c.insert_edges-one.ensures.map s initial) (c.insert_edges.ensures.map s initial));
    }

pub returns-else-wanted : goal.returns-else-wanted
unfolding map_in em_boxed
returns-else-wanted c = record { lent = none_lent _ _ c.requires; map = λ initial given. rw c.if-wanted.false }
