-- `insert_edges` meets its contract, by the case of the outcome. Assumes nothing.
use Rattle.std.proofs.Common.{sym, ◌∙◌}
use Rattle.hintmap.proofs.Insertion.{entered-fits, dropped-is, entered-is}
use Rattle.hintmap.proofs.insert.insert_edges.Goals as goal

pub put-requires : goal.put-requires
put-requires c = (
  c.requires.whole,
  entered-fits _ _ _ c.requires c.args.e (λ s initial. sym c.in-Some.is ∙ c.decide.ensures s initial),
)

pub returns-in-Some : goal.returns-in-Some
returns-in-Some c =
    entered-is _ _ _ c.requires c.args.e _ _ _ (λ s initial. sym c.in-Some.is ∙ c.decide.ensures s initial)
    c.put.ensures

pub returns-in-None : goal.returns-in-None
returns-in-None c =
    dropped-is _ _ _ c.requires c.args.e (λ s initial. sym c.in-None.is ∙ c.decide.ensures s initial)
