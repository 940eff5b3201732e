-- Any two outcomes that meet the contract of a public function are equal, over that contract as the
-- toolchain reads it: the result, and the zones that a list holds. Assumes nothing.
use mathlib.Core.Path.{◌≡◌, sym, ◌∙◌}
use mathlib.Core.Bool.{Bool}
use borrow.Fn.Kinds.{ended_of}
use borrow.Fn.World.{ArgsD, ResD}
use contract.Lifetimes.{Lfts}
use denote.Triple.Clauses.{AtExit}
use Rattle.fixed.specs.declared.Fixed.{Fixed}
use Rattle.stems.specs.declared.edge.Hint.{Hint}
use Rattle.zones.specs.declared.state.HintParams.{HintParams}
use Rattle.zones.specs.declared.state.HintState.{HintState}
use Rattle.zones.specs.declared.state.Gauge.{Gauge}
use Rattle.zones.specs.declared.capture.Captured.{Captured}
use Rattle.zones.proofs.state.HintParams.counts_fit.Reads as counts-fit-reads
use Rattle.zones.proofs.state.HintState.new.Reads as new-reads
use Rattle.zones.specs.Numbers.{zones_in}
use Rattle.zones.proofs.state.HintState.capture.Reads as capture-reads
use Rattle.zones.specs.contracts.state.Gauge.capture_by as capture-by
use Rattle.zones.proofs.state.Gauge.capture_by.Kinds as capture-by-kinds
use Rattle.zones.proofs.state.Gauge.capture_by.Reads as capture-by-reads
use Rattle.zones.proofs.state.HintState.gauge.Reads as gauge-reads
use Rattle.zones.specs.contracts.state.HintState.list as list
use Rattle.zones.proofs.state.HintState.list.Kinds as list-kinds
use Rattle.zones.proofs.state.HintState.list.Reads as list-reads

pub counts-fit-unique : (κs : Lfts 0) (p : HintParams) (r r' : Bool) → counts-fit-reads.Post κs (p, tt) r (p, tt) →
    counts-fit-reads.Post κs (p, tt) r' (p, tt) → r ≡ r'
counts-fit-unique κs p r r' x y = x ∙ sym y

pub new-unique : (κs : Lfts 0) (p : HintParams) (s : Fixed) (r r' : HintState) →
    new-reads.Post κs (p, (s, tt)) r (p, (s, tt)) → new-reads.Post κs (p, (s, tt)) r' (p, (s, tt)) → r ≡ r'
new-unique κs p s r r' x y = x ∙ sym y

pub capture-unique : (κs : Lfts 0) (st : HintState) (b t : Hint) (r r' : Captured) →
    capture-reads.Post κs (st, (b, (t, tt))) r (st, (b, (t, tt))) →
    capture-reads.Post κs (st, (b, (t, tt))) r' (st, (b, (t, tt))) → r ≡ r'
capture-unique κs st b t r r' x y = x ∙ sym y

pub gauge-unique : (κs : Lfts 0) (st : HintState) (r r' : Gauge) → gauge-reads.Post κs (st, tt) r (st, tt) →
    gauge-reads.Post κs (st, tt) r' (st, tt) → r ≡ r'
gauge-unique κs st r r' x y = x ∙ sym y

module _ (κs : Lfts 1) (a : ArgsD capture-by.signature κs) (r r' : ResD capture-by.signature κs)
    (x x' : AtExit (ended_of 1 capture-by-kinds.ps capture-by-kinds.r) κs) where
  pub capture-by-unique : capture-by-reads.Post κs a r x → capture-by-reads.Post κs a r' x' → r ≡ r'
  capture-by-unique p q = p ∙ sym q

module _ (κs : Lfts 1) (a : ArgsD list.signature κs) (r r' : ResD list.signature κs)
    (x x' : AtExit (ended_of 1 list-kinds.ps list-kinds.r) κs) where
  pub list-unique : list-reads.Post κs a r x → list-reads.Post κs a r' x' →
      zones_in x.1.0.now ≡ zones_in x'.1.0.now
  list-unique p q = p ∙ sym q
