-- `decide` meets its contract: each answer goes by the tests that led to it. Assumes nothing.
use Rattle.std.proofs.Common.{◌≡◌, true, List, ℕ, ℤ, ◌≤◌, sym, refl, ap, ◌∙◌}
use Rattle.stems.specs.declared.edge.Hint.{Hint}
use Rattle.stems.specs.Lists.{held}
use Rattle.hintmap.specs.declared.insert.Edges.{Edges}
use Rattle.hintmap.specs.Map.{place_among}
use Rattle.hintmap.specs.Insert.{first_edge, below_clear}
use Rattle.hintmap.specs.Lent.{Places}
use Rattle.hintmap.proofs.Decided.{Here, decided, no-below, tested, none-there, tested-before, none_before}
use Rattle.hintmap.proofs.insert.decide.Goals as goal
use Rattle.hintmap.proofs.insert.decide.Goals.{else-at-gt0-via-then-at-gt0+else-under, else-at-gt0-via-else-at-gt0}
use Rattle.hintmap.proofs.insert.decide.Goals.{then-barred-via-then-barred}
use Rattle.hintmap.proofs.insert.decide.Goals.{then-barred-via-else-barred+then-too_high}

-- the place is that of the first edge
here : {ls : List ℤ} (ts : List ℕ) {n at : ℕ} {e : Edges} {f : Hint} → n ≤ 96 → f ≡ first_edge e →
    Places ls n f.cs_coord at → Here ls ts n e at
here {ls} ts {n} l p q =
    record { fits = l; place = q ts ∙ ap (λ (f : Hint). place_among (held ls ts n) f.cs_coord) p }

pub returns-then-not-may_enter : goal.returns-then-not-may_enter
returns-then-not-may_enter c =
    decided (record { fits = c.requires.0; place = refl }) (sym c.may_enter.ensures ∙ c.if-not-may_enter.true) refl
    refl refl

pub returns-then-under : goal.returns-then-under
returns-then-under c =
    let at = c.place_of-at.ensures in
    let h = here c.args.tags.now c.requires.0 c.first.ensures at.1 in
    no-below h (sym c.may_enter.ensures ∙ c.if-not-may_enter.false)
    (tested-before h _ c.if-at-gt0.true at.0 c.edge_at.ensures c.under.ensures c.if-under.true)

pub returns-then-barred : goal.returns-then-barred
returns-then-barred c =
    let a = c.args in
    let at = c.place_of-at.ensures in
    let h = here a.tags.now {e = a.e} c.requires.0 c.first.ensures at.1 in
    let entry = sym c.may_enter.ensures ∙ c.if-not-may_enter.false in
    let below : below_clear (held a.lines.now a.tags.now a.len) c.place_of-at.result a.e ≡ true =
    elim c.else-at-gt0.branch [
      | else-at-gt0-via-then-at-gt0+else-under w ↦
          tested-before h _ w.if-at-gt0.true at.0 w.edge_at.ensures w.under.ensures w.if-under.false
      | else-at-gt0-via-else-at-gt0 w ↦ none_before h _ w.if-at-gt0.false
    ] in
    elim c.then-barred.branch [
      | then-barred-via-then-barred w ↦
          decided h entry (tested h _ c.if-at-len.true c.edge_at-x.ensures c.barred.ensures w.if-barred.true) refl refl
      | then-barred-via-else-barred+then-too_high w ↦
          decided h entry (tested h _ c.if-at-len.true c.edge_at-x.ensures c.barred.ensures w.if-barred.false) below
          (tested h _ c.if-at-len.true c.edge_at-x.ensures w.too_high.ensures w.if-too_high.true)
    ]

pub returns-else-too_high : goal.returns-else-too_high
returns-else-too_high c =
    let a = c.args in
    let at = c.place_of-at.ensures in
    let h = here a.tags.now {e = a.e} c.requires.0 c.first.ensures at.1 in
    let below : below_clear (held a.lines.now a.tags.now a.len) c.place_of-at.result a.e ≡ true =
    elim c.else-at-gt0.branch [
      | else-at-gt0-via-then-at-gt0+else-under w ↦
          tested-before h _ w.if-at-gt0.true at.0 w.edge_at.ensures w.under.ensures w.if-under.false
      | else-at-gt0-via-else-at-gt0 w ↦ none_before h _ w.if-at-gt0.false
    ] in
    decided h (sym c.may_enter.ensures ∙ c.if-not-may_enter.false)
    (tested h _ c.if-at-len.true c.edge_at-x.ensures c.barred.ensures c.if-barred.false) below
    (tested h _ c.if-at-len.true c.edge_at-x.ensures c.too_high.ensures c.if-too_high.false)

pub returns-else-at-len : goal.returns-else-at-len
returns-else-at-len c =
    let a = c.args in
    let at = c.place_of-at.ensures in
    let h = here a.tags.now {e = a.e} c.requires.0 c.first.ensures at.1 in
    let below : below_clear (held a.lines.now a.tags.now a.len) c.place_of-at.result a.e ≡ true =
    elim c.else-at-gt0.branch [
      | else-at-gt0-via-then-at-gt0+else-under w ↦
          tested-before h _ w.if-at-gt0.true at.0 w.edge_at.ensures w.under.ensures w.if-under.false
      | else-at-gt0-via-else-at-gt0 w ↦ none_before h _ w.if-at-gt0.false
    ] in
    decided h (sym c.may_enter.ensures ∙ c.if-not-may_enter.false) (none-there h _ c.if-at-len.false) below
    (none-there h _ c.if-at-len.false)
