-- Any two outcomes that meet the contract of a public function are equal, over that contract as the
-- toolchain reads it: the result, and what was lent, or the stems that a list holds. Assumes nothing.
use mathlib.Core.Path.{◌≡◌, sym, ◌∙◌}
use mathlib.Core.Bool.{Bool}
use Prim.Native.Nat.{ℕ}
use borrow.Fn.Kinds.{ended_of}
use borrow.Fn.World.{ArgsD, ResD}
use contract.Lifetimes.{Lfts}
use denote.Triple.Clauses.{AtExit}
use Rattle.fixed.specs.declared.Fixed.{Fixed}
use Rattle.stems.specs.declared.edge.StemHint.{StemHint}
use Rattle.stems.specs.declared.edge.Side.{Side}
use Rattle.stems.specs.declared.edge.Shape.{Shape}
use Rattle.stems.specs.declared.edge.Hint.{Hint}
use Rattle.stems.specs.declared.mask.HintMask.{HintMask}
use Rattle.stems.specs.Mask.{of_bytes}
use Rattle.stems.specs.Lists.{stems_in}
use Rattle.stems.proofs.lists.mark_if.Reads as mark-if-reads
use Rattle.stems.proofs.edge.StemHint.shape.Reads as shape-reads
use Rattle.stems.proofs.edge.Hint.none.Reads as none_reads
use Rattle.stems.proofs.edge.Hint.setup.Reads as setup-reads
use Rattle.stems.proofs.edge.Hint.is_valid.Reads as is-valid-reads
use Rattle.stems.proofs.edge.Hint.is_bottom.Reads as is-bottom-reads
use Rattle.stems.proofs.edge.Hint.is_top.Reads as is-top-reads
use Rattle.stems.proofs.edge.Hint.is_pair.Reads as is-pair-reads
use Rattle.stems.proofs.edge.Hint.is_pair_top.Reads as is-pair-top-reads
use Rattle.stems.proofs.edge.Hint.is_locked.Reads as is-locked-reads
use Rattle.stems.proofs.edge.Hint.is_synthetic.Reads as is-synthetic-reads
use Rattle.stems.proofs.edge.Hint.at_device.Reads as at-device-reads
use Rattle.stems.proofs.edge.Hint.locked_at.Reads as locked-at-reads
use Rattle.stems.proofs.mask.HintMask.all.Reads as all-reads
use Rattle.stems.specs.contracts.mask.HintMask.new as new
use Rattle.stems.proofs.mask.HintMask.new.Reads as new-reads
use Rattle.stems.proofs.mask.HintMask.new.Kinds as new-kinds
use Rattle.stems.proofs.mask.HintMask.get.Reads as get-reads
use Rattle.stems.proofs.mask.HintMask.clear.Reads as clear_reads
use Rattle.stems.proofs.mask.HintMask.same.Reads as same_Reads
use Rattle.stems.specs.contracts.edge.Stems.list as list
use Rattle.stems.proofs.edge.Stems.list.Kinds as list-kinds
use Rattle.stems.proofs.edge.Stems.list.Reads as list-reads
use Rattle.stems.specs.contracts.edge.Stems.from_list as from_list
use Rattle.stems.proofs.edge.Stems.from_list.Kinds as from-list-kinds
use Rattle.stems.proofs.edge.Stems.from_list.Reads as from-list-reads
use Rattle.stems.specs.contracts.lists.height_at as height-at
use Rattle.stems.proofs.lists.height_at.Kinds as height-at-kinds
use Rattle.stems.proofs.lists.height_at.Reads as height-at-reads
use Rattle.stems.specs.contracts.lists.device_at as device-at
use Rattle.stems.proofs.lists.device_at.Kinds as device-at-kinds
use Rattle.stems.proofs.lists.device_at.Reads as device-at-reads
use Rattle.stems.specs.contracts.lists.scale_at as scale_at
use Rattle.stems.proofs.lists.scale_at.Kinds as scale-at-kinds
use Rattle.stems.proofs.lists.scale_at.Reads as scale-at-reads
use Rattle.stems.specs.contracts.lists.edge_at as edge_at
use Rattle.stems.proofs.lists.edge_at.Kinds as edge-at-kinds
use Rattle.stems.proofs.lists.edge_at.Reads as edge-at-reads
use Rattle.stems.proofs.lists.number_at.Reads as number-at-reads
use mir.Syntax.{w64}
use mir.Val.{Fits}
use Rattle.stems.proofs.lists.put_number.Reads as put-number-reads
use Rattle.stems.specs.contracts.lists.put_line as put-line
use Rattle.stems.proofs.lists.put_line.Kinds as put-line-kinds
use Rattle.stems.proofs.lists.put_line.Reads as put-line-reads
use Rattle.stems.specs.contracts.lists.put_edge as put-edge
use Rattle.stems.proofs.lists.put_edge.Kinds as put-edge-kinds
use Rattle.stems.proofs.lists.put_edge.Reads as put-edge-reads
use Rattle.stems.specs.contracts.lists.copy_edge as copy-edge
use Rattle.stems.proofs.lists.copy_edge.Kinds as copy-edge-kinds
use Rattle.stems.proofs.lists.copy_edge.Reads as copy-edge-reads
use Rattle.stems.specs.contracts.lists.stem_at as stem-at
use Rattle.stems.proofs.lists.stem_at.Kinds as stem-at-kinds
use Rattle.stems.proofs.lists.stem_at.Reads as stem-at-reads
use Rattle.stems.specs.contracts.lists.put_stem as put-stem
use Rattle.stems.proofs.lists.put_stem.Kinds as put-stem-kinds
use Rattle.stems.proofs.lists.put_stem.Reads as put-stem-reads
use Rattle.stems.specs.contracts.mask.is_active as is-active
use Rattle.stems.proofs.mask.is_active.Kinds as is-active-kinds
use Rattle.stems.proofs.mask.is_active.Reads as is-active-reads
use Rattle.stems.specs.contracts.mask.clear_active as clear-active
use Rattle.stems.proofs.mask.clear_active.Kinds as clear-active-kinds
use Rattle.stems.proofs.mask.clear_active.Reads as clear-active-reads
use Rattle.stems.specs.contracts.mask.take_first as take-first
use Rattle.stems.proofs.mask.take_first.Kinds as take-first-kinds
use Rattle.stems.proofs.mask.take_first.Reads as take-first-reads

pub shape-unique : (κs : Lfts 0) (r r' : Shape) (st : StemHint) → shape-reads.Post κs (st, tt) r (st, tt) →
    shape-reads.Post κs (st, tt) r' (st, tt) → r ≡ r'
shape-unique κs r r' st p q = p ∙ sym q

module _ (κs : Lfts 0) (r r' : Hint) where
  pub none-unique : none_reads.Post κs tt r tt → none_reads.Post κs tt r' tt → r ≡ r'
  none-unique p q = p ∙ sym q

  pub setup-unique : (st : StemHint) (i : ℕ) (s : Fixed) (b : Side) →
      setup-reads.Post κs (st, (i, (s, (b, tt)))) r (st, (i, (s, (b, tt)))) →
      setup-reads.Post κs (st, (i, (s, (b, tt)))) r' (st, (i, (s, (b, tt)))) → r ≡ r'
  setup-unique st i s b p q = p ∙ sym q

  module _ (e : Hint) (h : Fixed) where
    pub at-device-unique : at-device-reads.Post κs (e, (h, tt)) r (e, (h, tt)) →
        at-device-reads.Post κs (e, (h, tt)) r' (e, (h, tt)) → r ≡ r'
    at-device-unique p q = p ∙ sym q

    pub locked-at-unique : locked-at-reads.Post κs (e, (h, tt)) r (e, (h, tt)) →
        locked-at-reads.Post κs (e, (h, tt)) r' (e, (h, tt)) → r ≡ r'
    locked-at-unique p q = p ∙ sym q

module _ (κs : Lfts 0) (e : Hint) (r r' : Bool) where
  pub is-valid-unique : is-valid-reads.Post κs (e, tt) r (e, tt) → is-valid-reads.Post κs (e, tt) r' (e, tt) → r ≡ r'
  is-valid-unique p q = p ∙ sym q

  pub is-bottom-unique : is-bottom-reads.Post κs (e, tt) r (e, tt) → is-bottom-reads.Post κs (e, tt) r' (e, tt) → r ≡ r'
  is-bottom-unique p q = p ∙ sym q

  pub is-top-unique : is-top-reads.Post κs (e, tt) r (e, tt) → is-top-reads.Post κs (e, tt) r' (e, tt) → r ≡ r'
  is-top-unique p q = p ∙ sym q

  pub is-pair-unique : is-pair-reads.Post κs (e, tt) r (e, tt) → is-pair-reads.Post κs (e, tt) r' (e, tt) → r ≡ r'
  is-pair-unique p q = p ∙ sym q

  pub is-pair-top-unique : is-pair-top-reads.Post κs (e, tt) r (e, tt) → is-pair-top-reads.Post κs (e, tt) r' (e, tt) →
      r ≡ r'
  is-pair-top-unique p q = p ∙ sym q

  pub is-locked-unique : is-locked-reads.Post κs (e, tt) r (e, tt) → is-locked-reads.Post κs (e, tt) r' (e, tt) → r ≡ r'
  is-locked-unique p q = p ∙ sym q

  pub is-synthetic-unique : is-synthetic-reads.Post κs (e, tt) r (e, tt) →
      is-synthetic-reads.Post κs (e, tt) r' (e, tt) → r ≡ r'
  is-synthetic-unique p q = p ∙ sym q

module _ (κs : Lfts 0) (r r' : HintMask) where
  pub all-unique : all-reads.Post κs tt r tt → all-reads.Post κs tt r' tt → r ≡ r'
  all-unique p q = p ∙ sym q

  pub clear-unique : (m : HintMask) (i : ℕ) → clear_reads.Post κs (m, (i, tt)) r (m, (i, tt)) →
      clear_reads.Post κs (m, (i, tt)) r' (m, (i, tt)) → r ≡ r'
  clear-unique m i p q = p ∙ sym q

module _ (κs : Lfts 0) (m : HintMask) (r r' : Bool) where
  pub get-unique : (i : ℕ) → get-reads.Post κs (m, (i, tt)) r (m, (i, tt)) →
      get-reads.Post κs (m, (i, tt)) r' (m, (i, tt)) → r ≡ r'
  get-unique i p q = p ∙ sym q

  pub same-unique : (n : HintMask) → same_Reads.Post κs (m, (n, tt)) r (m, (n, tt)) →
      same_Reads.Post κs (m, (n, tt)) r' (m, (n, tt)) → r ≡ r'
  same-unique n p q = p ∙ sym q

module _ (κs : Lfts 1) (a : ArgsD new.signature κs) (r r' : ResD new.signature κs)
    (x x' : AtExit (ended_of 1 new-kinds.ps new-kinds.r) κs) where
  pub new-unique : new-reads.Post κs a r x → new-reads.Post κs a r' x' → r ≡ r'
  new-unique p q = p ∙ sym q

-- ---- what lists hold
pub number-at-unique : (n : ℕ) (f : Fits w64 n) (κs : Lfts 2) (a : _) (r r' : _) (x x' : _) →
    number-at-reads.Post n f κs a r x → number-at-reads.Post n f κs a r' x' → r ≡ r'
number-at-unique n f κs a r r' x x' p q = p ∙ sym q

module _ (κs : Lfts 1) (a : ArgsD height-at.signature κs) (r r' : ResD height-at.signature κs)
    (x x' : AtExit (ended_of 1 height-at-kinds.ps height-at-kinds.r) κs) where
  pub height-at-unique : height-at-reads.Post κs a r x → height-at-reads.Post κs a r' x' →
      r ≡ r'
  height-at-unique p q = p ∙ sym q

module _ (κs : Lfts 1) (a : ArgsD device-at.signature κs) (r r' : ResD device-at.signature κs)
    (x x' : AtExit (ended_of 1 device-at-kinds.ps device-at-kinds.r) κs) where
  pub device-at-unique : device-at-reads.Post κs a r x → device-at-reads.Post κs a r' x' →
      r ≡ r'
  device-at-unique p q = p ∙ sym q

module _ (κs : Lfts 1) (a : ArgsD scale_at.signature κs) (r r' : ResD scale_at.signature κs)
    (x x' : AtExit (ended_of 1 scale-at-kinds.ps scale-at-kinds.r) κs) where
  pub scale-at-unique : scale-at-reads.Post κs a r x → scale-at-reads.Post κs a r' x' →
      r ≡ r'
  scale-at-unique p q = p ∙ sym q

module _ (κs : Lfts 2) (a : ArgsD edge_at.signature κs) (r r' : ResD edge_at.signature κs)
    (x x' : AtExit (ended_of 2 edge-at-kinds.ps edge-at-kinds.r) κs) where
  pub edge-at-unique : edge-at-reads.Post κs a r x → edge-at-reads.Post κs a r' x' →
      r ≡ r'
  edge-at-unique p q = p ∙ sym q

module _ (κs : Lfts 1) (a : ArgsD stem-at.signature κs) (r r' : ResD stem-at.signature κs)
    (x x' : AtExit (ended_of 1 stem-at-kinds.ps stem-at-kinds.r) κs) where
  pub stem-at-unique : stem-at-reads.Post κs a r x → stem-at-reads.Post κs a r' x' →
      r ≡ r'
  stem-at-unique p q = p ∙ sym q

module _ (κs : Lfts 1) (a : ArgsD from_list.signature κs) (r r' : ResD from_list.signature κs)
    (x x' : AtExit (ended_of 1 from-list-kinds.ps from-list-kinds.r) κs) where
  pub from-list-unique : from-list-reads.Post κs a r x → from-list-reads.Post κs a r' x' →
      r ≡ r'
  from-list-unique p q = p ∙ sym q

module _ (κs : Lfts 1) (a : ArgsD is-active.signature κs) (r r' : ResD is-active.signature κs)
    (x x' : AtExit (ended_of 1 is-active-kinds.ps is-active-kinds.r) κs) where
  pub is-active-unique : is-active-reads.Post κs a r x → is-active-reads.Post κs a r' x' →
      r ≡ r'
  is-active-unique p q = p ∙ sym q

-- ---- what lists are left as
pub put-number-unique : (n : ℕ) (f : Fits w64 n) (κs : Lfts 2) (a : _) (r r' : _) (x x' : _) →
    put-number-reads.Post n f κs a r x → put-number-reads.Post n f κs a r' x' → x.0.now ≡ x'.0.now
put-number-unique n f κs a r r' x x' p q = p ∙ sym q

module _ (κs : Lfts 1) (a : ArgsD put-line.signature κs) (r r' : ResD put-line.signature κs)
    (x x' : AtExit (ended_of 1 put-line-kinds.ps put-line-kinds.r) κs) where
  pub put-line-unique : put-line-reads.Post κs a r x → put-line-reads.Post κs a r' x' →
      x.0.now ≡ x'.0.now
  put-line-unique p q = p ∙ sym q

module _ (κs : Lfts 2) (a : ArgsD put-edge.signature κs) (r r' : ResD put-edge.signature κs)
    (x x' : AtExit (ended_of 2 put-edge-kinds.ps put-edge-kinds.r) κs) where
  pub put-edge-unique : put-edge-reads.Post κs a r x → put-edge-reads.Post κs a r' x' →
      (x.0.now ≡ x'.0.now) × (x.1.0.now ≡ x'.1.0.now)
  put-edge-unique p q = (p.lines ∙ sym q.lines, p.tags ∙ sym q.tags)

module _ (κs : Lfts 2) (a : ArgsD copy-edge.signature κs) (r r' : ResD copy-edge.signature κs)
    (x x' : AtExit (ended_of 2 copy-edge-kinds.ps copy-edge-kinds.r) κs) where
  pub copy-edge-unique : copy-edge-reads.Post κs a r x → copy-edge-reads.Post κs a r' x' →
      (x.0.now ≡ x'.0.now) × (x.1.0.now ≡ x'.1.0.now)
  copy-edge-unique p q = (p.lines ∙ sym q.lines, p.tags ∙ sym q.tags)

module _ (κs : Lfts 1) (a : ArgsD put-stem.signature κs) (r r' : ResD put-stem.signature κs)
    (x x' : AtExit (ended_of 1 put-stem-kinds.ps put-stem-kinds.r) κs) where
  pub put-stem-unique : put-stem-reads.Post κs a r x → put-stem-reads.Post κs a r' x' →
      x.0.now ≡ x'.0.now
  put-stem-unique p q = p ∙ sym q

-- the mask that the bytes are
module _ (κs : Lfts 1) (a : ArgsD clear-active.signature κs) (r r' : ResD clear-active.signature κs)
    (x x' : AtExit (ended_of 1 clear-active-kinds.ps clear-active-kinds.r) κs) where
  pub clear-active-unique : clear-active-reads.Post κs a r x → clear-active-reads.Post κs a r' x' →
      of_bytes x.0.now ≡ of_bytes x'.0.now
  clear-active-unique p q = p ∙ sym q

module _ (κs : Lfts 1) (a : ArgsD take-first.signature κs) (r r' : ResD take-first.signature κs)
    (x x' : AtExit (ended_of 1 take-first-kinds.ps take-first-kinds.r) κs) where
  pub take-first-unique : take-first-reads.Post κs a r x → take-first-reads.Post κs a r' x' →
      (r ≡ r') × (of_bytes x.0.now ≡ of_bytes x'.0.now)
  take-first-unique p q = (p.stem ∙ sym q.stem, p.mask ∙ sym q.mask)

-- every stem that the list holds
module _ (κs : Lfts 1) (a : ArgsD list.signature κs) (r r' : ResD list.signature κs)
    (x x' : AtExit (ended_of 1 list-kinds.ps list-kinds.r) κs) where
  pub list-unique : list-reads.Post κs a r x → list-reads.Post κs a r' x' →
      stems_in x.1.0.now a.0.count ≡ stems_in x'.1.0.now a.0.count
  list-unique p q = p.stems ∙ sym q.stems

pub mark-if-unique : (κs : Lfts 0) (is : Bool) (r r' : Fixed) → mark-if-reads.Post κs (is, tt) r (is, tt) →
    mark-if-reads.Post κs (is, tt) r' (is, tt) → r ≡ r'
mark-if-unique κs is r r' p q = p ∙ sym q
