-- `marked` meets its contract, by the kind of the command. Assumes nothing.
use Rattle.std.proofs.Common.{rules, ◌≡◌, refl, sym, ap, subst, ℕ, List, ℤ, length}
use Rattle.stems.specs.declared.mask.HintMask.{HintMask}
use Rattle.zones.specs.declared.state.HintState.{HintState}
use Rattle.zones.specs.Numbers.{state_in}
use Rattle.hints.specs.declared.hints.Hints.{Hints}
use Rattle.hints.specs.Hints.{with_mask, countered}
use Rattle.hints.specs.Calls.{hints_of}
use Rattle.commands.specs.declared.reading.Marking.{Marking}
use Rattle.run.specs.declared.kept.Sizes.{Sizes}
use Rattle.run.specs.Run.{mark_call}
use Rattle.run.specs.Kept.{Kept}
use Rattle.run.proofs.Clearing.{cleared-kept}
use Rattle.run.proofs.marks.marked.Goals as goal

module _ (st : HintState) (h : Hints) (z : Sizes) (bs : List ℕ) (ns is ms : List ℤ) where
  -- what a command of a kind leaves, it leaves
  told : (s : List ℕ) (from : ℕ) {x m : Marking} → x ≡ m → Kept st (hints_of st h (mark_call s from m)) z bs ns is ms →
      Kept st (hints_of st h (mark_call s from x)) z bs ns is ms
  told s from e k = subst (λ (y : Marking). Kept st (hints_of st h (mark_call s from y)) z bs ns is ms) (sym e) k

  -- a mask is what it equals
  masked-as : {x y : HintMask} → x ≡ y → Kept st (with_mask x h) z bs ns is ms → Kept st (with_mask y h) z bs ns is ms
  masked-as e k = subst (λ (m : HintMask). Kept st (with_mask m h) z bs ns is ms) e k

  countered-as : {x y : HintMask} → x ≡ y → Kept st (countered st x h) z bs ns is ms →
      Kept st (countered st y h) z bs ns is ms
  countered-as e k = subst (λ (m : HintMask). Kept st (countered st m h) z bs ns is ms) e k

pub returns-in-Stem : goal.returns-in-Stem
returns-in-Stem c =
    let a = c.args in
    let st = state_in a.gauge a.zones.now in
    let k = c.with_stem.ensures in (
      record {
        whole = record { all = search rules; named = search rules };
        long = k.long;
        twelve = search rules;
        kept = λ h ms q. told st h _ _ _ _ ms _ _ c.in-Stem.is (k.kept st h _ _ ms q);
      },
      (refl, search rules),
    )

pub returns-in-Mask : goal.returns-in-Mask
returns-in-Mask c =
    let a = c.args in
    let st = state_in a.gauge a.zones.now in
    let k = c.with_mask.ensures in (
      record {
        whole = record { all = search rules; named = search rules };
        long = search rules;
        twelve = k.twelve;
        kept = λ h ms q. told st h _ _ _ _ ms _ _ c.in-Mask.is
            (masked-as st h _ _ _ _ ms c.mask_at.ensures (k.kept st h _ _ ms q));
      },
      (refl, search rules),
    )

pub returns-in-Counter : goal.returns-in-Counter
returns-in-Counter c =
    let a = c.args in
    let st = state_in a.gauge a.zones.now in
    let k = c.counter.ensures in (
      record {
        whole = k.0.build.whole;
        long = k.0.build.long;
        twelve = search rules;
        kept = λ h ms q. told st h _ _ _ _ ms _ _ c.in-Counter.is
            (countered-as st h _ _ _ _ ms c.mask_at-given.ensures (k.0.kept h _ ms q));
      },
      k.1,
    )

pub returns-in-Clear : goal.returns-in-Clear
returns-in-Clear c =
    let a = c.args in
    let st = state_in a.gauge a.zones.now in
    let e = c.mask_to_all.ensures in (
      record {
        whole = record { all = search rules; named = search rules };
        long = search rules;
        twelve = ap length e;
        kept = λ h ms q. told st h _ _ _ _ ms _ _ c.in-Clear.is (rw c.none.ensures (cleared-kept st _ _ ms e));
      },
      (refl, search rules),
    )
