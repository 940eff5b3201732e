-- `write_asked` gives the writer what the input asks for. Assumes nothing.
use Rattle.std.proofs.Common.{arith, rules, ◌≡◌, refl, sym, ap, subst, ℕ, ◌+◌, ◌-◌, ◌*◌, take, drop}
use lib.Seq.{length-take-le}
use Rattle.writer.specs.ToWrite.{Given}
use Rattle.writer.specs.Refusals.{write_of, Wrote}
use Rattle.assemble.proofs.Reading.{given-asked}
use Rattle.assemble.proofs.asked.write_asked.Goals as goal

pub slice_bounds-write_script-end : goal.slice_bounds-write_script-end
slice_bounds-write_script-end c = sym (length-take-le _ _ (search rules))

pub returns : goal.returns
returns c =
    let a = c.args in
    let at = 4 * (67 + a.commands) in
    let e : at + a.masks - at ≡ a.masks = omega arith in
    subst (λ (g : Given). Wrote (write_of g a.script.now) c.write_script.result c.write_script.new.script)
    (given-asked a.input.now a.commands a.masks c.number.ensures c.params_from.ensures c.read_words.ensures
    c.read_words-2.ensures c.requires.1.0 refl (ap (λ (m : ℕ). take m (drop at a.input.now)) e))
    c.write_script.ensures
