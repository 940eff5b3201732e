-- `write_script` gives the first refusal, or writes the script where there is none. Assumes nothing.
use Rattle.std.proofs.Common.{rules, arith, ◌≡◌, sym, ap, ◌∙◌, ℕ, ◌<◌, ◌≤◌, Bool, false, cond, length, ltb, Ok, Err}
use borrow.Author.Tests.{ltb-false}
use Rattle.fixed.proofs.Tests.{both_false}
use Rattle.words.specs.Rows.{first_or}
use Rattle.writer.specs.Refusals.{WriteAnswer, write_number, room_row, write_answer}
use Rattle.writer.specs.ToWrite.{Given, given, script_for}
use Rattle.writer.specs.declared.write_answer.WriteRefusal.TheVariants.{ScriptRoom}
use Rattle.writer.proofs.Sizes.{counted, script-length}
use Rattle.writer.proofs.PieceFaults.{err-number}
use Rattle.writer.proofs.Answering.{before, before-fine, fine-pieces, fine-params, refused-before, by-room}
use Rattle.writer.proofs.Answering.{wrote_nothing, wrote-script}
use Rattle.writer.proofs.writing.write_script.Goals as goal

-- where the tests before the room give a number of bytes, none of them holds
fine : (g : Given) {r : WriteAnswer} {n : ℕ} → r ≡ first_or (Ok 0) (before g) → r ≡ Ok n →
    first_or (Ok 0) (before g) ≡ Ok 0
fine g e o = before-fine g (ap write_number (sym e ∙ o))

-- what is tested of the room is the size's test
decided : (g : Given) (room : ℕ) {size : ℕ} {b : Bool} → size ≡ length (script_for g) →
    b ≡ (room_row size room).fault → (room_row (length (script_for g)) room).fault ≡ b
decided g room e t = ap (λ (n : ℕ). (room_row n room).fault) (sym e) ∙ sym t

-- a script that is not refused fits
fits : (n room : ℕ) → (room_row n room).fault ≡ false → (n ≤ room) × (n ≤ 65536)
fits n room t =
    let b = both_false (ltb room n) (ltb 65536 n) t in
    (ltb-false room n b.0, ltb-false 65536 n b.1)

pub returns-in_err-check_given : goal.returns-in_err-check_given
returns-in_err-check_given c =
    let a = c.args in
    let g = given a.scale a.params a.commands.now a.masks.now in
    let same : c.from_residual.result ≡ c.check_given.result = search rules in
    let refusal = c.in_err-check_given.field-0.0 in
    let number : 0 < write_number (first_or (Ok 0) (before g)) =
    omega (
      arith,
      err-number refusal,
      ap write_number (sym c.check_given.ensures ∙ c.in_err-check_given.was),
    ) in
    wrote_nothing g a.script.now c.from_residual.result
    (same ∙ c.check_given.ensures ∙ sym (refused-before g (length a.script.now) number))
    (omega (arith, ap write_number (same ∙ c.check_given.ensures), number))

pub count_params-count-requires : goal.count_params-count-requires
count_params-count-requires c =
    let a = c.args in
    let g = given a.scale a.params a.commands.now a.masks.now in
    fine-params g (fine g c.check_given.ensures c.in_ok-check_given.was)

pub returns-then-no_room : goal.returns-then-no_room
returns-then-no_room c =
    let a = c.args in
    let g = given a.scale a.params a.commands.now a.masks.now in
    let room = length a.script.now in
    let k = counted g _ _ c.count_params-count.ensures.0 c.count_masks.ensures.0 in
    let t = decided g room k.size c.no_room.ensures ∙ c.if-no_room.true in
    let full : WriteAnswer = Err ScriptRoom in
    wrote_nothing g a.script.now full
    (sym (by-room g room (fine g c.check_given.ensures c.in_ok-check_given.was) ∙
    ap (λ (b : Bool). cond b full (Ok (length (script_for g)))) t))
    (omega arith)

pub write_parts-requires : goal.write_parts-requires
write_parts-requires c =
    let a = c.args in
    let g = given a.scale a.params a.commands.now a.masks.now in
    let room = length a.script.now in
    let k = counted g _ _ c.count_params-count.ensures.0 c.count_masks.ensures.0 in
    let o = fine g c.check_given.ensures c.in_ok-check_given.was in
    let f = fits (length (script_for g)) room
    (decided g room k.size c.no_room.ensures ∙ c.if-no_room.false) in
    record {
      commands =
          record {
            bytes = length a.masks.now;
            few = omega (arith, f.1, script-length g);
            faultless = fine-pieces g o;
          };
      params = fine-params g o;
      short = f.1;
      there = f.0;
    }

pub returns : goal.returns
returns c =
    let a = c.args in
    let g = given a.scale a.params a.commands.now a.masks.now in
    let room = length a.script.now in
    let k = counted g _ _ c.count_params-count.ensures.0 c.count_masks.ensures.0 in
    let t = decided g room k.size c.no_room.ensures ∙ c.if-no_room.false in
    let full : WriteAnswer = Err ScriptRoom in
    let done : write_answer g room ≡ Ok (length (script_for g)) =
    by-room g room (fine g c.check_given.ensures c.in_ok-check_given.was) ∙
    ap (λ (b : Bool). cond b full (Ok (length (script_for g)))) t in
    let said : WriteAnswer = Ok c.write_parts.result in
    let same : said ≡ write_answer g room =
    ap (λ (n : ℕ). let x : WriteAnswer = Ok n in x) c.write_parts.ensures.0 ∙ sym done in
    wrote-script g a.script.now c.write_parts.result c.write_parts.new.script same c.write_parts.ensures.1
