-- `answer_to` lays what `run_script` answers and leaves. Assumes nothing.
use Rattle.std.proofs.Common.{ap, subst, ◌∙◌, List, ℕ, ℤ}
use Rattle.words.specs.Answers.{Answer}
use Rattle.words.proofs.Answers.{says_is}
use Rattle.script.specs.Script.{script_of}
use Rattle.hint.specs.Encode.{answer_words, result_in, Answered, lent}
use Rattle.hint.proofs.Program.{program-words}
use Rattle.hint.proofs.answer_to.Goals as goal

pub returns : goal.returns
returns c =
    let s = c.args.script.now in
    let o = c.run_script-answer.ensures in
    let w = ap (λ (x : Answer). answer_words x (result_in c.run_script-answer.new.out)) (says_is o.answer) ∙
    ap (λ (l : List ℤ). answer_words (script_of s lent).answer (result_in l)) o.memory ∙ program-words s in
    subst (λ (ws : List ℕ). Answered ws c.args.bytes.now c.answered.result c.answered.new.bytes) w
    c.answered.ensures
