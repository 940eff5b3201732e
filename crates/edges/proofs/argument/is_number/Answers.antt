-- `is_number` asks of every byte whether it is a digit. Assumes nothing.
use Rattle.std.proofs.Common.{◌≡◌, sym, ◌∙◌, rules}
use Rattle.std.proofs.lemmas.Iterator.{YieldsList-from_slice}
use Rattle.std.proofs.lemmas.Iterator.Search.{all_from_yields_List}
use Rattle.std.specs.List.{list_all}
use Rattle.std.specs.Char.{is_ascii_digit}
use Rattle.edges.proofs.Digits.{digits-are, some_number}
use Rattle.edges.proofs.argument.is_number.Goals as goal

pub returns-then-not-is_empty : goal.returns-then-not-is_empty
returns-then-not-is_empty c =
    let ds = c.args.text.now in
    let all : c.all.result ≡ list_all is_ascii_digit ds =
    all_from_yields_List is_ascii_digit _ _ _ c.all.ensures.ran (YieldsList-from_slice ds (cc))
    (λ x b q k. search rules)
    in
    all ∙ digits-are ds ∙ sym (some_number ds (rw (sym c.is_empty.ensures) c.if-not-is_empty.true))
