-- The library compares the fields in their order. Assumes nothing.
use Rattle.std.proofs.Common.{◌∙◌, rules}
use Rattle.test_writer.proofs.Agreeing.{Full, params-same}
use Rattle.test_writer.proofs.comparing.same_params.Goals as goal

pub returns : goal.returns
returns c =
    let f : Full c.args.a = record {
      blues = search rules;
      others = search rules;
      family = search rules;
      family_others = search rules;
    } in
    let g : Full c.args.b = record {
      blues = search rules;
      others = search rules;
      family = search rules;
      family_others = search rules;
    } in
    c.eq.ensures ∙ params-same c.args.a c.args.b f g
