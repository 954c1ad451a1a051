use Rattle.std.proofs.Common.{◌∙◌}
use Rattle.elastic_ast.specs.Seen.{seen_decls}
use Rattle.p4all_top.proofs.AnswerLaws.{answer_found, choice_made}
use Rattle.p4all_top.proofs.sizing.outcome_for.Goals as goal

pub returns : goal.returns
returns c =
    let made = choice_made (seen_decls c.args.checked.now) c.args.target.now c.in_ok-choice.choice c.choose.result c.in_ok-choice.was (c.choose.ensures.choice (seen_decls c.args.checked.now) c.requires.units) in
    answer_found (seen_decls c.args.checked.now) c.args.target.now c.as_slice.result.now c.in_ok-choice.choice c.outcome_of.result c.requires.fits (c.as_slice.ensures ∙ c.requires.units.units_are.symbols) made c.outcome_of.ensures
