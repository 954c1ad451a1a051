use Rattle.std.proofs.Common.{sym, subst, ap, ◌∙◌}
use Rattle.elastic_ast.specs.declared.flat.Terms.{Terms}
use Rattle.elastic_ast.specs.Seen.{seen_decls}
use Rattle.size_terms.specs.TermsMean.{SayAssumes, SayUtility}
use Rattle.p4all_top.proofs.AnswerLaws.{unit_found}
use Rattle.p4all_top.proofs.sizing.size_outcome.Goals as goal

pub outcome_for-requires-clause-units : goal.outcome_for-requires-clause-units
outcome_for-requires-clause-units c =
    let same = c.in-Ok.ensures.terms in
    let Assumes : Terms → Type 0 = SayAssumes (seen_decls c.args.checked.now) in
    let Utility : Terms → Type 0 = SayUtility (seen_decls c.args.checked.now) in
    record {
      units_are = record {
        units_are = c.in-Ok.ensures.units;
        symbols = ap (λ (z : Terms). z.symbols) same ∙ c.in_ok-terms.ensures.symbols;
        assumes = subst Assumes (sym same) c.in_ok-terms.ensures.assumes;
        utility = subst Utility (sym same) c.in_ok-terms.ensures.utility;
      };
      rows = ap (λ (z : Terms). z.rows) same ∙ c.in_ok-terms.ensures.rows;
      ones = ap (λ (z : Terms). z.ones) same ∙ c.in_ok-terms.ensures.ones;
      steps = ap (λ (z : Terms). z.steps) same ∙ c.in_ok-terms.ensures.tables;
      sound = c.in-Ok.ensures.sound;
    }

pub returns-in-Err-UnitTooLarge : goal.returns-in-Err-UnitTooLarge
returns-in-Err-UnitTooLarge c =
    unit_found (seen_decls c.args.checked.now) c.args.target.now c.in-Err-UnitTooLarge.unit c.in-Err-UnitTooLarge.ops c.refused_unit.result (rw c.in-Err-UnitTooLarge.field-0-is at c.in-Err-UnitTooLarge.ensures.refused) c.refused_unit.ensures.status c.refused_unit.ensures.lines
