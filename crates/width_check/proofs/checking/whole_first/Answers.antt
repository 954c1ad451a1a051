use Rattle.std.proofs.Common.{◌<◌, length, Some, None, arith}
use Rattle.elastic_ast.specs.Seen.{seen_decl, seen_decls}
use Rattle.width_check.specs.WholeRules.{IsWholeRule}
use Rattle.width_check.proofs.CheckLaws.{seen_at}
use Rattle.width_check.proofs.FoundLaws.{whole_rule, up_to_next}
use Rattle.stmt_check.proofs.Steps.{not_some}
use Rattle.width_check.proofs.checking.whole_first.Goals as goal

pub rule_of-requires : goal.rule_of-requires
rule_of-requires c =
    let within : c.loop-i.i < length c.args.decls.now = omega (arith, c.loop-i-test.true, c.requires.within) in
    c.requires.named c.loop-i.i (seen_decl c.index-decls-i.result) c.loop-i-test.true (seen_at c.args.decls.now c.loop-i.i c.index-decls-i.result within c.index-decls-i.is)

pub returns-in-Some : goal.returns-in-Some
returns-in-Some c =
    let within : c.loop-i.i < length c.args.decls.now = omega (arith, c.loop-i-test.true, c.requires.within) in record {
      decl = seen_decl c.index-decls-i.result;
      within = c.loop-i-test.true;
      here = seen_at c.args.decls.now c.loop-i.i c.index-decls-i.result within c.index-decls-i.is;
      broken = whole_rule c.in_ok-whole.whole.uses c.args.decls.now (seen_decl c.index-decls-i.result) c.in_ok-rule.field-0 (Some c.in-Some.rule) c.in_ok-whole.ensures c.in-Some.is c.in_ok-rule.ensures;
      first = c.loop-i.invariant;
    }

pub loop-i-preserved : goal.loop-i-preserved
loop-i-preserved c =
    let within : c.loop-i.i < length c.args.decls.now = omega (arith, c.loop-i-test.true, c.requires.within) in
    up_to_next (seen_decls c.args.decls.now) (λ number decl. IsWholeRule (seen_decls c.args.decls.now) decl None) c.loop-i.i (seen_decl c.index-decls-i.result)
    (seen_at c.args.decls.now c.loop-i.i c.index-decls-i.result within c.index-decls-i.is)
    (whole_rule c.in_ok-whole.whole.uses c.args.decls.now (seen_decl c.index-decls-i.result) c.in_ok-rule.field-0 None c.in_ok-whole.ensures (not_some c.in_ok-rule.field-0 c.in_default.not-Some) c.in_ok-rule.ensures) c.loop-i.invariant
