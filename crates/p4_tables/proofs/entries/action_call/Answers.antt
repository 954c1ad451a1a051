use Rattle.elastic_ast.specs.Seen.{seen_exprs}
use Rattle.spelling.proofs.ByParts.{part_deep, refused_within, with_sign}
use Rattle.spelling.proofs.Balance.{stays_named}
use Rattle.spelling.proofs.Only.{after_one, named_same}
use Rattle.p4_tables.specs.Tables.{SpellsValues}
use Rattle.std.proofs.Common.{ap, rules, ◌∙◌}
use Rattle.spelling.proofs.Taking.{may, takes_both}
use Rattle.p4_tables.proofs.entries.action_call.Goals as goal

pub returns-in_err-args : goal.returns-in_err-args
returns-in_err-args c =
    let r = with_sign {Of = SpellsValues} {seen = seen_exprs} (λ old new r call. search rules) c.in_err-args.ensures in
    refused_within _ c.from_residual-in_err-args.ensures.1 (λ more x rest m. r.only more x.1 rest (after_one m c.in_ok-action.ensures.taken))
    (part_deep _ _ (stays_named c.in_ok-action.action) (may c.in_ok-action.ensures.taken) r.deep)

pub returns : goal.returns
returns c =
    let r = with_sign {Of = SpellsValues} {seen = seen_exprs} (λ old new r call. search rules) c.in_ok-args.ensures in
    record {
      taken = takes_both c.in_ok-action.ensures.taken r.taken;
      only = λ more x rest m.
          let s = r.only more x.1 rest (after_one m c.in_ok-action.ensures.taken) in
          (ap (λ name. (name, seen_exprs c.in_ok-args.args)) (named_same m c.in_ok-action.ensures.taken) ∙ ap (λ args. (x.0, args)) s.0, s.1);
      deep = tt;
    }
