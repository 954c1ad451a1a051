use Rattle.std.proofs.Common.{◌+◌, drop, sym, ap, ◌∙◌}
use Rattle.std.specs.Prelude.{map}
use Rattle.elastic_ast.specs.Containers.LocationRefs.{seen_ref}
use Rattle.elastic_ast.specs.Typing.Scope.{or_else, found}
use Rattle.elastic_ast.specs.Units.Costs.{register_of}
use Rattle.program_names.proofs.Items.{drop_step}
use Rattle.unit_parts.proofs.tasks.first_register.Goals as goal

pub returns-in-Some : goal.returns-in-Some
returns-in-Some c =
    let rest = found register_of (map seen_ref (drop (c.loop-at.at-index + 1) c.args.writes.now)) in
    ap (λ z. or_else z rest) c.in-Some.ensures ∙ ap (λ z. found register_of (map seen_ref z)) (sym (drop_step c.args.writes.now c.loop-at.at-index c.at-item.result c.loop-at-test.true c.at-item.is)) ∙ c.loop-at.invariant

pub loop-at-preserved : goal.loop-at-preserved
loop-at-preserved c =
    let rest = found register_of (map seen_ref (drop (c.loop-at.at-index + 1) c.args.writes.now)) in
    ap (λ z. or_else z rest) c.in_default.ensures ∙ ap (λ z. found register_of (map seen_ref z)) (sym (drop_step c.args.writes.now c.loop-at.at-index c.at-item.result c.loop-at-test.true c.at-item.is)) ∙ c.loop-at.invariant
