use Rattle.std.proofs.Common.{rules, [], ◌∷◌, ◌++◌, sym, ap, ◌∙◌}
use Rattle.elastic_ast.specs.declared.statements.Stmt.TheVariants as stmt
use Rattle.elastic_ast.specs.Seen.{seen_stmt, seen_stmts}
use Rattle.elastic_ast.specs.Typing.AskedInStatements.{calling_sizes, calling_sizes_in}
use Rattle.elastic_ast.proofs.SeenLaws.{seen, seen_stmt-block, seen_stmt-if, seen_stmt-if_else, seen_stmt-for, seen_stmt-call}
use Rattle.decl_check.specs.CallerSizes.{around_names}
use Rattle.decl_check.proofs.CallerLaws.{on_map, along, in_two, nothing, one_stmt}
use Rattle.decl_check.proofs.callers.+walk.Goals as goal

pub add_callers-returns-in-Block : goal.add_callers-returns-in-Block
add_callers-returns-in-Block t c =
    on_map _ c.add_callers_in.ensures
    (λ h. along h (λ name. ap (λ z. calling_sizes_in name (around_names c.args.around) (seen_stmts z)) c.as_slice.ensures ∙ sym (ap (calling_sizes name (around_names c.args.around)) (ap seen_stmt c.in-Block.is ∙ seen_stmt-block _ _))))

pub add_callers-returns-in-Some : goal.add_callers-returns-in-Some
add_callers-returns-in-Some t c =
    on_map _ c.add_callers_in-in-Some.ensures
    (λ h. in_two c.in_ok-add_callers_in-in-If.ensures h
    (λ name. ap (λ z. calling_sizes_in name (around_names c.args.around) (seen_stmts z) ++ calling_sizes_in name (around_names c.args.around) (seen_stmts c.as_slice-in-Some.result.now)) c.as_slice-in-If.ensures
    ∙ ap (λ z. calling_sizes_in name (around_names c.args.around) (seen_stmts c.in-If.yes) ++ calling_sizes_in name (around_names c.args.around) (seen_stmts z)) c.as_slice-in-Some.ensures
    ∙ sym (ap (calling_sizes name (around_names c.args.around)) (ap seen_stmt (c.in-If.is ∙ ap (λ no. stmt.If c.in-If.cond c.in-If.yes no) c.in-Some.is) ∙ seen_stmt-if_else _ _ _))))

pub add_callers-returns-in-None : goal.add_callers-returns-in-None
add_callers-returns-in-None t c =
    along c.in_ok-add_callers_in-in-If.ensures
    (λ name. ap (λ z. calling_sizes_in name (around_names c.args.around) (seen_stmts z)) c.as_slice-in-If.ensures
    ∙ sym (ap (calling_sizes name (around_names c.args.around)) (ap seen_stmt (c.in-If.is ∙ ap (λ no. stmt.If c.in-If.cond c.in-If.yes no) c.in-None.is) ∙ seen_stmt-if _ _)))

pub add_callers-returns-in-For : goal.add_callers-returns-in-For
add_callers-returns-in-For t c =
    on_map _ c.add_callers_in-in-For.ensures
    (λ h. along h (λ name. ap (λ z. calling_sizes_in name (c.in-For.size ∷ []) (seen_stmts z)) c.as_slice-in-For.ensures ∙ sym (ap (calling_sizes name (around_names c.args.around)) (ap seen_stmt c.in-For.is ∙ seen_stmt-for _ _ _))))

pub add_callers-returns-in-Call : goal.add_callers-returns-in-Call
add_callers-returns-in-Call t c = on_map _ c.add_call.ensures (λ h. along h (λ name. sym (ap (calling_sizes name (around_names c.args.around)) (ap seen_stmt c.in-Call.is ∙ seen_stmt-call _ _ _))))

pub add_callers_in-loop-stmt-preserved : goal.add_callers_in-loop-stmt-preserved
add_callers_in-loop-stmt-preserved t c =
    in_two c.loop-stmt.invariant c.in_ok-add_callers.ensures (one_stmt (around_names c.args.around) c.args.stmts.now c.loop-stmt.stmt-index c.stmt-item.result c.loop-stmt-test.true c.stmt-item.is)

pub add_callers-returns-in-Assign : goal.add_callers-returns-in-Assign
add_callers-returns-in-Assign t c = nothing c.args.sizes.now (λ place name at. search (rules, seen))

pub add_callers-returns-in-Assign-2 : goal.add_callers-returns-in-Assign-2
add_callers-returns-in-Assign-2 t c = nothing c.args.sizes.now (λ place name at. search (rules, seen))

pub add_callers-returns-in-Assign-3 : goal.add_callers-returns-in-Assign-3
add_callers-returns-in-Assign-3 t c = nothing c.args.sizes.now (λ place name at. search (rules, seen))

pub add_callers-returns-in-Assign-4 : goal.add_callers-returns-in-Assign-4
add_callers-returns-in-Assign-4 t c = nothing c.args.sizes.now (λ place name at. search (rules, seen))

pub add_callers-returns-in-Assign-5 : goal.add_callers-returns-in-Assign-5
add_callers-returns-in-Assign-5 t c = nothing c.args.sizes.now (λ place name at. search (rules, seen))
