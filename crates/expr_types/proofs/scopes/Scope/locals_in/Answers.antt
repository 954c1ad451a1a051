use Rattle.std.proofs.Common.{Some, slice_get, sym, ap, ◌∙◌}
use Rattle.std.specs.Prelude.{option_map}
use Rattle.elastic_ast.specs.Tree.{PlainDecl}
use Rattle.elastic_ast.specs.Seen.{seen_decl, seen_stmts}
use Rattle.program_names.specs.LocalParts.{seen_locals}
use Rattle.program_names.specs.TopNames.{part_names}
use Rattle.expr_types.specs.Scoped.{before_of}
use Rattle.expr_types.proofs.ProgramLaws.{control_names}
use Rattle.expr_types.proofs.scopes.Scope.locals_in.Goals as goal

pub new-requires : goal.new-requires
new-requires c =
    control_names c.args.self.now c.args.number c.in-Some-Control.field-0-0 c.as_slice.result.now (seen_stmts c.in-Some-Control.field-0-2) c.in-Some.names.now
    (ap (λ locals. Some (PlainDecl.Control c.in-Some-Control.field-0-0 (seen_locals locals) (seen_stmts c.in-Some-Control.field-0-2))) c.as_slice.ensures
    ∙ ap (λ decl. Some (seen_decl decl)) (sym c.in-Some-Control.field-0-is) ∙ c.in-Some-Control.ensures)
    (c.in-Some.ensures (before_of (c.self.inside.decls.now, c.self.inside.count)) c.self.invariant.are ∙ ap (λ place. option_map part_names (slice_get (before_of place) c.args.number)) c.self.view_is)
