use Rattle.std.proofs.Common.{◌≡◌, IfOk, IfErr, ap, subst, ◌∙◌}
use Rattle.std.specs.Prelude.{map}
use Rattle.elastic_ast.specs.Seen.{seen_decls, seen_stmts}
use Rattle.elastic_ast.specs.Units.SeenUnits.{seen_unit}
use Rattle.elastic_ast.specs.Units.UnitsOf.{units_of}
use Rattle.unit_flow.specs.Knowing.{known_decls}
use Rattle.unit_flow.specs.TooLarge.{IsFirstTooLarge, units_at}
use Rattle.unit_flow.proofs.ProgramLaws.{units_are}
use Rattle.unit_flow.proofs.program.listed_units.Goals as goal

pub returns-clause-listed : goal.returns-clause-listed
returns-clause-listed c =
    let same : units_at (known_decls c.args.known.now) c.as_slice.result.now ≡ units_of (seen_decls c.args.decls.now) =
    ap (units_at (known_decls c.args.known.now)) c.as_slice.ensures.value
    ∙ units_are (known_decls c.args.known.now) (seen_decls c.args.decls.now) (seen_stmts c.main_body.result.now) c.in-Ok.pieces.items c.requires.same
    c.main_body.ensures c.in-Ok.ensures in
    subst (λ units. IfOk c.list_units.result (λ list. map seen_unit list ≡ units)) same c.list_units.ensures.listed

pub returns-clause-refused : goal.returns-clause-refused
returns-clause-refused c =
    let same : units_at (known_decls c.args.known.now) c.as_slice.result.now ≡ units_of (seen_decls c.args.decls.now) =
    ap (units_at (known_decls c.args.known.now)) c.as_slice.ensures.value
    ∙ units_are (known_decls c.args.known.now) (seen_decls c.args.decls.now) (seen_stmts c.main_body.result.now) c.in-Ok.pieces.items c.requires.same
    c.main_body.ensures c.in-Ok.ensures in
    subst (λ units. IfErr c.list_units.result (IsFirstTooLarge units c.args.most)) same c.list_units.ensures.refused
