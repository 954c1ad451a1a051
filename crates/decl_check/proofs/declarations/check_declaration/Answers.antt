use Rattle.std.proofs.Common.{sym, ap, subst, ◌∙◌, map}
use Rattle.std.proofs.lemmas.Simd.{map-map}
use Rattle.elastic_ast.specs.Seen.{seen_decl, seen_local}
use Rattle.elastic_ast.specs.Tree.{Name}
use Rattle.elastic_ast.specs.Typing.AskedInLocals.{local_name}
use Rattle.std.specs.Prelude.{List}
use Rattle.program_names.specs.LocalParts.{name_of_local}
use Rattle.program_names.specs.TopNames.{part_names}
use Rattle.decl_check.specs.Refusals.{IsTableOf}
use Rattle.decl_check.proofs.declarations.check_declaration.Goals as goal

pub returns-in-Control-clause-parts : goal.returns-in-Control-clause-parts
returns-in-Control-clause-parts c =
    let is = ap (map name_of_local) c.as_slice-in-Control.ensures ∙ sym (map-map local_name seen_local c.in-Control.locals) ∙ sym (ap (λ d. part_names (seen_decl d)) c.in-Control.is) in
    subst (λ (names : List Name). IsTableOf names c.check_control.result) is c.check_control.ensures.parts
