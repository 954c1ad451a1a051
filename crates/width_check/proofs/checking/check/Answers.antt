use Rattle.std.proofs.Common.{◌≡◌, ℕ, ◌≤◌, Bool, List, length, sym, subst}
use Rattle.std.specs.Prelude.{Option, None}
use Rattle.std.proofs.lemmas.List.{length-map}
use Rattle.elastic_ast.specs.declared.declarations.Decl.{Decl}
use Rattle.elastic_ast.specs.Seen.{seen_decl, seen_decls}
use Rattle.elastic_ast.specs.Typing.Typed.{Typed}
use Rattle.program_names.specs.declared.names.Names.{Names}
use Rattle.expr_types.specs.Scoped.{HasNames}
use Rattle.width_check.specs.Sound.{most_declarations}
use Rattle.width_check.specs.Walked.{HasNamesOfAll, IsFirstBroken}
use Rattle.width_check.specs.declared.checking.TypeError.{TypeError}
use Rattle.width_check.proofs.CheckLaws.{typed_allowed}
use Rattle.width_check.proofs.checking.check.Goals as goal

-- nothing was found in the declarations that were taken
none_found : (allow : Bool) (decls taken : List Decl) (found : Option TypeError) → taken ≡ decls → found ≡ None → IsFirstBroken allow (seen_decls taken) found → Typed allow (seen_decls decls)
none_found allow decls taken found same none is =
    subst (λ (z : List Decl). Typed allow (seen_decls z)) same (subst (λ (z : Option TypeError). IsFirstBroken allow (seen_decls taken) z) none is)

-- nor are there other tables than those of all of them
all_named : (decls taken : List Decl) (found : Option TypeError) (names : Names) → taken ≡ decls → found ≡ None → HasNamesOfAll taken found names → HasNames (decls, length decls) names
all_named decls taken found names same none has =
    subst (λ (z : List Decl). HasNames (z, length z) names) same (subst (λ (z : Option TypeError). HasNamesOfAll taken z names) none has)

pub invariant_of-result : goal.invariant_of-result
invariant_of-result c = record {
  sound = record {
    typed = typed_allowed c.args.allow_reserved (seen_decls c.args.program.decls) (none_found c.args.allow_reserved c.args.program.decls _ c.in-Ok.found.error c.as_slice-decls.ensures c.in-None.is c.in-Ok.ensures.first);
    few = subst (λ (n : ℕ). n ≤ most_declarations) (sym (length-map c.args.program.decls seen_decl)) c.requires;
  };
  named = all_named c.args.program.decls _ c.in-Ok.found.error c.in-Ok.found.names c.as_slice-decls.ensures c.in-None.is c.in-Ok.ensures.names;
}

pub returns-in-None-clause-typed : goal.returns-in-None-clause-typed
returns-in-None-clause-typed c = none_found c.args.allow_reserved c.args.program.decls _ c.in-Ok.found.error c.as_slice-decls.ensures c.in-None.is c.in-Ok.ensures.first
