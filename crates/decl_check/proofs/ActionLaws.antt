-- One step through the actions and tables of a control.
use Rattle.std.proofs.Common.{◌≡◌, ℕ, ◌+◌, ◌<◌, Bool, List, [], ◌∷◌, ◌++◌, take, drop, length, map, get_or, Option, Some, None, refl, sym, ap, ◌∙◌}
use denote.Bor.{Bor}
use Rattle.elastic_ast.specs.declared.statements.Stmt.{Stmt}
use Rattle.elastic_ast.specs.declared.declarations.Param.{Param}
use Rattle.elastic_ast.specs.declared.declarations.Decl.{Decl}
use Rattle.elastic_ast.specs.declared.declarations.Local.{Local}
use Rattle.elastic_ast.specs.Seen.{seen_stmts, seen_local}
use Rattle.elastic_ast.specs.Typing.Scope.{or_else}
use Rattle.elastic_ast.specs.Tree.{Name}
use Rattle.elastic_ast.specs.Typing.AskedOfNames.{asks_names}
use Rattle.elastic_ast.specs.Typing.Demand.{first_broken}
use Rattle.decl_check.specs.FirstRules.{one_breaks}
use Rattle.elastic_ast.specs.Typing.AskedInLocals.{asks_local, asks_locals, local_name, param_name}
use Rattle.elastic_ast.proofs.Typing.First.{first-append}
use Rattle.expr_types.specs.Scoped.{before_of}
use Rattle.decl_check.specs.NamedParts.{behind, names_break, own_names, params_break}
use Rattle.decl_check.specs.ActionRules.{local_breaks, locals_break}
use Rattle.program_names.specs.LocalParts.{seen_locals}
use Rattle.program_names.proofs.Items.{drop_step}
use Rattle.expr_types.proofs.ScopeLaws.{take_seen}

pub locals_step : (allow : Bool) (place : List Decl × ℕ) (body : List Stmt) (locals : List Local) (i : ℕ) (local : Local) → i < length locals → local ≡ get_or locals i local
    → locals_break allow place body (take i locals) (drop i locals) ≡ or_else (local_breaks allow place body (take i locals) local) (locals_break allow place body (take (i + 1) locals) (drop (i + 1) locals))
locals_step allow place body locals i local h e =
    ap (λ z. locals_break allow place body (take i locals) z) (drop_step locals i local h e)
    ∙ first-append allow (asks_local (before_of place) (seen_stmts body) (seen_locals (take i locals)) (seen_local local))
    (asks_locals (before_of place) (seen_stmts body) (seen_locals (take i locals) ++ seen_local local ∷ []) (seen_locals (drop (i + 1) locals)))
    ∙ ap (λ z. or_else (local_breaks allow place body (take i locals) local) (first_broken allow (asks_locals (before_of place) (seen_stmts body) z (seen_locals (drop (i + 1) locals))))) (sym (take_seen seen_local locals i local h e))

-- one name more of those that are put to others
pub name_step : (allow : Bool) (names : List Name) (locals : List Local) (i : ℕ) (local : Local) (n : Name) → i < length locals → local ≡ get_or locals i local → n ≡ local_name (seen_local local)
    → first_broken allow (asks_names names (map local_name (seen_locals (drop i locals)))) ≡ or_else (one_breaks allow names n) (first_broken allow (asks_names (names ++ n ∷ []) (map local_name (seen_locals (drop (i + 1) locals)))))
name_step allow names locals i local n h e k =
    ap (λ z. first_broken allow (asks_names names (map local_name (seen_locals z)))) (drop_step locals i local h e)
    ∙ ap (λ z. first_broken allow (asks_names names (z ∷ map local_name (seen_locals (drop (i + 1) locals))))) (sym k)
    ∙ first-append allow (asks_names names (n ∷ [])) (asks_names (names ++ n ∷ []) (map local_name (seen_locals (drop (i + 1) locals))))

-- the index of an action and its parameters, one after the other
pub own_parts : (allow : Bool) (index : Option (Bor Name)) (params : List Param) → names_break allow (own_names index params) ≡ or_else (names_break allow (behind index [])) (params_break allow (behind index []) params)
own_parts allow None params = refl
own_parts allow (Some index) params = first-append allow (asks_names [] (index.now ∷ [])) (asks_names (index.now ∷ []) (map param_name params))
