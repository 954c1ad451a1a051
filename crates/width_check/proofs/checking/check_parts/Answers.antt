use Rattle.std.proofs.Common.{◌≡◌, ℕ, Bool, true, List, Option, None, sym, ap, ◌∙◌, refl}
use Rattle.elastic_ast.specs.declared.declarations.Decl.{Decl}
use Rattle.elastic_ast.specs.declared.rule.Rule.{Rule}
use Rattle.elastic_ast.specs.Seen.{seen_decl}
use Rattle.elastic_ast.specs.Typing.Scope.{or_else}
use Rattle.elastic_ast.specs.Typing.Asked.{is_first}
use Rattle.decl_check.specs.FirstRules.{inside_breaks}
use Rattle.decl_check.proofs.RefusalLaws.{fine_both, refused_second}
use Rattle.expr_types.specs.Scoped.{before_of, own_name_breaks}
use Rattle.width_check.specs.Walked.{next_breaks}
use Rattle.width_check.proofs.CheckLaws.{other_broken, broken_parts}
use Rattle.width_check.proofs.checking.check_parts.Goals as goal

-- what the name of the next declaration breaks, by the scope of the walk
by_name : (allow : Bool) (walk scope : List Decl × ℕ) (decl : Decl) (broken : Option Rule) → scope ≡ walk → broken ≡ own_name_breaks allow scope decl → own_name_breaks allow walk decl ≡ broken
by_name allow walk scope decl broken here is = sym (is ∙ ap (λ place. own_name_breaks allow place decl) here)

-- the first of its kind breaks what stands in it, where its name breaks nothing
inside_alone : (allow : Bool) (walk scope : List Decl × ℕ) (decl : Decl) (first : Bool) → scope ≡ walk → first ≡ is_first (before_of walk) (seen_decl decl) → first ≡ true
    → next_breaks allow walk decl ≡ or_else (own_name_breaks allow walk decl) (inside_breaks allow scope decl)
inside_alone allow walk scope decl first here is alone =
    broken_parts allow (before_of walk) (seen_decl decl) first is
    ∙ ap (λ b. or_else (own_name_breaks allow walk decl) (other_broken allow b (inside_breaks allow walk decl))) alone
    ∙ ap (λ place. or_else (own_name_breaks allow walk decl) (inside_breaks allow place decl)) (sym here)

pub returns-in-Some-clause-refused : goal.returns-in-Some-clause-refused
returns-in-Some-clause-refused c =
    let first = is_first (before_of c.args.walk.now) (seen_decl c.args.decl.now) in
    broken_parts c.args.allow_reserved (before_of c.args.walk.now) (seen_decl c.args.decl.now) first refl
    ∙ ap (λ z. or_else z (other_broken c.args.allow_reserved first (inside_breaks c.args.allow_reserved c.args.walk.now c.args.decl.now)))
    (by_name c.args.allow_reserved c.args.walk.now c.scope-scope.result c.args.decl.now _ c.scope-scope.ensures c.in-Some.ensures)

pub returns-then-not-is_first-clause-refused : goal.returns-then-not-is_first-clause-refused
returns-then-not-is_first-clause-refused c =
    let own = inside_breaks c.args.allow_reserved c.args.walk.now c.args.decl.now in
    broken_parts c.args.allow_reserved (before_of c.args.walk.now) (seen_decl c.args.decl.now) c.is_first.result c.is_first.ensures
    ∙ ap (λ z. or_else z (other_broken c.args.allow_reserved c.is_first.result own))
    (by_name c.args.allow_reserved c.args.walk.now c.scope-scope.result c.args.decl.now _ c.scope-scope.ensures c.in-None.ensures)
    ∙ ap (λ b. other_broken c.args.allow_reserved b own) c.if-not-is_first.true

pub returns-clause-fine : goal.returns-clause-fine
returns-clause-fine c =
    fine_both c.check_declaration.result _ _ _ c.check_declaration.ensures.fine
    (by_name c.args.allow_reserved c.args.walk.now c.scope-scope.result c.args.decl.now _ c.scope-scope.ensures c.in-None.ensures)
    (inside_alone c.args.allow_reserved c.args.walk.now c.scope-scope.result c.args.decl.now c.is_first.result c.scope-scope.ensures c.is_first.ensures c.if-not-is_first.false)

pub returns-clause-refused : goal.returns-clause-refused
returns-clause-refused c =
    refused_second c.check_declaration.result _ _ _ c.check_declaration.ensures.refused
    (by_name c.args.allow_reserved c.args.walk.now c.scope-scope.result c.args.decl.now _ c.scope-scope.ensures c.in-None.ensures)
    (inside_alone c.args.allow_reserved c.args.walk.now c.scope-scope.result c.args.decl.now c.is_first.result c.scope-scope.ensures c.is_first.ensures c.if-not-is_first.false)
