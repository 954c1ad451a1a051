use Rattle.std.proofs.Common.{◌≤◌, ℕ, length, sym, subst}
use Rattle.std.specs.Prelude.{Option, Some, None}
use Rattle.std.proofs.lemmas.List.{length-map}
use Rattle.elastic_ast.specs.Seen.{seen_decl, seen_decls}
use Rattle.width_check.specs.declared.checking.TypeError.{TypeError}
use Rattle.width_check.specs.Walked.{NamesStates, IsWholeFirst, before_asked}
use Rattle.width_check.proofs.FoundLaws.{asks_before, before_within, states_named, whole_found, asked_found, names_of_all}
use Rattle.width_check.proofs.checking.broken_first.Goals as goal

pub whole_first-requires-clause-within : goal.whole_first-requires-clause-within
whole_first-requires-clause-within c =
    subst (λ (n : ℕ). n ≤ length c.args.decls.now) (sym c.count_before.ensures)
    (subst (λ (n : ℕ). before_asked (seen_decls c.args.decls.now) c.in_ok-asked.asked.error ≤ n) (length-map c.args.decls.now seen_decl) (before_within c.args.allow_reserved (seen_decls c.args.decls.now) c.in_ok-asked.asked.error c.in_ok-asked.ensures.first))

pub whole_first-requires-clause-named : goal.whole_first-requires-clause-named
whole_first-requires-clause-named c =
    subst (NamesStates (seen_decls c.args.decls.now)) (sym c.count_before.ensures)
    (states_named c.args.allow_reserved (seen_decls c.args.decls.now) _ (asks_before c.args.allow_reserved (seen_decls c.args.decls.now) c.in_ok-asked.asked.error c.in_ok-asked.ensures.first))

pub returns-in-Some-clause-first : goal.returns-in-Some-clause-first
returns-in-Some-clause-first c =
    let found : IsWholeFirst (seen_decls c.args.decls.now) (before_asked (seen_decls c.args.decls.now) c.in_ok-asked.asked.error) (Some c.in-Some.error) =
    subst (λ (z : Option TypeError). IsWholeFirst (seen_decls c.args.decls.now) (before_asked (seen_decls c.args.decls.now) c.in_ok-asked.asked.error) z) c.in-Some.is
    (subst (λ (n : ℕ). IsWholeFirst (seen_decls c.args.decls.now) n c.in_ok-error.field-0) c.count_before.ensures c.in_ok-error.ensures) in
    whole_found c.args.allow_reserved (seen_decls c.args.decls.now) c.in_ok-asked.asked.error c.in-Some.error c.in_ok-asked.ensures.first found

pub returns-in-None-clause-first : goal.returns-in-None-clause-first
returns-in-None-clause-first c =
    let found : IsWholeFirst (seen_decls c.args.decls.now) (before_asked (seen_decls c.args.decls.now) c.in_ok-asked.asked.error) None =
    subst (λ (z : Option TypeError). IsWholeFirst (seen_decls c.args.decls.now) (before_asked (seen_decls c.args.decls.now) c.in_ok-asked.asked.error) z) c.in-None.is
    (subst (λ (n : ℕ). IsWholeFirst (seen_decls c.args.decls.now) n c.in_ok-error.field-0) c.count_before.ensures c.in_ok-error.ensures) in
    asked_found c.args.allow_reserved (seen_decls c.args.decls.now) c.in_ok-asked.asked.error c.in_ok-asked.ensures.first found

pub returns-in-None-clause-names : goal.returns-in-None-clause-names
returns-in-None-clause-names c = names_of_all c.args.decls.now c.in_ok-asked.asked.error c.in_ok-asked.asked.names c.in_ok-asked.ensures.names
