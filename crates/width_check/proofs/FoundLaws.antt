-- From what the two walks over the declarations find to the first broken rule.
use Rattle.std.proofs.Common.{◌≡◌, ℕ, ◌+◌, ◌<◌, ◌≤◌, ◌⊎◌, inl, inr, Bool, true, false, List, [], ◌∷◌, ◌++◌, take, length, Option, Some, None, sym, ap, subst, ◌∙◌, true≢false, arith}
use Rattle.std.specs.Prelude.{slice_get}
use Rattle.std.proofs.Math.Nat.{eq-or-lt_of_le}
use Rattle.std.proofs.lemmas.List.{length-map, take-map}
use Rattle.std.proofs.lemmas.Option.{slice_get_within}
use Rattle.elastic_ast.specs.declared.declarations.Decl.{Decl}
use Rattle.elastic_ast.specs.Seen.{seen_decl, seen_decls}
use Rattle.width_check.specs.Walked.{next_breaks, UpTo, AsksWhatIs, KeepsWhole, NamesStates, HasNamesBefore, HasNamesOfAll, IsAskedFirst, before_asked, IsWholeFirst, IsFirstBroken}
use Rattle.elastic_ast.specs.declared.rule.Rule.{Rule}
use Rattle.elastic_ast.specs.Tree.{PlainDecl}
use Rattle.elastic_ast.specs.Typing.Demand.{Demand, First, first_broken}
use Rattle.elastic_ast.specs.Typing.AskedOfNames.{asks_names, top_name, top_names}
use Rattle.elastic_ast.specs.Typing.ParserLoops.{state_names}
use Rattle.elastic_ast.specs.Typing.Asked.{asks_decl, asks_structs, asked, is_first}
use Rattle.elastic_ast.specs.Typing.Typed.{AsksTooMuch, Breaks, broken_rule}
use Rattle.elastic_ast.proofs.Typing.First.{first-append}
use Rattle.elastic_ast.proofs.Typing.TypedLaws.{all_met, none_both}
use Rattle.width_check.specs.declared.checking.TypeError.{TypeError}
use Rattle.expr_types.specs.Scoped.{HasNames}
use Rattle.width_check.specs.WholeRules.{IsWholeRule, HasNamedStates}
use Rattle.program_names.specs.Distinct.{are_new}
use Rattle.program_names.specs.declared.names.Names.{Names}
use Rattle.width_check.proofs.CheckLaws.{first_allowed}
use Rattle.expr_types.proofs.ScopeLaws.{new_names}

-- a declaration of which all is so that it asks breaks a rule of the whole program alone
unbroken : (allow : Bool) (before : List PlainDecl) (rule : Rule) (decl : PlainDecl) → broken_rule allow before decl ≡ None → AsksTooMuch allow before rule decl → ⊥
unfolding broken_rule
unbroken allow before rule decl fine (demand, there, of_rule, unmet) = true≢false (sym (all_met allow (asked before decl) fine demand there) ∙ unmet)

-- where all is so that the declarations up to a number ask, and they break no rule of the whole program, they break no rule
unbroken_to : (allow : Bool) (decls : List PlainDecl) (count : ℕ) → AsksWhatIs allow decls count → KeepsWhole decls count → (rule : Rule) (number : ℕ) → number < count → Breaks allow decls rule number → ⊥
unbroken_to allow decls count asks keeps rule number within (decl, here, inl much) = unbroken allow (take number decls) rule decl (asks number decl within here) much
unbroken_to allow decls count asks keeps rule number within (decl, here, inr broken) = keeps number decl within here rule broken

-- up to a lesser number
fewer_ask : (allow : Bool) (decls : List PlainDecl) (less count : ℕ) → less ≤ count → AsksWhatIs allow decls count → AsksWhatIs allow decls less
fewer_ask allow decls less count h asks number decl within here = asks number decl (omega (arith, h, within)) here

-- all is so up to the first that asks what isn't so
pub asks_before : (allow : Bool) (decls : List PlainDecl) (asked : Option TypeError) → IsAskedFirst allow decls asked → AsksWhatIs allow decls (before_asked decls asked)
asks_before allow decls None found = found
asks_before allow decls (Some error) found = found.first

pub before_within : (allow : Bool) (decls : List PlainDecl) (asked : Option TypeError) → IsAskedFirst allow decls asked → before_asked decls asked ≤ length decls
before_within allow decls None found = omega arith
before_within allow decls (Some error) found = let h = slice_get_within decls error.decl found.decl found.here in omega (arith, h)

-- the second walk found one
pub whole_found : (allow : Bool) (decls : List PlainDecl) (asked : Option TypeError) (error : TypeError) → IsAskedFirst allow decls asked → IsWholeFirst decls (before_asked decls asked) (Some error) → IsFirstBroken allow decls (Some error)
whole_found allow decls asked error found whole =
    let asks = asks_before allow decls asked found in record {
      decl = whole.decl;
      here = whole.here;
      broken = inr (asks error.decl whole.decl whole.within whole.here, whole.broken);
      first = λ other before less b.
          let h = whole.within in
          unbroken_to allow decls error.decl (fewer_ask allow decls error.decl (before_asked decls asked) (omega (arith, h)) asks) whole.first other before less b;
    }

-- it found none, and the first walk may have found one
pub asked_found : (allow : Bool) (decls : List PlainDecl) (asked : Option TypeError) → IsAskedFirst allow decls asked → IsWholeFirst decls (before_asked decls asked) None → IsFirstBroken allow decls asked
asked_found allow decls None found whole = λ rule number b.
    let h = slice_get_within decls number b.0 b.1 in unbroken_to allow decls (length decls) found whole rule number h b
asked_found allow decls (Some error) found whole = record {
  decl = found.decl;
  here = found.here;
  broken = inl found.broken;
  first = λ other before less b. unbroken_to allow decls error.decl found.first whole other before less b;
}

-- two lists that ask what is so
both_fine : (allow : Bool) (one other : List Demand) → first_broken allow (one ++ other) ≡ None → (first_broken allow one ≡ None) × (first_broken allow other ≡ None)
both_fine allow one other h = none_both (first_broken allow one) (first_broken allow other) (sym (first-append allow one other) ∙ h)

-- the name of a declaration is new where all is so that it asks
pub name_fresh : (allow : Bool) (before : List PlainDecl) (decl : PlainDecl) → broken_rule allow before decl ≡ None → are_new (top_names before) (top_name decl) ≡ true
unfolding broken_rule
name_fresh allow before decl fine = new_names allow (top_names before) (top_name decl) (both_fine allow (asks_names (top_names before) (top_name decl)) (First (is_first before decl) ∷ asks_decl before decl) fine).0

-- with reserved names
allowing : (allow : Bool) (qs : List Demand) → first_broken allow qs ≡ None → first_broken true qs ≡ None
allowing true qs h = h
allowing false qs h = first_allowed qs h

-- the states of a parser have names of their own where all is so that it asks
named_states : (allow : Bool) (before : List PlainDecl) (decl : PlainDecl) → broken_rule allow before decl ≡ None → HasNamedStates decl
unfolding broken_rule
named_states allow before (PlainDecl.Parser name states) fine =
    let own = (both_fine allow (asks_names (top_names before) (name ∷ [])) (First (is_first before (PlainDecl.Parser name states)) ∷ asks_decl before (PlainDecl.Parser name states)) fine).1 in
    let inside = (both_fine allow (First (is_first before (PlainDecl.Parser name states)) ∷ asks_structs before) (asks_names [] (state_names states) ++ _) own).1 in
    allowing allow (asks_names [] (state_names states)) (both_fine allow (asks_names [] (state_names states)) _ inside).0
named_states allow before _ fine = tt

pub states_named : (allow : Bool) (decls : List PlainDecl) (count : ℕ) → AsksWhatIs allow decls count → NamesStates decls count
states_named allow decls count asks number decl within here = named_states allow (take number decls) decl (asks number decl within here)

-- what holds of the declarations up to a number, and of the next, holds up to the next number
pub up_to_next : (decls : List PlainDecl) (Holds : ℕ → PlainDecl → Type 0) (count : ℕ) (decl : PlainDecl) → slice_get decls count ≡ Some decl → Holds count decl → UpTo decls count Holds → UpTo decls (count + 1) Holds
up_to_next decls Holds count decl here next up number other within there = by (eq-or-lt_of_le (omega (arith, within)))
  where
    by : (number ≡ count) ⊎ (number < count) → Holds number other
    by (inl e) =
        let same : decl ≡ other = let all : Some decl ≡ Some other = sym here ∙ ap (slice_get decls) (sym e) ∙ there in cc in
        subst (λ z. Holds z other) (sym e) (subst (Holds count) same next)
    by (inr less) = up number other less there

-- nothing stands before the first
pub up_to_first : (decls : List PlainDecl) (Holds : ℕ → PlainDecl → Type 0) → UpTo decls 0 Holds
up_to_first decls Holds number decl within here = absurd (omega (arith, within))

-- what the next declaration breaks, where the scope has come to it
pub next_here : (allow : Bool) (decls : List Decl) (place : List Decl × ℕ) (number : ℕ) (decl : Decl) → place ≡ (decls, number) → broken_rule allow (take number (seen_decls decls)) (seen_decl decl) ≡ next_breaks allow place decl
next_here allow decls place number decl here = ap (λ z. broken_rule allow z (seen_decl decl)) (take-map seen_decl number decls) ∙ ap (λ z. next_breaks allow z decl) (sym here)

-- the rule that was found for a declaration of a program
pub whole_rule : (given taken : List Decl) (decl : PlainDecl) (found rule : Option Rule) → given ≡ taken → found ≡ rule → IsWholeRule (seen_decls given) decl found → IsWholeRule (seen_decls taken) decl rule
whole_rule given taken decl found rule same is holds =
    subst (λ (z : List Decl). IsWholeRule (seen_decls z) decl rule) same (subst (λ (z : Option Rule). IsWholeRule (seen_decls given) decl z) is holds)

-- tables of the declarations before the first that asks what isn't so are those of all, where there is none
pub names_of_all : (decls : List Decl) (asked : Option TypeError) (names : Names) → HasNamesBefore decls asked names → HasNamesOfAll decls asked names
names_of_all decls None names has = subst (λ (n : ℕ). HasNames (decls, n) names) (length-map decls seen_decl) has
names_of_all decls (Some error) names has = tt

-- the tables of a walk that has come to the end
pub names_at_end : (decls : List Decl) (place : List Decl × ℕ) (names : Names) → place ≡ (decls, length decls) → HasNames place names → HasNamesBefore decls None names
names_at_end decls place names here has = subst (λ (n : ℕ). HasNames (decls, n) names) (sym (length-map decls seen_decl)) (subst (λ (z : List Decl × ℕ). HasNames z names) here has)
