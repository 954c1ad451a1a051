-- Names that are new, one after the other, are distinct.
use Rattle.std.proofs.Common.{◌≡◌, ℕ, zero, suc, Bool, true, false, not, List, [], ◌∷◌, ◌++◌, Option, Some, None, refl, sym, ap, ◌∙◌, true≢false}
use Rattle.std.specs.Prelude.{slice_get, if◌then◌else◌}
use Rattle.std.proofs.lemmas.Bool.{and_parts, not-true, or_left, or_right}
use Rattle.std.proofs.lemmas.List.Folds.{list_any-append}
use Rattle.elastic_ast.specs.declared.rule.Rule.{Rule}
use Rattle.elastic_ast.specs.Tree.{Name}
use Rattle.elastic_ast.specs.Typing.AskedOfNames.{asks_names}
use Rattle.elastic_ast.specs.Typing.Demand.{Fresh, Plain, met, rule_of, first_broken, fixed_names}
use Rattle.elastic_ast.specs.Typing.Scope.{same, among}
use Rattle.elastic_ast.proofs.Typing.SameNames.{same_self}
use Rattle.parser_loops.specs.Transitions.{Distinct}

none_first : (b : Bool) (rule : Rule) (rest : Option Rule) → (if b then rest else Some rule) ≡ None → (b ≡ true) × (rest ≡ None)
none_first true rule rest h = (refl, h)
none_first false rule rest h = cc

-- the first name isn't among those before, and the others are new to it too
new_name : (before : List Name) (name : Name) (names : List Name) → first_broken true (asks_names before (name ∷ names)) ≡ None → (among before name ≡ false) × (first_broken true (asks_names (before ++ name ∷ []) names) ≡ None)
new_name before name names h =
    let p = none_first (met true (Fresh before name)) (rule_of (Fresh before name)) (first_broken true (Plain name ∷ asks_names (before ++ name ∷ []) names)) h in
    (not-true (among before name) (and_parts (not (among before name)) (not (among fixed_names name)) p.0).0, (none_first true (rule_of (Plain name)) (first_broken true (asks_names (before ++ name ∷ []) names)) p.1).1)

among_more : (before : List Name) (last name : Name) → among before name ≡ true → among (before ++ last ∷ []) name ≡ true
among_more before last name h = list_any-append (same name) before (last ∷ []) ∙ or_left (among before name) (among (last ∷ []) name) h

among_last : (before : List Name) (name : Name) → among (before ++ name ∷ []) name ≡ true
among_last before name = list_any-append (same name) before (name ∷ []) ∙ or_right (among before name) (among (name ∷ []) name) (or_left (same name name) false (same_self name))

-- a name that was there before doesn't come again
not_again : (before names : List Name) → first_broken true (asks_names before names) ≡ None → (place : ℕ) (name : Name) → among before name ≡ true → slice_get names place ≡ Some name → ⊥
not_again before [] h place name old e = cc
not_again before (first ∷ rest) h zero name old e = let s : first ≡ name = cc in true≢false (sym old ∙ ap (among before) (sym s) ∙ (new_name before first rest h).0)
not_again before (first ∷ rest) h (suc place) name old e = not_again (before ++ first ∷ []) rest (new_name before first rest h).1 place name (among_more before first name old) e

pub distinct : (before names : List Name) → first_broken true (asks_names before names) ≡ None → Distinct names
distinct before [] h one other name e f = cc
distinct before (first ∷ rest) h zero zero name e f = refl
distinct before (first ∷ rest) h zero (suc other) name e f =
    let s : first ≡ name = cc in absurd (not_again (before ++ first ∷ []) rest (new_name before first rest h).1 other first (among_last before first) (f ∙ ap Some (sym s)))
distinct before (first ∷ rest) h (suc one) zero name e f =
    let s : first ≡ name = cc in absurd (not_again (before ++ first ∷ []) rest (new_name before first rest h).1 one first (among_last before first) (e ∙ ap Some (sym s)))
distinct before (first ∷ rest) h (suc one) (suc other) name e f = ap suc (distinct (before ++ first ∷ []) rest (new_name before first rest h).1 one other name e f)
