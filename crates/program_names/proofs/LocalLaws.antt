-- Actions and tables that are found by their names.
use Rattle.std.proofs.lemmas.Bool.{and_parts, or_right}
use Rattle.std.proofs.lemmas.List.{take-append-drop}
use Rattle.std.proofs.Common.{◌≡◌, ℕ, Bool, true, false, not, cond, ◌||◌, List, [], ◌∷◌, ◌++◌, map, take, drop, Option, Some, None, IfSome, refl, sym, ap, subst, ◌∙◌, true≢false}
use Rattle.std.specs.Prelude.{if◌then◌else◌, option_map, option_and_then}
use Rattle.elastic_ast.specs.declared.declarations.Local.{Local}
use Rattle.elastic_ast.specs.Tree.{Name, PlainLocal}
use Rattle.elastic_ast.specs.Seen.{seen_local}
use Rattle.elastic_ast.specs.Typing.Scope.{same, among, or_else, found}
use Rattle.elastic_ast.specs.Typing.LookUps.{action_in, table_in}
use Rattle.elastic_ast.specs.Typing.AskedInLocals.{local_name}
use Rattle.program_names.specs.Distinct.{are_new, are_distinct}
use Rattle.program_names.specs.Named.{first_named, FindsNamed}
use Rattle.program_names.specs.LocalParts.{seen_locals, name_of_local, LocalUnder}
use Rattle.program_names.proofs.NewNames.{not_among, among-append, new_first}

-- A thing that hasn't the name gives nothing for it; then what some things of different names give for it, the one of this name gives.
module _ {X Y B : Type 0} (name_of : X → Name) (seen : X → Y) (n : Name) (pick : Y → Option B) (quiet : (x : X) → same n (name_of x) ≡ false → pick (seen x) ≡ None) where
  nothing_left : (xs : List X) → among (map name_of xs) n ≡ false → found pick (map seen xs) ≡ None
  nothing_left [] h = refl
  nothing_left (x ∷ xs) h = by (same n (name_of x)) refl h (nothing_left xs)
    where
      by : (b : Bool) → same n (name_of x) ≡ b → (b || among (map name_of xs) n) ≡ false → (among (map name_of xs) n ≡ false → found pick (map seen xs) ≡ None) → or_else (pick (seen x)) (found pick (map seen xs)) ≡ None
      by true e split ih = absurd (true≢false split)
      by false e split ih = ap (λ z. or_else z (found pick (map seen xs))) (quiet x e) ∙ ih split

  pub found_named : (before : List Name) (xs : List X) → are_new before (map name_of xs) ≡ true → found pick (map seen xs) ≡ option_and_then pick (option_map seen (first_named name_of xs n))
  found_named before [] p = refl
  found_named before (x ∷ xs) p = by (same n (name_of x)) refl (λ fresh. found_named (before ++ name_of x ∷ []) xs fresh)
    where
      later : are_new (before ++ name_of x ∷ []) (map name_of xs) ≡ true
      later = (and_parts (not (among before (name_of x))) (are_new (before ++ name_of x ∷ []) (map name_of xs)) p).1

      by : (b : Bool) → same n (name_of x) ≡ b → (are_new (before ++ name_of x ∷ []) (map name_of xs) ≡ true → found pick (map seen xs) ≡ option_and_then pick (option_map seen (first_named name_of xs n))) → or_else (pick (seen x)) (found pick (map seen xs)) ≡ option_and_then pick (option_map seen (cond b (Some x) (first_named name_of xs n)))
      by true e ih =
          ap (or_else (pick (seen x))) (nothing_left xs (not_among n (before ++ name_of x ∷ []) (map name_of xs) later (among-append n before (name_of x ∷ []) ∙ or_right (among before n) (among (name_of x ∷ []) n) (ap (λ z. z || false) e))))
          ∙ or_none (pick (seen x))
        where
          or_none : (a : Option B) → or_else a None ≡ a
          or_none None = refl
          or_none (Some y) = refl
      by false e ih = ap (λ z. or_else z (found pick (map seen xs))) (quiet x e) ∙ ih later

-- the first thing of a name has this name
pub first_is : {X : Type 0} (name_of : X → Name) (n : Name) (xs : List X) → IfSome (first_named name_of xs n) (λ x. same n (name_of x) ≡ true)
first_is name_of n [] = tt
first_is name_of n (x ∷ xs) = by (same n (name_of x)) refl (first_is name_of n xs)
  where
    by : (b : Bool) → same n (name_of x) ≡ b → IfSome (first_named name_of xs n) (λ y. same n (name_of y) ≡ true) → IfSome (cond b (Some x) (first_named name_of xs n)) (λ y. same n (name_of y) ≡ true)
    by true e h = e
    by false e h = h

quiet_action : (n : Name) (x : Local) → same n (name_of_local x) ≡ false → action_in n (seen_local x) ≡ None
quiet_action n x h = quiet (seen_local x) h
  where
    quiet : (y : PlainLocal) → same n (local_name y) ≡ false → action_in n y ≡ None
    quiet (PlainLocal.OfAction a) h = ap (λ b. if b then Some a else None) h
    quiet (PlainLocal.OfTable t) h = refl

quiet_table : (n : Name) (x : Local) → same n (name_of_local x) ≡ false → table_in n (seen_local x) ≡ None
quiet_table n x h = quiet (seen_local x) h
  where
    quiet : (y : PlainLocal) → same n (local_name y) ≡ false → table_in n y ≡ None
    quiet (PlainLocal.OfAction a) h = refl
    quiet (PlainLocal.OfTable t) h = ap (λ b. if b then Some t else None) h

map-append : {X Y : Type 0} (f : X → Y) (xs ys : List X) → map f (xs ++ ys) ≡ map f xs ++ map f ys
map-append f [] ys = refl
map-append f (x ∷ xs) ys = ap (λ z. f x ∷ z) (map-append f xs ys)

pub local_under : (n : Name) (names : List Name) (locals : List Local) (count : ℕ) (o : Option Local) → names ≡ map name_of_local locals → are_distinct names ≡ true → FindsNamed names (take count locals) n o
    → LocalUnder n (seen_locals (take count locals)) (option_map seen_local o)
local_under n names locals count o all distinct finds = record {
  named = seen_is o (by_name);
  action = found_named name_of_local seen_local n (action_in n) (quiet_action n) [] shown fresh ∙ ap (λ z. option_and_then (action_in n) (option_map seen_local z)) (sym here);
  table = found_named name_of_local seen_local n (table_in n) (quiet_table n) [] shown fresh ∙ ap (λ z. option_and_then (table_in n) (option_map seen_local z)) (sym here);
}
  where
    shown : List Local
    shown = take count locals

    whole : names ≡ map name_of_local (shown ++ drop count locals)
    whole = all ∙ ap (map name_of_local) (sym (take-append-drop count locals))

    here : o ≡ first_named name_of_local shown n
    here = finds name_of_local (drop count locals) whole

    fresh : are_distinct (map name_of_local shown) ≡ true
    fresh = new_first [] (map name_of_local shown) (map name_of_local (drop count locals)) (ap are_distinct (sym (whole ∙ map-append name_of_local shown (drop count locals))) ∙ distinct)

    by_name : IfSome o (λ x. same n (name_of_local x) ≡ true)
    by_name = subst (λ z. IfSome z (λ x. same n (name_of_local x) ≡ true)) (sym here) (first_is name_of_local n shown)

    seen_is : (o : Option Local) → IfSome o (λ x. same n (name_of_local x) ≡ true) → IfSome (option_map seen_local o) (λ x. same n (local_name x) ≡ true)
    seen_is None h = h
    seen_is (Some x) h = h
