-- How uses join, over the units of a list.
use Rattle.std.proofs.Common.{◌≡◌, Bool, true, false, ◌||◌, List, [], ◌∷◌, ◌++◌, Option, Some, None, refl, sym, ap, ◌∙◌}
use Rattle.std.proofs.lemmas.List.Folds.{list_any-append}
use Rattle.elastic_ast.specs.Tree.{Name}
use Rattle.elastic_ast.specs.Typing.Scope.{same, among}
use Rattle.elastic_ast.specs.Typing.NamedRegisters.{Naming}
use Rattle.register_uses.specs.declared.uses.Use.{Use}
use Rattle.register_uses.specs.declared.uses.Use.TheVariants as usage
use Rattle.register_uses.specs.Summaries.{PlainSummary, summed}
use Rattle.register_uses.specs.Uses.{combined, twice_if, use_in, use_in_unit, use_in_units}
use Rattle.program_names.specs.FirstNamed.{entry_value}
use Rattle.register_uses.specs.Walks.{UseEntries, Notes, Marks, Adds}

pub combined_none : (a : Option Use) → combined a None ≡ a
combined_none None = refl
combined_none (Some one) = refl

pub combined-assoc : (a b c : Option Use) → combined (combined a b) c ≡ combined a (combined b c)
combined-assoc None b c = refl
combined-assoc (Some one) None c = refl
combined-assoc (Some one) (Some other) None = refl
combined-assoc (Some one) (Some other) (Some third) = refl

pub use-append : (us vs : List Naming) (register : Name) → use_in_units (us ++ vs) register ≡ combined (use_in_units us register) (use_in_units vs register)
use-append [] vs register = refl
use-append (u ∷ us) vs register = ap (combined (use_in_unit u register)) (use-append us vs register) ∙ sym (combined-assoc (use_in_unit u register) (use_in_units us register) (use_in_units vs register))

twice_or : (a b : Bool) → combined (twice_if a) (twice_if b) ≡ twice_if (a || b)
twice_or true true = refl
twice_or true false = refl
twice_or false b = refl

-- what is added in two steps, or in none
pub adds_both : (old between new : UseEntries) (us vs : List Naming) → Adds old between us → Adds between new vs → Adds old new (us ++ vs)
adds_both old between new us vs h k register =
    k register ∙ ap (λ z. combined z (use_in_units vs register)) (h register) ∙ combined-assoc (entry_value old register) (use_in_units us register) (use_in_units vs register)
    ∙ ap (combined (entry_value old register)) (sym (use-append us vs register))

pub adds_none : (old : UseEntries) → Adds old old []
adds_none old register = sym (combined_none (entry_value old register))

pub marks_both : (old between new : UseEntries) (xs ys : List Name) → Marks old between xs → Marks between new ys → Marks old new (xs ++ ys)
marks_both old between new xs ys h k register =
    k register ∙ ap (λ z. combined z (twice_if (among ys register))) (h register) ∙ combined-assoc (entry_value old register) (twice_if (among xs register)) (twice_if (among ys register))
    ∙ ap (combined (entry_value old register)) (twice_or (among xs register) (among ys register) ∙ ap twice_if (sym (list_any-append (same register) xs ys)))

pub marks_none : (old : UseEntries) → Marks old old []
marks_none old register = sym (combined_none (entry_value old register))

-- a register that is named twice stays so
twice_stays : (o p : Option Use) → o ≡ Some usage.Twice → combined o p ≡ Some usage.Twice
twice_stays None p h = cc
twice_stays (Some one) None h = h
twice_stays (Some one) (Some other) h = refl

pub marks_stay : (old new : UseEntries) (names : List Name) (register : Name) → Marks old new names → entry_value old register ≡ Some usage.Twice → entry_value new register ≡ Some usage.Twice
marks_stay old new names register h k = h register ∙ twice_stays (entry_value old register) (twice_if (among names register)) k

pub adds_stay : (old new : UseEntries) (us : List Naming) (register : Name) → Adds old new us → entry_value old register ≡ Some usage.Twice → entry_value new register ≡ Some usage.Twice
adds_stay old new us register h k = h register ∙ twice_stays (entry_value old register) (use_in_units us register) k

-- what is marked is named twice
pub marked_twice : (old new : UseEntries) (names : List Name) (register : Name) → Marks old new names → among names register ≡ true → entry_value new register ≡ Some usage.Twice
marked_twice old new names register h k = h register ∙ ap (λ z. combined (entry_value old register) (twice_if z)) k ∙ last (entry_value old register)
  where
    last : (o : Option Use) → combined o (Some usage.Twice) ≡ Some usage.Twice
    last None = refl
    last (Some one) = refl

-- and marking it again changes nothing
pub marks_again : (old : UseEntries) (names : List Name) → ((register : Name) → among names register ≡ true → entry_value old register ≡ Some usage.Twice) → Marks old old names
marks_again old names h register = by (among names register) (h register)
  where
    again : (o : Option Use) → o ≡ Some usage.Twice → o ≡ combined o (Some usage.Twice)
    again None k = cc
    again (Some one) k = k

    by : (b : Bool) → (b ≡ true → entry_value old register ≡ Some usage.Twice) → entry_value old register ≡ combined (entry_value old register) (twice_if b)
    by true k = again (entry_value old register) (k refl)
    by false k = sym (combined_none (entry_value old register))

-- a unit by the summary of its registers
unit_is : (looped : Bool) (names : List Name) (s : PlainSummary) (register : Name) → s ≡ summed names → use_in_units ((looped, names) ∷ []) register ≡ use_in looped s names register
unit_is looped names s register e = combined_none (use_in looped (summed names) names register) ∙ ap (λ z. use_in looped z names register) (sym e)

pub adds_nothing : (old : UseEntries) (looped : Bool) (names : List Name) → PlainSummary.Nothing ≡ summed names → Adds old old ((looped, names) ∷ [])
adds_nothing old looped names e register = sym (ap (combined (entry_value old register)) (unit_is looped names PlainSummary.Nothing register e) ∙ combined_none (entry_value old register))

pub adds_only : (old new : UseEntries) (looped : Bool) (name : Name) (names : List Name) → PlainSummary.Only name ≡ summed names → Notes old new name (usage.Once looped) → Adds old new ((looped, names) ∷ [])
adds_only old new looped name names e h register = h register ∙ ap (combined (entry_value old register)) (sym (unit_is looped names (PlainSummary.Only name) register e))

pub adds_several : (old new : UseEntries) (looped : Bool) (names : List Name) → PlainSummary.Several ≡ summed names → Marks old new names → Adds old new ((looped, names) ∷ [])
adds_several old new looped names e h register = h register ∙ ap (combined (entry_value old register)) (sym (unit_is looped names PlainSummary.Several register e))
