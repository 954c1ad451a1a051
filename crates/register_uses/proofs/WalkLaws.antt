-- What is marked stays so in a walk over units.
use Rattle.std.proofs.Common.{◌≡◌, ◌⊎◌, inl, inr, ℕ, Bool, true, false, ◌||◌, List, [], ◌∷◌, ◌++◌, Some, refl, sym, ap, ◌∙◌, subst}
use Rattle.std.specs.Prelude.{if◌then◌else◌, nat_eq}
use Rattle.std.specs.Cmp.Lexicographic.{pointwise}
use Rattle.std.proofs.lemmas.List.Folds.{list_any-append}
use Rattle.indexmap.specs.IndexSet.{insert_key}
use denote.Bor.{Bor}
use Rattle.elastic_ast.specs.declared.declarations.Local.{Local}
use Rattle.elastic_ast.specs.Tree.{Name}
use Rattle.elastic_ast.specs.Typing.Scope.{same, among}
use Rattle.elastic_ast.specs.Typing.NamedRegisters.{Naming}
use Rattle.elastic_ast.proofs.Typing.SameNames.{same_told}
use Rattle.register_uses.specs.declared.uses.Use.TheVariants as usage
use Rattle.register_uses.specs.declared.walk.Walk.{Walk}
use Rattle.register_uses.specs.Summaries.{PlainSummary, summed}
use Rattle.program_names.specs.FirstNamed.{entry_value}
use Rattle.register_uses.specs.LocalTables.{named_by_action, named_by_table}
use Rattle.register_uses.specs.Walks.{is_in, UseEntries, Notes, Marks, Adds, AreMarked, IsMarked, HasMarked, HasAdded}
use Rattle.register_uses.proofs.UseLaws.{adds_both, marks_both, marks_none, marks_stay, adds_stay, marked_twice, marks_again, adds_nothing, adds_only, adds_several}

abbrev pub Stays : UseEntries → UseEntries → Type 0
Stays old new = (register : Name) → entry_value old register ≡ Some usage.Twice → entry_value new register ≡ Some usage.Twice

are_still : (named : Name → List Name) (names : List (Bor (List ℕ))) (old new : UseEntries) → Stays old new → AreMarked named names old → AreMarked named names new
are_still named names old new s m name e register a = s register (m name e register a)

-- a walk whose uses alone change
still : (locals : List Local) (old new : Walk) → Stays old.uses.entries new.uses.entries → old.actions.keys ≡ new.actions.keys → old.tables.keys ≡ new.tables.keys → IsMarked locals old → IsMarked locals new
still locals old new s a t m = record {
  actions = subst (λ z. AreMarked (named_by_action locals) z new.uses.entries) a (are_still (named_by_action locals) old.actions.keys old.uses.entries new.uses.entries s m.actions);
  tables = subst (λ z. AreMarked (named_by_table locals) z new.uses.entries) t (are_still (named_by_table locals) old.tables.keys old.uses.entries new.uses.entries s m.tables);
}

-- one name more is marked
in_more : (names : List (Bor (List ℕ))) (key : Bor (List ℕ)) (name : Name) → is_in (insert_key (λ a b. pointwise nat_eq a.now b.now) names key) name ≡ true → (is_in names name ≡ true) ⊎ (same name key.now ≡ true)
in_more names key name = by (is_in names key.now)
  where
    last : (a b : Bool) → (a || (b || false)) ≡ true → (a ≡ true) ⊎ (b ≡ true)
    last true b h = inl refl
    last false true h = inr refl
    last false false h = cc

    by : (b : Bool) → is_in (if b then names else names ++ key ∷ []) name ≡ true → (is_in names name ≡ true) ⊎ (same name key.now ≡ true)
    by true h = inl h
    by false h = last (is_in names name) (same name key.now) (sym (list_any-append (λ k. same name k.now) names (key ∷ [])) ∙ h)

more_marked : (named : Name → List Name) (names after : List (Bor (List ℕ))) (key : Bor (List ℕ)) (uses : UseEntries) → after ≡ insert_key (λ a b. pointwise nat_eq a.now b.now) names key → AreMarked named names uses
    → ((register : Name) → among (named key.now) register ≡ true → entry_value uses register ≡ Some usage.Twice) → AreMarked named after uses
more_marked named names after key uses h m k name e register a = by (in_more names key name (ap (λ z. is_in z name) (sym h) ∙ e))
  where
    by : (is_in names name ≡ true) ⊎ (same name key.now ≡ true) → entry_value uses register ≡ Some usage.Twice
    by (inl there) = m name there register a
    by (inr new) = k register (ap (λ z. among (named z) register) (sym (same_told name key.now new)) ∙ a)

-- the steps of a walk
pub has_marked : (locals : List Local) (old between new : Walk) (xs ys all : List Name) → HasMarked locals old between xs → HasMarked locals between new ys → all ≡ xs ++ ys → HasMarked locals old new all
has_marked locals old between new xs ys all h k e = subst (HasMarked locals old new) (sym e) record { marks = marks_both old.uses.entries between.uses.entries new.uses.entries xs ys h.marks k.marks; all = k.all }

pub marked_none : (locals : List Local) (walk : Walk) → IsMarked locals walk → HasMarked locals walk walk []
marked_none locals walk m = record { marks = marks_none walk.uses.entries; all = m }

pub has_added : (locals : List Local) (old between new : Walk) (us vs all : List Naming) → HasAdded locals old between us → HasAdded locals between new vs → all ≡ us ++ vs → HasAdded locals old new all
has_added locals old between new us vs all h k e = subst (HasAdded locals old new) (sym e) record { adds = adds_both old.uses.entries between.uses.entries new.uses.entries us vs h.adds k.adds; all = k.all }

-- what is added and marks nothing
pub added_alone : (locals : List Local) (old new : Walk) (us : List Naming) → IsMarked locals old → old.actions.keys ≡ new.actions.keys → old.tables.keys ≡ new.tables.keys → Adds old.uses.entries new.uses.entries us → HasAdded locals old new us
added_alone locals old new us m a t h = record { adds = h; all = still locals old new (λ register. adds_stay old.uses.entries new.uses.entries us register h) a t m }

pub added_nothing : (locals : List Local) (walk : Walk) (looped : Bool) (names : List Name) → IsMarked locals walk → PlainSummary.Nothing ≡ summed names → HasAdded locals walk walk ((looped, names) ∷ [])
added_nothing locals walk looped names m e = record { adds = adds_nothing walk.uses.entries looped names e; all = m }

pub added_only : (locals : List Local) (old new : Walk) (looped : Bool) (name : Name) (names : List Name) → IsMarked locals old → old.actions.keys ≡ new.actions.keys → old.tables.keys ≡ new.tables.keys → PlainSummary.Only name ≡ summed names
    → Notes old.uses.entries new.uses.entries name (usage.Once looped) → HasAdded locals old new ((looped, names) ∷ [])
added_only locals old new looped name names m a t e h = added_alone locals old new ((looped, names) ∷ []) m a t (adds_only old.uses.entries new.uses.entries looped name names e h)

pub added_several : (locals : List Local) (old new : Walk) (looped : Bool) (names : List Name) → PlainSummary.Several ≡ summed names → HasMarked locals old new names → HasAdded locals old new ((looped, names) ∷ [])
added_several locals old new looped names e h = record { adds = adds_several old.uses.entries new.uses.entries looped names e h.marks; all = h.all }

-- an action, or a table, that is marked already
pub marked_again : (locals : List Local) (walk : Walk) (names : List Name) → IsMarked locals walk → ((register : Name) → among names register ≡ true → entry_value walk.uses.entries register ≡ Some usage.Twice)
    → HasMarked locals walk walk names
marked_again locals walk names m h = record { marks = marks_again walk.uses.entries names h; all = m }

-- one that is marked now
pub marked_action : (locals : List Local) (old new : Walk) (key : Bor (List ℕ)) (name : Name) (registers : List Name) → registers ≡ named_by_action locals name → IsMarked locals old → Marks old.uses.entries new.uses.entries registers
    → key.now ≡ name → new.actions.keys ≡ insert_key (λ a b. pointwise nat_eq a.now b.now) old.actions.keys key → old.tables.keys ≡ new.tables.keys → HasMarked locals old new (named_by_action locals name)
marked_action locals old new key name registers e m h k i t =
    let marks = subst (Marks old.uses.entries new.uses.entries) e h in
    let stay : Stays old.uses.entries new.uses.entries = λ register. marks_stay old.uses.entries new.uses.entries registers register h in
    record {
      marks = marks;
      all = record {
        actions = more_marked (named_by_action locals) old.actions.keys new.actions.keys key new.uses.entries i (are_still (named_by_action locals) old.actions.keys old.uses.entries new.uses.entries stay m.actions)
            (λ register a. marked_twice old.uses.entries new.uses.entries (named_by_action locals name) register marks (ap (λ z. among (named_by_action locals z) register) (sym k) ∙ a));
        tables = subst (λ z. AreMarked (named_by_table locals) z new.uses.entries) t (are_still (named_by_table locals) old.tables.keys old.uses.entries new.uses.entries stay m.tables);
      };
    }

pub marked_table : (locals : List Local) (old between new : Walk) (key : Bor (List ℕ)) (name : Name) (registers : List Name) → registers ≡ named_by_table locals name → HasMarked locals old between registers → between.uses.entries ≡ new.uses.entries
    → key.now ≡ name → new.tables.keys ≡ insert_key (λ a b. pointwise nat_eq a.now b.now) between.tables.keys key → between.actions.keys ≡ new.actions.keys → HasMarked locals old new (named_by_table locals name)
marked_table locals old between new key name registers e h u k i t =
    let marks : Marks old.uses.entries new.uses.entries (named_by_table locals name) = subst (λ z. Marks old.uses.entries z (named_by_table locals name)) u (subst (Marks old.uses.entries between.uses.entries) e h.marks) in
    record {
      marks = marks;
      all = record {
        actions = subst (λ z. AreMarked (named_by_action locals) new.actions.keys z) u (subst (λ z. AreMarked (named_by_action locals) z between.uses.entries) t h.all.actions);
        tables = more_marked (named_by_table locals) between.tables.keys new.tables.keys key new.uses.entries i (subst (AreMarked (named_by_table locals) between.tables.keys) u h.all.tables)
            (λ register a. marked_twice old.uses.entries new.uses.entries (named_by_table locals name) register marks (ap (λ z. among (named_by_table locals z) register) (sym k) ∙ a));
      };
    }
