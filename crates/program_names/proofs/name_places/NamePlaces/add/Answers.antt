use Rattle.std.proofs.Common.{◌≡◌, ℕ, false, List, [], ◌∷◌, ◌++◌, None, sym, ap, ◌∙◌}
use Rattle.std.specs.Prelude.{Vec}
use Rattle.std.specs.Map.{lookup}
use Rattle.std.specs.declared.alloc.Global.{Global}
use Rattle.elastic_ast.specs.Tree.{Name}
use Rattle.elastic_ast.specs.Typing.Scope.{among}
use Rattle.indexmap.proofs.CallerLemmas.{insert_entry-new}
use Rattle.program_names.specs.Distinct.{are_distinct}
use Rattle.program_names.specs.Named.{texts}
use Rattle.program_names.proofs.NewNames.{one_more}
use Rattle.program_names.proofs.Places.{is_text, known_is, on_ok, texts_push}
use Rattle.program_names.proofs.Items.{one_none}
use Rattle.program_names.proofs.name_places.NamePlaces.add.Goals as goal

unknown : (es : List (Vec ℕ Global × Unit {0})) (key n : Name) (names : List Name) → key ≡ n → texts es ≡ names → among names n ≡ false → lookup (is_text key) es ≡ None
unknown es key n names k e h = one_none _ (known_is key es ∙ ap (among (texts es)) k ∙ ap (λ z. among z n) e ∙ h)

pub invariant_of-self-2 : goal.invariant_of-self-2
invariant_of-self-2 c =
    let key : c.in_ok-key.key.items ≡ c.args.name.now = c.in_ok-key.ensures.items ∙ c.as_slice.ensures in
    let entries =
    on_ok c.insert.result (sym c.if-is_err.false ∙ c.is_err.ensures.value) c.insert.ensures.entries
    ∙ insert_entry-new _ c.self.inside.places c.in_ok-key.key tt (unknown c.self.inside.places.entries c.in_ok-key.key.items c.args.name.now c.args.self.now key c.self.view_is c.requires) in
    ap (λ es. are_distinct (texts es)) entries ∙ ap are_distinct (texts_push c.self.inside.places.entries c.in_ok-key.key c.args.name.now key)
    ∙ one_more (texts c.self.inside.places.entries) c.args.name.now c.self.invariant (ap (λ names. among names c.args.name.now) c.self.view_is ∙ c.requires)

pub returns-clause-ok : goal.returns-clause-ok
returns-clause-ok c =
    let key : c.in_ok-key.key.items ≡ c.args.name.now = c.in_ok-key.ensures.items ∙ c.as_slice.ensures in
    let entries =
    on_ok c.insert.result (sym c.if-is_err.false ∙ c.is_err.ensures.value) c.insert.ensures.entries
    ∙ insert_entry-new _ c.self.inside.places c.in_ok-key.key tt (unknown c.self.inside.places.entries c.in_ok-key.key.items c.args.name.now c.args.self.now key c.self.view_is c.requires) in
    ap texts entries ∙ texts_push c.self.inside.places.entries c.in_ok-key.key c.args.name.now key ∙ ap (λ names. names ++ c.args.name.now ∷ []) c.self.view_is
