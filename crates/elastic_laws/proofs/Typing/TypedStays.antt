-- A typed expression keeps its type in the run of the whole program: where more declarations are in scope, and no index hides
-- a constant.
use Rattle.std.proofs.Common.{◌≡◌, ℕ, Bool, true, false, List, [], ◌∷◌, ◌++◌, map, Option, Some, None, refl, sym, ap, ◌∙◌, true≢false}
use Rattle.std.specs.Prelude.{if◌then◌else◌, is_some, option_map, unwrap_or, find}
use Rattle.elastic_ast.specs.declared.statements.Lval.{Lval}
use Rattle.elastic_ast.specs.declared.statements.Lval.TheVariants as lval
use Rattle.elastic_ast.specs.declared.declarations.Field.{Field}
use Rattle.elastic_ast.specs.Tree.{Name, PlainDecl, PlainExpr}
use Rattle.elastic_ast.specs.Typing.Scope.{same, among, or_else, found, Scope, is_index}
use Rattle.elastic_ast.specs.Typing.LookUps.{constant_in, declared_constant, header_type_in, members_in, members_of, member_name, is_member, fields_of_type, header_fields, meta_in, meta_fields, meta_field, width_among}
use Rattle.elastic_ast.specs.OperatorSorts.{operator_of, sort_of}
use Rattle.elastic_ast.specs.Typing.Types.{Ty, Bare, Names, of_width, part_type, outcome, left_giver, right_giver, turned_type, lval_type, param_width, constant_width, named_type, type_of}
use Rattle.elastic_ast.specs.Typing.Demand.{Known, Indexed, Number, HasWidth, Cut, first_broken}
use Rattle.elastic_ast.specs.Typing.AskedInExpressions.{names_at, asks_index, asks_element, asks_lval, asks_named, turned_giver, asks_turned, asks_sort, asks_expr}
use Rattle.elastic_laws.proofs.Typing.TypedFacts.{parts, head_met}

-- the names at a place, with more declarations before it and no index around
abbrev pub names_among : Scope → List PlainDecl → Names
names_among scope more = record { before = scope.before ++ more; params = scope.params; index = None }

-- what is found among the first declarations is what is found among all
pub found_stays : {A B : Type 0} (f : A → Option B) (xs ys : List A) → is_some (found f xs) ≡ true → found f (xs ++ ys) ≡ found f xs
found_stays f [] ys h = absurd (true≢false (sym h))
found_stays f (x ∷ xs) ys h = by (f x) h (found_stays f xs ys)
  where
    by : (o : Option _) → is_some (or_else o (found f xs)) ≡ true → (is_some (found f xs) ≡ true → found f (xs ++ ys) ≡ found f xs) → or_else o (found f (xs ++ ys)) ≡ or_else o (found f xs)
    by (Some b) h ih = refl
    by None h ih = ih h

module _ (ds more : List PlainDecl) where
  members_stay : (o : Option (List (Name × Name))) → found members_in ds ≡ o → is_some o ≡ true → members_of (ds ++ more) ≡ members_of ds
  members_stay o e h = ap (λ z. unwrap_or z []) (found_stays members_in ds more (ap is_some e ∙ h))

  pub member_stays : (header : Name) → is_member ds header ≡ true → is_member (ds ++ more) header ≡ true
  member_stays header h = by (found members_in ds) refl
    where
      by : (o : Option (List (Name × Name))) → found members_in ds ≡ o → is_member (ds ++ more) header ≡ true
      by None e = absurd (true≢false (sym h ∙ ap (λ z. among (map member_name (unwrap_or z [])) header) e))
      by (Some ms) e = ap (λ z. among (map member_name z) header) (members_stay (Some ms) e refl) ∙ h

  fields_of : Option (Name × Name) → List PlainDecl → List Field
  fields_of member decls = unwrap_or (option_map (λ (m : Name × Name). fields_of_type decls m.0) member) []

  fields_stay : (member : Option (Name × Name)) (field : Name) → is_some (width_among (fields_of member ds) field) ≡ true → fields_of member (ds ++ more) ≡ fields_of member ds
  unfolding fields_of
  fields_stay None field h = absurd (true≢false (sym h))
  fields_stay (Some m) field h = by (found (header_type_in m.0) ds) refl
    where
      by : (o : Option (List Field)) → found (header_type_in m.0) ds ≡ o → fields_of_type (ds ++ more) m.0 ≡ fields_of_type ds m.0
      by None e = absurd (true≢false (sym h ∙ ap (λ z. is_some (width_among (unwrap_or z []) field)) e))
      by (Some fields) e = ap (λ z. unwrap_or z []) (found_stays (header_type_in m.0) ds more (ap is_some e))

  pub header_fields_stay : (header field : Name) → is_some (width_among (header_fields ds header) field) ≡ true → header_fields (ds ++ more) header ≡ header_fields ds header
  unfolding fields_of
  header_fields_stay header field h = by (found members_in ds) refl
    where
      by : (o : Option (List (Name × Name))) → found members_in ds ≡ o → header_fields (ds ++ more) header ≡ header_fields ds header
      by None e = absurd (true≢false (sym h ∙ ap (λ z. is_some (width_among (fields_of (find (λ (member : Name × Name). same header member.1) (unwrap_or z [])) ds) field)) e))
      by (Some ms) e =
          ap (λ z. fields_of (find (λ (member : Name × Name). same header member.1) z) (ds ++ more)) (members_stay (Some ms) e refl)
          ∙ fields_stay (find (λ (member : Name × Name). same header member.1) (members_of ds)) field h

  pub meta_fields_stay : (name : Name) → is_some (meta_field ds name) ≡ true → meta_fields (ds ++ more) ≡ meta_fields ds
  meta_fields_stay name h = by (found meta_in ds) refl
    where
      by : (o : Option (List Field)) → found meta_in ds ≡ o → meta_fields (ds ++ more) ≡ meta_fields ds
      by None e = absurd (true≢false (sym h ∙ ap (λ z. is_some (find (λ (field : Field). same name field.name) (unwrap_or z []))) e))
      by (Some fields) e = ap (λ z. unwrap_or z []) (found_stays meta_in ds more (ap is_some e))

pub field_is : (allow : Bool) (s : Scope) (o : Option Field) (index : Option Name) → first_broken allow (asks_element s o index) ≡ None → is_some o ≡ true
field_is allow s None index h = absurd (true≢false (sym (head_met allow (Known false) (asks_index s index) h).0))
field_is allow s (Some field) index h = refl

pub lval_stays : (allow : Bool) (s : Scope) (more : List PlainDecl) (place : Lval) → first_broken allow (asks_lval s place) ≡ None → lval_type (s.before ++ more) place ≡ lval_type s.before place
lval_stays allow s more (lval.Header header field) h =
    ap (λ z. of_width (width_among z field)) (header_fields_stay s.before more header field (head_met allow (Known (is_some (width_among (header_fields s.before header) field))) [] h).0)
lval_stays allow s more (lval.Meta name index) h =
    ap (λ z. of_width (width_among z name)) (meta_fields_stay s.before more name (field_is allow s (meta_field s.before name) index h))
lval_stays allow s more (lval.Std name) h = refl

pub named_stays : (allow : Bool) (s : Scope) (more : List PlainDecl) (name : Name) → first_broken allow (asks_named s name) ≡ None → named_type (names_among s more) name ≡ named_type (names_at s) name
named_stays allow s more name h = by (param_width s.params name) (is_index s name) h
  where
    constant_stays : is_some (declared_constant s.before name) ≡ true → constant_width (s.before ++ more) name ≡ constant_width s.before name
    constant_stays k = ap (λ z. option_map (λ (constant : ℕ × ℕ). constant.0) z) (found_stays (constant_in name) s.before more k)

    by : (p : Option ℕ) (b : Bool) → first_broken allow (if is_some p then [] else (if b then Indexed false ∷ [] else Known (is_some (declared_constant s.before name)) ∷ [])) ≡ None
        → of_width (or_else p (constant_width (s.before ++ more) name)) ≡ of_width (or_else p (if b then None else constant_width s.before name))
    by (Some w) b k = refl
    by None true k = absurd (true≢false (sym (head_met allow (Indexed false) [] k).0))
    by None false k = ap of_width (constant_stays (head_met allow (Known (is_some (declared_constant s.before name))) [] k).0)

-- the operands of a typed operator are typed at the places that it gives them
pub operands : (allow : Bool) (s : Scope) (op : ℕ) (left right : PlainExpr) (giver : Ty) → first_broken allow (asks_expr s (PlainExpr.Binary op left right) giver) ≡ None
    → (first_broken allow (asks_expr s left (left_giver (sort_of (operator_of op)) (type_of (names_at s) left) (type_of (names_at s) right))) ≡ None)
    × (first_broken allow (asks_expr s right (right_giver (sort_of (operator_of op)) (type_of (names_at s) left) (type_of (names_at s) right))) ≡ None)
    × (first_broken allow (asks_sort (sort_of (operator_of op)) (type_of (names_at s) left) (type_of (names_at s) right)) ≡ None)
operands allow s op left right giver h =
    let sort = sort_of (operator_of op) in
    let a = type_of (names_at s) left in
    let b = type_of (names_at s) right in
    let p = parts allow (asks_expr s left (left_giver sort a b)) (asks_expr s right (right_giver sort a b) ++ asks_sort sort a b) h in
    let q = parts allow (asks_expr s right (right_giver sort a b)) (asks_sort sort a b) p.1 in
    (p.0, q.0, q.1)

pub type_stays : (allow : Bool) (s : Scope) (more : List PlainDecl) (e : PlainExpr) (giver : Ty) → first_broken allow (asks_expr s e giver) ≡ None → type_of (names_among s more) e ≡ type_of (names_at s) e
type_stays allow s more (PlainExpr.Named name) giver h = named_stays allow s more name h
type_stays allow s more (PlainExpr.At place) giver h = lval_stays allow s more place h
type_stays allow s more (PlainExpr.Unary op of) giver h =
    let sort = sort_of (operator_of op) in
    ap (turned_type sort) (type_stays allow s more of (turned_giver sort giver) (parts allow (asks_expr s of (turned_giver sort giver)) (asks_turned sort (type_of (names_at s) of)) h).0)
type_stays allow s more (PlainExpr.Binary op left right) giver h =
    let sort = sort_of (operator_of op) in
    let a = type_of (names_at s) left in
    let b = type_of (names_at s) right in
    let p = operands allow s op left right giver h in
    ap (λ z. outcome sort z (type_of (names_among s more) right)) (type_stays allow s more left (left_giver sort a b) p.0)
    ∙ ap (λ z. outcome sort a z) (type_stays allow s more right (right_giver sort a b) p.1)
type_stays allow s more (PlainExpr.Slice of high low) giver h =
    let t = type_of (names_at s) of in
    ap (part_type high low) (type_stays allow s more of Bare (parts allow (asks_expr s of Bare) (Number t ∷ HasWidth t ∷ Cut high low t ∷ []) h).0)
type_stays allow s more other giver h = refl
