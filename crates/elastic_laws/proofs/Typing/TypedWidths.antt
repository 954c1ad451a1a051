-- The types of expressions: each width is 1 to 128, and the type of a typed expression is known.
use Rattle.std.proofs.Common.{◌≡◌, ℕ, zero, suc, ◌+◌, ◌-◌, ◌≤◌, Bool, true, false, ◌&&◌, List, [], ◌∷◌, ◌++◌, Option, Some, None, refl, sym, ap, ◌∙◌, true≢false, arith}
use Rattle.std.proofs.lemmas.Bool.{and_parts}
use Rattle.std.specs.Prelude.{if◌then◌else◌, Contains, flat_map, find, option_map, is_some, nat_le, nat_lt, ◌==◌}
use Rattle.std.proofs.lemmas.Bool.Decides.{nat_tests}
use Rattle.elastic_ast.specs.declared.statements.Lval.{Lval}
use Rattle.elastic_ast.specs.declared.statements.Lval.TheVariants as lval
use Rattle.elastic_ast.specs.declared.statements.RegRef.{RegRef}
use Rattle.elastic_ast.specs.declared.declarations.Field.{Field}
use Rattle.elastic_ast.specs.declared.declarations.Param.{Param}
use Rattle.elastic_ast.specs.Tree.{Name, PlainDecl, PlainExpr}
use Rattle.elastic_ast.specs.Typing.Scope.{same, or_else, is_name_of, Scope, is_index}
use Rattle.elastic_ast.specs.Typing.LookUps.{declared_constant, header_fields, meta_field, meta_fields, width_among, std_fields, std_width, register_size, register_width}
use Rattle.elastic_ast.specs.OperatorSorts.{operator_of, Sort, Logic, Shift, Joining, Arithmetic, sort_of}
use Rattle.elastic_ast.specs.Typing.Types.{Ty, Bits, Bare, Unknown, Names, is_width, bits_of, number_type, of_width, common_type, both_widths, lie_within, part_type, outcome, left_giver, right_giver, turned_type, lval_type, param_width, constant_width, named_type, type_of}
use Rattle.elastic_ast.specs.Typing.Demand.{Known, Wide, Fits, HasWidth, Number, Indexed, Cut, first_broken}
use Rattle.elastic_ast.specs.Typing.AskedInExpressions.{names_at, turned_giver, asks_turned, asks_cast, asks_sort, asks_lval, asks_named, asks_expr}
use Rattle.elastic_ast.specs.Typing.AskedInStatements.{asks_register_of, register_type}
use Rattle.elastic_ast.specs.Typing.AskedInLocals.{asks_param}
use Rattle.elastic_laws.proofs.Typing.TypedFacts.{wide_bits, parts, head_met, IsMet}
use Rattle.elastic_laws.proofs.Typing.TypedHeaders.{AreWide, GoodHeader, header_good, meta_good, constant_fits, register_wide}
use Rattle.elastic_laws.proofs.Typing.TypedStays.{field_is, operands}
use Rattle.elastic_laws.proofs.Typing.TypedTables.{item_met}
use Rattle.elastic_laws.proofs.Typing.TypedRegisters.{register_known}
use Rattle.elastic_laws.proofs.Typing.TypedSides.{is_known, IsKnown, OneWidth, one_width_of, Joins, join_sides, Cuts, slice_cuts}

-- no type has another width, whether its expression is typed or not
abbrev pub wide : Ty → Bool
wide (Bits width) = is_width width
wide type = true

bits_wide : (width : ℕ) → wide (bits_of width) ≡ true
bits_wide width = by (is_width width) refl
  where
    by : (b : Bool) → is_width width ≡ b → wide (if b then Bits width else Unknown) ≡ true
    by true e = e
    by false e = refl

declared_wide : (width : Option ℕ) → wide (of_width width) ≡ true
declared_wide None = refl
declared_wide (Some width) = bits_wide width

number_wide : (width : Option ℕ) → wide (number_type width) ≡ true
number_wide None = refl
number_wide (Some width) = bits_wide width

place_wide : (ds : List PlainDecl) (place : Lval) → wide (lval_type ds place) ≡ true
place_wide ds (lval.Header header field) = declared_wide (width_among (header_fields ds header) field)
place_wide ds (lval.Meta name index) = declared_wide (width_among (meta_fields ds) name)
place_wide ds (lval.Std name) = declared_wide (std_width name)

sum_wide : (a b : Ty) → wide (both_widths a b) ≡ true
sum_wide (Bits v) (Bits w) = bits_wide (v + w)
sum_wide a b = refl

common_wide : (a b : Ty) → wide a ≡ true → wide b ≡ true → wide (common_type a b) ≡ true
common_wide (Bits v) (Bits w) h k = by (v == w)
  where
    by : (b : Bool) → wide (if b then Bits v else Unknown) ≡ true
    by true = h
    by false = refl
common_wide (Bits v) Bare h k = h
common_wide Bare (Bits w) h k = k
common_wide a b h k = refl

wide_outcome : (s : Sort) (a b : Ty) → wide a ≡ true → wide b ≡ true → wide (outcome s a b) ≡ true
wide_outcome Shift a b h k = h
wide_outcome Joining a b h k = sum_wide a b
wide_outcome Arithmetic a b h k = common_wide a b h k
wide_outcome other a b h k = refl

wide_turned : (s : Sort) (a : Ty) → wide a ≡ true → wide (turned_type s a) ≡ true
wide_turned Logic a h = refl
wide_turned other a h = h

wide_part : (high low : ℕ) (t : Ty) → wide t ≡ true → wide (part_type high low t) ≡ true
wide_part high low (Bits w) h = by (lie_within high low w) refl
  where
    by : (b : Bool) → lie_within high low w ≡ b → wide (if b then Bits (high + 1 - low) else Unknown) ≡ true
    by false e = refl
    by true e =
        let p = and_parts (nat_le low high) (nat_lt high w) e in
        let low_high : nat_le low high ≡ true = p.0 in
        let high_w : nat_lt high w ≡ true = p.1 in
        let w_most : nat_le w 128 ≡ true = (and_parts (nat_le 1 w) (nat_le w 128) h).1 in
        let least : nat_le 1 (high + 1 - low) ≡ true = grind (arith, nat_tests) in
        let most : nat_le (high + 1 - low) 128 ≡ true = grind (arith, nat_tests) in
        ap (λ b. b && nat_le (high + 1 - low) 128) least ∙ most
wide_part high low other h = refl

pub all_wide : (names : Names) (e : PlainExpr) → wide (type_of names e) ≡ true
all_wide names (PlainExpr.Num width number) = number_wide width
all_wide names (PlainExpr.Named name) = declared_wide (or_else (param_width names.params name) (if is_name_of names.index name then None else constant_width names.before name))
all_wide names (PlainExpr.At place) = place_wide names.before place
all_wide names (PlainExpr.Unary op of) = wide_turned (sort_of (operator_of op)) (type_of names of) (all_wide names of)
all_wide names (PlainExpr.Binary op left right) = wide_outcome (sort_of (operator_of op)) (type_of names left) (type_of names right) (all_wide names left) (all_wide names right)
all_wide names (PlainExpr.Cast width of) = bits_wide width
all_wide names (PlainExpr.Slice of high low) = wide_part high low (type_of names of) (all_wide names of)
all_wide names other = refl

-- what the declarations before a place ask is met, and so is what the parameters around it ask
pub record GoodScope (allow : Bool) (s : Scope) : Type 0 where
  pub before : IsMet allow s.before
  pub params : first_broken allow (flat_map asks_param s.params) ≡ None

asked_known : (width : ℕ) → is_width width ≡ true → IsKnown (bits_of width)
asked_known width h = ap is_known (wide_bits width h)

bits_known : (width : ℕ) → (1 ≤ width) × (width ≤ 128) → IsKnown (bits_of width)
bits_known width h =
    let a : 1 ≤ width = h.0 in
    let b : width ≤ 128 = h.1 in
    let first : nat_le 1 width ≡ true = grind (arith, nat_tests) in
    let second : nat_le width 128 ≡ true = grind (arith, nat_tests) in
    asked_known width (ap (λ z. z && nat_le width 128) first ∙ second)

-- a look-up by `find` gives an element
find_in : {A : Type 0} (f : A → Bool) (xs : List A) (x : A) → find f xs ≡ Some x → Contains xs x
find_in f [] x h = cc
find_in f (y ∷ ys) x h = by (f y) refl h (find_in f ys x)
  where
    by : (b : Bool) → f y ≡ b → (if b then Some y else find f ys) ≡ Some x → (find f ys ≡ Some x → Contains ys x) → Contains (y ∷ ys) x
    by true e k ih = let s : y ≡ x = cc in (0, omega arith, s)
    by false e k ih = let c : Contains ys x = ih k in (suc c.0, omega (arith, c.1), c.2)

is_mapped : {A B : Type 0} (f : A → B) (o : Option A) → is_some (option_map f o) ≡ true → is_some o ≡ true
is_mapped f None h = h
is_mapped f (Some x) h = refl

field_known : (fields : List Field) → AreWide fields → (name : Name) → is_some (find (λ (field : Field). same name field.name) fields) ≡ true → IsKnown (of_width (width_among fields name))
field_known fields h name = by (find (λ (field : Field). same name field.name) fields) refl
  where
    by : (o : Option Field) → find (λ (field : Field). same name field.name) fields ≡ o → is_some o ≡ true → IsKnown (of_width (option_map (λ (field : Field). field.width) o))
    by None e k = cc
    by (Some field) e k = bits_known field.width (h field (find_in (λ (field : Field). same name field.name) fields field e))

std_known : (name : Name) → is_some (std_width name) ≡ true → IsKnown (of_width (std_width name))
unfolding std_fields
std_known name = by (find (λ (field : Name × ℕ). same name field.0) std_fields) refl
  where
    by : (o : Option (Name × ℕ)) → find (λ (field : Name × ℕ). same name field.0) std_fields ≡ o → is_some (option_map (λ (field : Name × ℕ). field.1) o) ≡ true
        → IsKnown (of_width (option_map (λ (field : Name × ℕ). field.1) o))
    by None e k = cc
    by (Some field) e k = asked_known field.1 (among field (find_in (λ (field : Name × ℕ). same name field.0) std_fields field e))
      where
        among : (field : Name × ℕ) → Contains std_fields field → is_width field.1 ≡ true
        among field (zero, k, f) = ap (λ (z : Name × ℕ). is_width z.1) (sym f)
        among field (suc zero, k, f) = ap (λ (z : Name × ℕ). is_width z.1) (sym f)
        among field (suc (suc zero), k, f) = ap (λ (z : Name × ℕ). is_width z.1) (sym f)
        among field (suc (suc (suc i)), k, f) = absurd (omega arith)

-- what has a size as a register has a width as one
width_too : (name : Name) (ds : List PlainDecl) → is_some (register_size ds name) ≡ true → is_some (register_width ds name) ≡ true
width_too name [] h = h
width_too name (PlainDecl.Register register width cells size ∷ ds) h = by (same name register) (width_too name ds) h
  where
    by : (b : Bool) → (is_some (register_size ds name) ≡ true → is_some (register_width ds name) ≡ true) → is_some (or_else (if b then Some size else None) (register_size ds name)) ≡ true
        → is_some (or_else (if b then Some width else None) (register_width ds name)) ≡ true
    by true ih k = refl
    by false ih k = ih k
width_too name (other ∷ ds) h = width_too name ds h

module _ (allow : Bool) (s : Scope) (good : GoodScope allow s) where
  pub place_known : (place : Lval) → first_broken allow (asks_lval s place) ≡ None → IsKnown (lval_type s.before place)
  place_known (lval.Header header field) h =
      let g : GoodHeader (header_fields s.before header) = header_good allow s.before good.before header in
      let there = (head_met allow (Known (is_some (width_among (header_fields s.before header) field))) [] h).0 in
      field_known (header_fields s.before header) g.wide field (is_mapped (λ (f : Field). f.width) (find (λ (f : Field). same field f.name) (header_fields s.before header)) there)
  place_known (lval.Meta name index) h = field_known (meta_fields s.before) (meta_good allow s.before good.before).1 name (field_is allow s (meta_field s.before name) index h)
  place_known (lval.Std name) h = std_known name (head_met allow (Known (is_some (std_width name))) [] h).0

  constant_known : (name : Name) (constant : Option (ℕ × ℕ)) → declared_constant s.before name ≡ constant → is_some constant ≡ true → IsKnown (of_width (option_map (λ (constant : ℕ × ℕ). constant.0) constant))
  constant_known name None e k = cc
  constant_known name (Some constant) e k = let f = constant_fits allow s.before good.before name constant e in bits_known constant.0 (f.0, f.1)

  pub named_known : (name : Name) → first_broken allow (asks_named s name) ≡ None → IsKnown (named_type (names_at s) name)
  named_known name h = by (find (λ (param : Param). same name param.name) s.params) refl (is_index s name) h
    where
      by : (o : Option Param) → find (λ (param : Param). same name param.name) s.params ≡ o → (b : Bool)
          → first_broken allow (if is_some (option_map (λ (param : Param). param.width) o) then [] else (if b then Indexed false ∷ [] else Known (is_some (declared_constant s.before name)) ∷ [])) ≡ None
          → IsKnown (of_width (or_else (option_map (λ (param : Param). param.width) o) (if b then None else constant_width s.before name)))
      by (Some param) e b k =
          let c = find_in (λ (param : Param). same name param.name) s.params param e in
          asked_known param.width (head_met allow (Wide param.width) [] (item_met allow asks_param s.params good.params param c)).0
      by None e true k = absurd (true≢false (sym (head_met allow (Indexed false) [] k).0))
      by None e false k = constant_known name (declared_constant s.before name) refl (head_met allow (Known (is_some (declared_constant s.before name))) [] k).0

  -- a register that is declared has cells of a width
  pub cells_known : (register : RegRef) → first_broken allow (asks_register_of s register) ≡ None → IsKnown (register_type s register)
  cells_known register h = by (register_width s.before register.name) refl (width_too register.name s.before (register_known allow s (register_size s.before register.name) register.index h))
    where
      by : (o : Option ℕ) → register_width s.before register.name ≡ o → is_some o ≡ true → IsKnown (of_width o)
      by None e k = cc
      by (Some width) e k = bits_known width (register_wide allow s.before good.before register.name width e)

known_outcome : (allow : Bool) (s : Sort) (a b : Ty) → IsKnown a → IsKnown b → first_broken allow (asks_sort s a b) ≡ None → IsKnown (outcome s a b)
known_outcome allow Shift a b i j h = i
known_outcome allow Joining a b i j h =
    let o : Joins a b = join_sides allow a b i j h in
    ap (λ z. is_known (both_widths z b)) o.left ∙ ap (λ z. is_known (both_widths (Bits o.high) z)) o.right ∙ bits_known (o.high + o.low) (o.least, o.most)
known_outcome allow Arithmetic a b i j h = let o : OneWidth a b = one_width_of allow a b i j h in ap is_known o.given
known_outcome allow other a b i j h = refl

known_turned : (s : Sort) (a : Ty) → IsKnown a → IsKnown (turned_type s a)
known_turned Logic a i = refl
known_turned other a i = i

-- the type of a typed expression is known
pub typed_known : (allow : Bool) (s : Scope) → GoodScope allow s → (e : PlainExpr) (giver : Ty) → first_broken allow (asks_expr s e giver) ≡ None → IsKnown (type_of (names_at s) e)
typed_known allow s good (PlainExpr.Num (Some width) number) giver h = asked_known width (head_met allow (Wide width) (Fits number (bits_of width) ∷ []) h).0
typed_known allow s good (PlainExpr.Named name) giver h = named_known allow s good name h
typed_known allow s good (PlainExpr.At place) giver h = place_known allow s good place h
typed_known allow s good (PlainExpr.Unary op of) giver h =
    let sort = sort_of (operator_of op) in
    known_turned sort (type_of (names_at s) of) (typed_known allow s good of (turned_giver sort giver) (parts allow (asks_expr s of (turned_giver sort giver)) (asks_turned sort (type_of (names_at s) of)) h).0)
typed_known allow s good (PlainExpr.Binary op left right) giver h =
    let sort = sort_of (operator_of op) in
    let a = type_of (names_at s) left in
    let b = type_of (names_at s) right in
    let p = operands allow s op left right giver h in
    known_outcome allow sort a b (typed_known allow s good left (left_giver sort a b) p.0) (typed_known allow s good right (right_giver sort a b) p.1) p.2
typed_known allow s good (PlainExpr.Cast width of) giver h =
    asked_known width (head_met allow (Wide width) (asks_expr s of (bits_of width) ++ asks_cast width (type_of (names_at s) of)) h).0
typed_known allow s good (PlainExpr.Slice of high low) giver h =
    let t = type_of (names_at s) of in
    let known = typed_known allow s good of Bare (parts allow (asks_expr s of Bare) (Number t ∷ HasWidth t ∷ Cut high low t ∷ []) h).0 in
    let c : Cuts high low t = slice_cuts allow s of high low giver known h in
    ap (λ z. is_known (part_type high low z)) c.is ∙ ap (λ b. is_known (if b then Bits (high + 1 - low) else Unknown)) c.lie
typed_known allow s good other giver h = refl
