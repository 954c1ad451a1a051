-- The types of the operands of a typed operator, as widths: what operations on bits want of their operands. A typed operand has
-- a known type (`TypedWidths.antt`).
use Rattle.std.proofs.Common.{◌≡◌, ℕ, ◌+◌, ◌<◌, ◌≤◌, Bool, true, false, ◌&&◌, [], ◌∷◌, None, refl, sym, ap, arith}
use Rattle.std.specs.Prelude.{if◌then◌else◌, nat_le, nat_lt, ◌==◌}
use Rattle.std.proofs.lemmas.Bool.Decides.{nat_tests}
use Rattle.elastic_ast.specs.Tree.{PlainExpr}
use Rattle.elastic_ast.specs.Typing.Scope.{Scope}
use Rattle.elastic_ast.specs.OperatorSorts.{Logic, Comparison, Shift, Joining, Arithmetic}
use Rattle.elastic_ast.specs.Typing.Types.{Ty, Bits, Bare, Unknown, lie_within, taking, common_type, type_of, type_at}
use Rattle.elastic_ast.specs.Typing.Demand.{Alike, HasWidth, Number, Boolean, Wide, Cut, met, first_broken}
use Rattle.elastic_ast.specs.Typing.AskedInExpressions.{names_at, asks_sort, asks_sum, asks_expr, asks_bits, asks_truth}
use Rattle.elastic_laws.proofs.Typing.TypedFacts.{wide_is, parts, head_met}

same_width : (v w : ℕ) → (v == w) ≡ true → v ≡ w
same_width v w h = grind (arith, nat_tests)

abbrev pub is_known : Ty → Bool
is_known Unknown = false
is_known type = true

abbrev pub IsKnown : Ty → Type 0
IsKnown type = is_known type ≡ true

-- both sides have one width, each at the place that the other gives it, and so has what they give
pub record OneWidth (a b : Ty) : Type 0 where
  pub width : ℕ
  pub left : taking a b ≡ Bits width
  pub right : taking b a ≡ Bits width
  pub given : common_type a b ≡ Bits width

alike_sides : (allow : Bool) (a b : Ty) → IsKnown a → IsKnown b → met allow (Number a) ≡ true → met allow (Number b) ≡ true → met allow (HasWidth (taking a b)) ≡ true → met allow (Alike a b) ≡ true → OneWidth a b
alike_sides allow (Bits v) (Bits w) i j n m h k = record { width = v; left = refl; right = ap Bits (sym (same_width v w k)); given = ap (λ z. if z then Bits v else Unknown) k }
alike_sides allow (Bits v) Bare i j n m h k = record { width = v; left = refl; right = refl; given = refl }
alike_sides allow Bare (Bits w) i j n m h k = record { width = w; left = refl; right = refl; given = refl }
alike_sides allow a b i j n m h k = cc

pub one_width_of : (allow : Bool) (a b : Ty) → IsKnown a → IsKnown b → first_broken allow (asks_sort Arithmetic a b) ≡ None → OneWidth a b
one_width_of allow a b i j h =
    let p = head_met allow (Number a) (Number b ∷ HasWidth (taking a b) ∷ Alike a b ∷ []) h in
    let q = head_met allow (Number b) (HasWidth (taking a b) ∷ Alike a b ∷ []) p.1 in
    let r = head_met allow (HasWidth (taking a b)) (Alike a b ∷ []) q.1 in
    alike_sides allow a b i j p.0 q.0 r.0 (head_met allow (Alike a b) [] r.1).0

pub one_width_of_compared : (allow : Bool) (a b : Ty) → IsKnown a → IsKnown b → first_broken allow (asks_sort Comparison a b) ≡ None → OneWidth a b
one_width_of_compared allow a b i j h = one_width_of allow a b i j h

-- what is no boolean and has a width is bits
pub record IsBits (a : Ty) : Type 0 where
  pub width : ℕ
  pub is : a ≡ Bits width

bits_told : (allow : Bool) (a : Ty) → IsKnown a → met allow (Number a) ≡ true → met allow (HasWidth a) ≡ true → IsBits a
bits_told allow (Bits w) i n h = record { width = w; is = refl }
bits_told allow other i n h = cc

amount_of : (allow : Bool) (a b : Ty) → IsKnown b → met allow (Number b) ≡ true → IsBits a → IsBits (taking b a)
amount_of allow a (Bits w) j n i = record { width = w; is = refl }
amount_of allow a Bare j n i = i
amount_of allow a other j n i = cc

-- the left operand of a shift is bits, and so is the amount at its place
pub shift_sides : (allow : Bool) (a b : Ty) → IsKnown a → IsKnown b → first_broken allow (asks_sort Shift a b) ≡ None → IsBits a × IsBits (taking b a)
shift_sides allow a b i j h =
    let p = head_met allow (Number a) (Number b ∷ HasWidth a ∷ []) h in
    let q = head_met allow (Number b) (HasWidth a ∷ []) p.1 in
    let left = bits_told allow a i p.0 (head_met allow (HasWidth a) [] q.1).0 in
    (left, amount_of allow a b j q.0 left)

-- the operands of `++` are bits, whose widths add up to a width
pub record Joins (a b : Ty) : Type 0 where
  pub high : ℕ
  pub low : ℕ
  pub left : a ≡ Bits high
  pub right : b ≡ Bits low
  pub least : 1 ≤ high + low
  pub most : high + low ≤ 128

join_of : (allow : Bool) (a b : Ty) → IsKnown a → IsKnown b → met allow (Number a) ≡ true → met allow (Number b) ≡ true → met allow (HasWidth a) ≡ true → met allow (HasWidth b) ≡ true → first_broken allow (asks_sum a b) ≡ None → Joins a b
join_of allow (Bits v) (Bits w) i j n m h k s = let p = wide_is (v + w) (head_met allow (Wide (v + w)) [] s).0 in record { high = v; low = w; left = refl; right = refl; least = p.0; most = p.1 }
join_of allow a b i j n m h k s = cc

pub join_sides : (allow : Bool) (a b : Ty) → IsKnown a → IsKnown b → first_broken allow (asks_sort Joining a b) ≡ None → Joins a b
join_sides allow a b i j h =
    let p = head_met allow (Number a) (Number b ∷ HasWidth a ∷ HasWidth b ∷ asks_sum a b) h in
    let q = head_met allow (Number b) (HasWidth a ∷ HasWidth b ∷ asks_sum a b) p.1 in
    let r = head_met allow (HasWidth a) (HasWidth b ∷ asks_sum a b) q.1 in
    let s = head_met allow (HasWidth b) (asks_sum a b) r.1 in
    join_of allow a b i j p.0 q.0 r.0 s.0 s.1

truth_of : (allow : Bool) (a : Ty) → IsKnown a → met allow (Boolean a) ≡ true → a ≡ Ty.Truth
truth_of allow Ty.Truth i h = refl
truth_of allow other i h = cc

-- the operands of `&&` and `||` are booleans
pub logic_sides : (allow : Bool) (a b : Ty) → IsKnown a → IsKnown b → first_broken allow (asks_sort Logic a b) ≡ None → (a ≡ Ty.Truth) × (b ≡ Ty.Truth)
logic_sides allow a b i j h =
    let p = head_met allow (Boolean a) (Boolean b ∷ []) h in
    (truth_of allow a i p.0, truth_of allow b j (head_met allow (Boolean b) [] p.1).0)

-- what a slice is of has more bits than its ends say
pub record Cuts (high low : ℕ) (a : Ty) : Type 0 where
  pub width : ℕ
  pub is : a ≡ Bits width
  pub lie : lie_within high low width ≡ true
  pub ends : low ≤ high
  pub within : high < width

cut_of : (allow : Bool) (high low : ℕ) (a : Ty) → IsKnown a → met allow (Number a) ≡ true → met allow (HasWidth a) ≡ true → met allow (Cut high low a) ≡ true → Cuts high low a
cut_of allow high low (Bits w) i n h c = record { width = w; is = refl; lie = c; ends = ends (left (nat_le low high) (nat_lt high w) c); within = within (right (nat_le low high) (nat_lt high w) c) }
  where
    left : (a b : Bool) → (a && b) ≡ true → a ≡ true
    left true b k = refl
    left false b k = cc

    right : (a b : Bool) → (a && b) ≡ true → b ≡ true
    right true b k = k
    right false b k = cc

    ends : nat_le low high ≡ true → low ≤ high
    ends k = grind (arith, nat_tests)

    within : nat_lt high w ≡ true → high < w
    within k = grind (arith, nat_tests)
cut_of allow high low other i n h c = cc

pub slice_cuts : (allow : Bool) (s : Scope) (of : PlainExpr) (high low : ℕ) (giver : Ty) → IsKnown (type_of (names_at s) of) → first_broken allow (asks_expr s (PlainExpr.Slice of high low) giver) ≡ None → Cuts high low (type_of (names_at s) of)
slice_cuts allow s of high low giver i h =
    let t = type_of (names_at s) of in
    let p = head_met allow (Number t) (HasWidth t ∷ Cut high low t ∷ []) (parts allow (asks_expr s of Bare) (Number t ∷ HasWidth t ∷ Cut high low t ∷ []) h).1 in
    let q = head_met allow (HasWidth t) (Cut high low t ∷ []) p.1 in
    cut_of allow high low t i p.0 q.0 (head_met allow (Cut high low t) [] q.1).0

-- an expression where bits of a width are wanted has this width there
at_width : (allow : Bool) (a : Ty) (width : ℕ) → IsKnown a → met allow (Number a) ≡ true → met allow (Alike a (Bits width)) ≡ true → taking a (Bits width) ≡ Bits width
at_width allow (Bits v) width i n k = ap Bits (same_width v width k)
at_width allow Bare width i n k = refl
at_width allow other width i n k = cc

pub bits_at_width : (allow : Bool) (s : Scope) (e : PlainExpr) (width : ℕ) → IsKnown (type_of (names_at s) e) → first_broken allow (asks_bits s e (Bits width)) ≡ None → type_at (names_at s) e (Bits width) ≡ Bits width
bits_at_width allow s e width i h =
    let t = type_of (names_at s) e in
    let p = head_met allow (Number t) (Alike t (Bits width) ∷ []) (parts allow (asks_expr s e (Bits width)) (Number t ∷ Alike t (Bits width) ∷ []) h).1 in
    at_width allow t width i p.0 (head_met allow (Alike t (Bits width)) [] p.1).0

-- a condition is a boolean
pub truth_is : (allow : Bool) (s : Scope) (e : PlainExpr) → IsKnown (type_of (names_at s) e) → first_broken allow (asks_truth s e) ≡ None → type_of (names_at s) e ≡ Ty.Truth
truth_is allow s e i h = let t = type_of (names_at s) e in truth_of allow t i (head_met allow (Boolean t) [] (parts allow (asks_expr s e Bare) (Boolean t ∷ []) h).1).0
