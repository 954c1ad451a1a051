-- The rows that are added for comparisons: which they are, and that they are short.
use Rattle.std.proofs.lemmas.Bool.{and_parts}
use Rattle.std.proofs.Common.{◌≡◌, ℕ, ◌+◌, ◌*◌, ◌≤◌, ◌&&◌, true, false, List, [], ◌∷◌, ◌++◌, map, flat_map, length, refl, sym, ap, subst, ◌∙◌, arith, append_assoc, ℤ, pos, ◌+ℤ◌, neg_ℤ}
use Rattle.std.specs.Prelude.{Result, Ok, Err, OnOk, unsigned_abs, nat_le}
use Rattle.std.specs.List.{list_all}
use Rattle.std.proofs.lemmas.Int.{ints}
use Rattle.std.proofs.lemmas.Bool.Decides.{nat_tests}
use Rattle.std.proofs.lemmas.Grind.{flat_map-append}
use Rattle.std.proofs.lemmas.List.{append-nil, length-map}
use Rattle.std.proofs.lemmas.List.Elements.{All-nil, All-cons, All-append}
use Rattle.std.proofs.lemmas.List.FromFn.{length-map-range_with_len}
use Rattle.elastic_ast.specs.declared.declarations.Comp.{Comp}
use Rattle.elastic_ast.specs.declared.declarations.LinTerm.{LinTerm}
use Rattle.elastic_ast.specs.declared.declarations.Rel.{Rel}
use Rattle.elastic_ast.specs.declared.declarations.Rel.TheVariants as rel
use Rattle.elastic_ast.specs.declared.flat.Linear.{Linear}
use Rattle.elastic_ast.specs.Tree.{Name}
use Rattle.elastic_ast.specs.Sizes.SizeSums.{sum_value, negated_if}
use Rattle.size_terms.specs.declared.sums.Sum.{Sum}
use Rattle.size_terms.specs.Rows.{dot, coefficient_weight, IsShort}
use Rattle.size_terms.specs.Coefficients.{coefficient, constant_of, row_below, compared_rows, rows_of_comp}
use Rattle.size_terms.specs.Growth.{is_near, Grows, IsZero, Negates}
use Rattle.size_terms.specs.Building.{is_short, IsDifference, row_of_sum, rows_of_sum, RowsShort, AddsComps}
use Rattle.size_terms.proofs.TermLaws.{abs_neg, weight_neg}
use Rattle.size_terms.proofs.DotLaws.{same_coefficients, same_constant}
use Rattle.size_terms.proofs.CoefficientLaws.{places_of, differences, difference_dot}

-- a row is its coefficients and its right side
pub same_row : (row : Linear) (by : List ℤ) (most : ℤ) → row.by ≡ by → row.most ≡ most → row ≡ record { by = by; most = most }
same_row row by most p q = ap (λ z. let other : Linear = record { by = z; most = row.most } in other) p ∙ ap (λ z. let other : Linear = record { by = by; most = z } in other) q

-- a row is short where its sum is
abs_near : (more : ℕ) (k : ℤ) → more ≤ 1 → unsigned_abs (neg_ℤ k +ℤ neg_ℤ (pos more)) ≤ unsigned_abs k + 1
abs_near more k h = grind (arith, ints)

row_short : (more : ℕ) (by : List ℤ) (k : ℤ) → more ≤ 1 → coefficient_weight by + unsigned_abs k ≤ 64000000000 → IsShort (length by) by (neg_ℤ k +ℤ neg_ℤ (pos more))
row_short more by k m h = record {
  dense = refl;
  small = omega arith;
  near = let u = abs_near more k m in omega (arith, u, h);
}

turned_short : (more : ℕ) (by : List ℤ) (k : ℤ) → more ≤ 1 → coefficient_weight by + unsigned_abs k ≤ 64000000000 → IsShort (length by) (map neg_ℤ by) (neg_ℤ (neg_ℤ k) +ℤ neg_ℤ (pos more))
turned_short more by k m h =
    subst (λ (n : ℕ). IsShort n (map neg_ℤ by) (neg_ℤ (neg_ℤ k) +ℤ neg_ℤ (pos more))) (length-map by neg_ℤ)
    (row_short more (map neg_ℤ by) (neg_ℤ k) m (let u = weight_neg by in let v = abs_neg k in omega (arith, u, v, h)))

one : (n : ℕ) (row : Linear) → IsShort n row.by row.most → RowsShort n (row ∷ [])
one n row h = All-cons (λ other. IsShort n other.by other.most) row [] h (All-nil (λ other. IsShort n other.by other.most))

rows_short : (r : Rel) (by : List ℤ) (k : ℤ) → coefficient_weight by + unsigned_abs k ≤ 64000000000 → RowsShort (length by) (rows_of_sum r by k)
rows_short rel.Le by k h = one (length by) (row_of_sum 0 by k) (row_short 0 by k (omega arith) h)
rows_short rel.Lt by k h = one (length by) (row_of_sum 1 by k) (row_short 1 by k (omega arith) h)
rows_short rel.Ge by k h = one (length by) (row_of_sum 0 (map neg_ℤ by) (neg_ℤ k)) (turned_short 0 by k (omega arith) h)
rows_short rel.Gt by k h = one (length by) (row_of_sum 1 (map neg_ℤ by) (neg_ℤ k)) (turned_short 1 by k (omega arith) h)
rows_short rel.Eq by k h = All-cons (λ row. IsShort (length by) row.by row.most) (row_of_sum 0 by k) (row_of_sum 0 (map neg_ℤ by) (neg_ℤ k) ∷ []) (row_short 0 by k (omega arith) h) (one (length by) (row_of_sum 0 (map neg_ℤ by) (neg_ℤ k)) (turned_short 0 by k (omega arith) h))

-- the rows of a sum with its sign turned
row_turned : (more : ℕ) (sum other : Sum) → Negates sum other → row_of_sum more other.by.items other.constant ≡ row_of_sum more (map neg_ℤ sum.by.items) (neg_ℤ sum.constant)
row_turned more sum other n = ap (λ z. row_of_sum more z other.constant) n.by ∙ ap (row_of_sum more (map neg_ℤ sum.by.items)) n.constant

pub added_turned : (more : ℕ) (sum other : Sum) (old new : List Linear) → Negates sum other → new ≡ old ++ row_of_sum more other.by.items other.constant ∷ [] → new ≡ old ++ row_of_sum more (map neg_ℤ sum.by.items) (neg_ℤ sum.constant) ∷ []
added_turned more sum other old new n e = e ∙ ap (λ row. old ++ row ∷ []) (row_turned more sum other n)

pub added_both : (sum other : Sum) (old middle new : List Linear) → Negates sum other → middle ≡ old ++ row_of_sum 0 sum.by.items sum.constant ∷ [] → new ≡ middle ++ row_of_sum 0 other.by.items other.constant ∷ [] → new ≡ old ++ rows_of_sum rel.Eq sum.by.items sum.constant
added_both sum other old middle new n d e =
    added_turned 0 sum other middle new n e ∙ ap (λ z. z ++ row_of_sum 0 (map neg_ℤ sum.by.items) (neg_ℤ sum.constant) ∷ []) d
    ∙ append_assoc old (row_of_sum 0 sum.by.items sum.constant ∷ []) (row_of_sum 0 (map neg_ℤ sum.by.items) (neg_ℤ sum.constant) ∷ [])

-- the rows of a difference are those of its comparison
turned_places : (symbols : List Name) (left right : List LinTerm) (places : List ℕ)
    → map neg_ℤ (map (λ place. coefficient symbols left place +ℤ neg_ℤ (coefficient symbols right place)) places) ≡ map (λ place. coefficient symbols right place +ℤ neg_ℤ (coefficient symbols left place)) places
turned_places symbols left right [] = refl
turned_places symbols left right (p ∷ places) =
    ap (λ z. z ∷ map neg_ℤ (map (λ place. coefficient symbols left place +ℤ neg_ℤ (coefficient symbols right place)) places)) (swapped (coefficient symbols left p) (coefficient symbols right p))
    ∙ ap (λ z. (coefficient symbols right p +ℤ neg_ℤ (coefficient symbols left p)) ∷ z) (turned_places symbols left right places)
  where
    swapped : (a b : ℤ) → neg_ℤ (a +ℤ neg_ℤ b) ≡ b +ℤ neg_ℤ a
    swapped a b = omega (arith, ints)

row_same : (more : ℕ) (symbols : List Name) (left right : List LinTerm) → row_of_sum more (differences symbols left right) (constant_of left +ℤ neg_ℤ (constant_of right)) ≡ row_below more symbols left right
row_same more symbols left right =
    same_row (row_of_sum more (differences symbols left right) (constant_of left +ℤ neg_ℤ (constant_of right))) (differences symbols left right) ((constant_of right +ℤ neg_ℤ (constant_of left)) +ℤ neg_ℤ (pos more)) refl (omega (arith, ints))

row_other : (more : ℕ) (symbols : List Name) (left right : List LinTerm) → row_of_sum more (map neg_ℤ (differences symbols left right)) (neg_ℤ (constant_of left +ℤ neg_ℤ (constant_of right))) ≡ row_below more symbols right left
row_other more symbols left right =
    ap (λ z. row_of_sum more z (neg_ℤ (constant_of left +ℤ neg_ℤ (constant_of right)))) (turned_places symbols left right (places_of symbols))
    ∙ ap (row_of_sum more (differences symbols right left)) (swapped (constant_of left) (constant_of right)) ∙ row_same more symbols right left
  where
    swapped : (a b : ℤ) → neg_ℤ (a +ℤ neg_ℤ b) ≡ b +ℤ neg_ℤ a
    swapped a b = omega (arith, ints)

rows_same : (r : Rel) (symbols : List Name) (left right : List LinTerm) → rows_of_sum r (differences symbols left right) (constant_of left +ℤ neg_ℤ (constant_of right)) ≡ compared_rows symbols r left right
rows_same rel.Le symbols left right = ap (λ row. row ∷ []) (row_same 0 symbols left right)
rows_same rel.Lt symbols left right = ap (λ row. row ∷ []) (row_same 1 symbols left right)
rows_same rel.Ge symbols left right = ap (λ row. row ∷ []) (row_other 0 symbols left right)
rows_same rel.Gt symbols left right = ap (λ row. row ∷ []) (row_other 1 symbols left right)
rows_same rel.Eq symbols left right =
    ap (λ row. row ∷ row_of_sum 0 (map neg_ℤ (differences symbols left right)) (neg_ℤ (constant_of left +ℤ neg_ℤ (constant_of right))) ∷ []) (row_same 0 symbols left right)
    ∙ ap (λ row. row_below 0 symbols left right ∷ row ∷ []) (row_other 0 symbols left right)

same_worth : (symbols : List Name) (comp : Comp) (sum : Sum) → IsDifference symbols comp sum
    → (sizes : List ℕ) → dot sum.by.items sizes +ℤ sum.constant ≡ dot (differences symbols comp.left comp.right) sizes +ℤ (constant_of comp.left +ℤ neg_ℤ (constant_of comp.right))
same_worth symbols comp sum d sizes = d.worth sizes ∙ sym (difference_dot symbols sizes comp.left comp.right)

difference_rows : (symbols : List Name) (comp : Comp) (sum : Sum) → IsDifference symbols comp sum → rows_of_sum comp.rel sum.by.items sum.constant ≡ rows_of_comp symbols comp
difference_rows symbols comp sum d =
    let by : sum.by.items ≡ differences symbols comp.left comp.right = same_coefficients _ _ _ _ (d.dense ∙ sym (length-map-range_with_len _ 0 (length symbols))) (same_worth symbols comp sum d) in
    let constant : sum.constant ≡ constant_of comp.left +ℤ neg_ℤ (constant_of comp.right) = same_constant _ _ _ _ (same_worth symbols comp sum d) in
    ap (λ z. rows_of_sum comp.rel z sum.constant) by ∙ ap (rows_of_sum comp.rel (differences symbols comp.left comp.right)) constant ∙ rows_same comp.rel symbols comp.left comp.right

pub adds_comp : (symbols : List Name) (comp : Comp) (sum : Sum) (old new : List Linear) → IsDifference symbols comp sum → new ≡ old ++ rows_of_sum comp.rel sum.by.items sum.constant → AddsComps symbols old new (comp ∷ [])
adds_comp symbols comp sum old new d e = record {
  added = e ∙ ap (λ z. old ++ z) (difference_rows symbols comp sum d ∙ sym (append-nil (rows_of_comp symbols comp)));
  short = λ h.
      let rows : RowsShort (length symbols) (rows_of_sum comp.rel sum.by.items sum.constant) = subst (λ (n : ℕ). RowsShort n (rows_of_sum comp.rel sum.by.items sum.constant)) d.dense (rows_short comp.rel sum.by.items sum.constant d.bulky) in
      subst (RowsShort (length symbols)) (sym e) (All-append (λ row. IsShort (length symbols) row.by row.most) old (rows_of_sum comp.rel sum.by.items sum.constant) h rows);
}

-- more comparisons
pub adds_both : (symbols : List Name) (a b c : List Linear) (xs ys zs : List Comp) → zs ≡ xs ++ ys → AddsComps symbols a b xs → AddsComps symbols b c ys → AddsComps symbols a c zs
adds_both symbols a b c xs ys zs e p q = record {
  added =
      q.added ∙ ap (λ z. z ++ flat_map (rows_of_comp symbols) ys) p.added ∙ append_assoc a (flat_map (rows_of_comp symbols) xs) (flat_map (rows_of_comp symbols) ys)
      ∙ ap (λ z. a ++ z) (sym (flat_map-append (rows_of_comp symbols) xs ys) ∙ ap (flat_map (rows_of_comp symbols)) (sym e));
  short = λ h. q.short (p.short h);
}

-- after a step that may fail
pub on_pushed : {T E P Q : Type 0} (r : Result T E) → OnOk r P → (P → Q) → OnOk r Q
on_pushed (Ok x) h f = f h
on_pushed (Err e) h f = h

short_few : (comp : Comp) → is_short comp ≡ true → length comp.left + length comp.right ≤ 64
short_few comp h = let e : nat_le (length comp.left + length comp.right) 64 ≡ true = (and_parts (nat_le (length comp.left + length comp.right) 64) (list_all is_near comp.left && list_all is_near comp.right) h).0 in grind (arith, nat_tests)

-- the two sides of a comparison
pub difference_is : (symbols : List Name) (comp : Comp) (nothing middle sum : Sum) → IsZero nothing (length symbols) → is_short comp ≡ true → Grows nothing middle (λ sizes. negated_if false (sum_value symbols sizes comp.left)) (1000000000 * length comp.left)
    → Grows middle sum (λ sizes. negated_if true (sum_value symbols sizes comp.right)) (1000000000 * length comp.right) → IsDifference symbols comp sum
difference_is symbols comp nothing middle sum z short left right = record {
  worth = λ sizes. let a = z.worth sizes in let b = left.worth sizes in let c = right.worth sizes in omega (arith, ints, a, b, c);
  dense = right.dense ∙ left.dense ∙ z.dense;
  bulky = let few : length comp.left + length comp.right ≤ 64 = short_few comp short in omega (arith, few, left.bulky, right.bulky, z.bulky);
}
