-- Sums of terms as one coefficient a symbol and a constant; and that the rows of comparisons hold exactly where these do.
use Rattle.std.proofs.Common.{◌≡◌, ℕ, zero, suc, ◌+◌, ◌*◌, ◌<◌, ◌≤◌, Bool, true, false, cond, List, [], ◌∷◌, ◌++◌, map, flat_map, length, Option, Some, None, refl, sym, ap, ◌∙◌, arith, ℤ, pos, ◌+ℤ◌, ◌*ℤ◌, neg_ℤ}
use Rattle.std.specs.Prelude.{◌↔◌, ◌≤ℤ◌, All, if◌then◌else◌}
use Rattle.std.specs.List.{position_from, range_with_len}
use Rattle.std.proofs.Math.IntN.{*ℤ-zero, pos-*ℤ-pos}
use Rattle.std.proofs.Math.Nat.{mul_comm}
use Rattle.std.proofs.lemmas.Int.{ints}
use Rattle.std.proofs.lemmas.Bool.Decides.{nat_tests}
use Rattle.std.proofs.lemmas.List.Elements.{All-nil, All-cons, All-head, All-tail, All-append}
use Rattle.elastic_ast.specs.declared.declarations.Comp.{Comp}
use Rattle.elastic_ast.specs.declared.declarations.LinTerm.{LinTerm}
use Rattle.elastic_ast.specs.declared.declarations.Rel.{Rel}
use Rattle.elastic_ast.specs.declared.declarations.Rel.TheVariants as rel
use Rattle.elastic_ast.specs.declared.flat.Linear.{Linear}
use Rattle.elastic_ast.specs.Tree.{Name, PlainDecl}
use Rattle.elastic_ast.specs.Typing.Scope.{same}
use Rattle.elastic_ast.specs.Sizes.SizeSums.{negated_if, size_of, count_of, term_value, sum_value, Compares, Holds, symbols_of, comparisons, Compared}
use Rattle.size_terms.specs.Rows.{dot, RowHolds, RowsHold}
use Rattle.size_terms.specs.Coefficients.{number_at, symbol_number, lone_number, coefficient, constant_of, row_below, compared_rows, rows_of_comp, rows_of}
use Rattle.size_terms.proofs.SumLaws.{within_from}
use Rattle.size_terms.proofs.TermLaws.{signed_sum}
use Rattle.size_terms.proofs.DotLaws.{dot_nothing, dot_sum, dot_neg, dot_signed}

-- a number at one place
here : (n k : ℕ) → number_at n k (Some k) ≡ n
here n k = grind (arith, nat_tests)

elsewhere : (n i k : ℕ) → (i ≡ k → ⊥) → number_at n k (Some i) ≡ 0
elsewhere n i k h = grind (arith, nat_tests)

product_nothing : (s n : ℕ) → n ≡ 0 → pos s *ℤ pos n ≡ pos 0
product_nothing s n e = ap (λ z. pos s *ℤ pos z) e ∙ *ℤ-zero (pos s)

dot_after : (n i k more : ℕ) (sizes : List ℕ) → i < k → dot (map (λ place. pos (number_at n place (Some i))) (range_with_len k more)) sizes ≡ pos 0
dot_after n i k zero sizes h = refl
dot_after n i k (suc more) [] h = refl
dot_after n i k (suc more) (s ∷ sizes) h =
    let e = product_nothing s (number_at n k (Some i)) (elsewhere n i k (λ q. omega (arith, q, h))) in
    let ih = dot_after n i (k + 1) more sizes (omega arith) in
    omega (arith, ints, e, ih)

-- a number times the size of a symbol
dot_place : (n : ℕ) (name : Name) (k : ℕ) (symbols : List Name) (sizes : List ℕ) → dot (map (λ place. pos (number_at n place (position_from (same name) k symbols))) (range_with_len k (length symbols))) sizes ≡ pos (n * size_of symbols sizes name)
dot_place n name k [] sizes = ap pos (omega arith)
dot_place n name k (m ∷ ms) [] = ap pos (omega arith)
dot_place n name k (m ∷ ms) (s ∷ sizes) = by (same name m) (within_from name (k + 1) ms) (dot_place n name (k + 1) ms sizes)
  where
    past : (o : Option ℕ) → ((p : ℕ) → o ≡ Some p → (k + 1 ≤ p) × (p < k + 1 + length ms)) → number_at n k o ≡ 0
    past None w = refl
    past (Some p) w = elsewhere n p k (λ q. let u = (w p refl).0 in omega (arith, u, q))

    by : (b : Bool) → ((p : ℕ) → position_from (same name) (k + 1) ms ≡ Some p → (k + 1 ≤ p) × (p < k + 1 + length ms))
        → dot (map (λ place. pos (number_at n place (position_from (same name) (k + 1) ms))) (range_with_len (k + 1) (length ms))) sizes ≡ pos (n * size_of ms sizes name)
        → dot (map (λ place. pos (number_at n place (cond b (Some k) (position_from (same name) (k + 1) ms)))) (range_with_len k (suc (length ms)))) (s ∷ sizes) ≡ pos (n * (if b then s else size_of ms sizes name))
    by true w ih =
        let e : pos s *ℤ pos (number_at n k (Some k)) ≡ pos (n * s) = ap (λ z. pos s *ℤ pos z) (here n k) ∙ pos-*ℤ-pos s n ∙ ap pos (mul_comm s n) in
        let f = dot_after n k (k + 1) (length ms) sizes (omega arith) in
        omega (arith, ints, e, f)
    by false w ih =
        let e = product_nothing s (number_at n k (position_from (same name) (k + 1) ms)) (past (position_from (same name) (k + 1) ms) w) in
        omega (arith, ints, e, ih)

-- the places of symbols
abbrev pub places_of : List Name → List ℕ
places_of symbols = range_with_len 0 (length symbols)

unsigned_term : (symbols : List Name) (sizes : List ℕ) (n : ℕ) (symbol : Option Name) → dot (map (λ place. pos (symbol_number symbols place n symbol)) (places_of symbols)) sizes +ℤ pos (lone_number n symbol) ≡ pos (n * count_of symbols sizes symbol)
unsigned_term symbols sizes n None = let e = dot_nothing (places_of symbols) sizes in omega (arith, ints, e)
unsigned_term symbols sizes n (Some name) = let e = dot_place n name 0 symbols sizes in omega (arith, ints, e)

term_dot : (symbols : List Name) (sizes : List ℕ) (t : LinTerm)
    → dot (map (λ place. negated_if t.minus (pos (symbol_number symbols place t.by t.symbol))) (places_of symbols)) sizes +ℤ negated_if t.minus (pos (lone_number t.by t.symbol)) ≡ term_value symbols sizes t
term_dot symbols sizes t =
    ap (λ z. z +ℤ negated_if t.minus (pos (lone_number t.by t.symbol))) (dot_signed t.minus (λ place. pos (symbol_number symbols place t.by t.symbol)) (places_of symbols) sizes)
    ∙ sym (signed_sum t.minus (dot (map (λ place. pos (symbol_number symbols place t.by t.symbol)) (places_of symbols)) sizes) (pos (lone_number t.by t.symbol)))
    ∙ ap (negated_if t.minus) (unsigned_term symbols sizes t.by t.symbol)

-- a sum of terms is its coefficients times the sizes, and its constant
pub sum_dot : (symbols : List Name) (sizes : List ℕ) (ts : List LinTerm) → dot (map (coefficient symbols ts) (places_of symbols)) sizes +ℤ constant_of ts ≡ sum_value symbols sizes ts
sum_dot symbols sizes [] = let e = dot_nothing (places_of symbols) sizes in omega (arith, ints, e)
sum_dot symbols sizes (t ∷ ts) =
    let e = dot_sum (λ place. negated_if t.minus (pos (symbol_number symbols place t.by t.symbol))) (coefficient symbols ts) (places_of symbols) sizes in
    let f = term_dot symbols sizes t in
    let ih = sum_dot symbols sizes ts in
    omega (arith, ints, e, f, ih)

-- the coefficients of one sum without those of another
abbrev pub differences : List Name → List LinTerm → List LinTerm → List ℤ
differences symbols left right = map (λ place. coefficient symbols left place +ℤ neg_ℤ (coefficient symbols right place)) (places_of symbols)

pub difference_dot : (symbols : List Name) (sizes : List ℕ) (left right : List LinTerm)
    → dot (differences symbols left right) sizes +ℤ (constant_of left +ℤ neg_ℤ (constant_of right)) ≡ sum_value symbols sizes left +ℤ neg_ℤ (sum_value symbols sizes right)
difference_dot symbols sizes left right =
    let e = dot_sum (coefficient symbols left) (λ place. neg_ℤ (coefficient symbols right place)) (places_of symbols) sizes in
    let f = dot_neg (coefficient symbols right) (places_of symbols) sizes in
    let l = sum_dot symbols sizes left in
    let r = sum_dot symbols sizes right in
    omega (arith, ints, e, f, l, r)

-- both parts of a list
All-front : {X : Type 0} (P : X → Type 0) (xs ys : List X) → All P (xs ++ ys) → All P xs
All-front P [] ys h = All-nil P
All-front P (x ∷ xs) ys h = All-cons P x xs (All-head P x (xs ++ ys) h) (All-front P xs ys (All-tail P x (xs ++ ys) h))

All-back : {X : Type 0} (P : X → Type 0) (xs ys : List X) → All P (xs ++ ys) → All P ys
All-back P [] ys h = h
All-back P (x ∷ xs) ys h = All-back P xs ys (All-tail P x (xs ++ ys) h)

-- a row holds exactly where its comparison does
row_says : (more : ℕ) (symbols : List Name) (sizes : List ℕ) (left right : List LinTerm) → RowHolds sizes (row_below more symbols left right) ↔ ((sum_value symbols sizes left +ℤ pos more) ≤ℤ sum_value symbols sizes right)
row_says more symbols sizes left right =
    let d = difference_dot symbols sizes left right in
    (λ h. omega (arith, ints, d, h), λ h. omega (arith, ints, d, h))

one_row : (sizes : List ℕ) (row : Linear) (P Q : Type 0) → RowHolds sizes row ↔ P → (P → Q) → (Q → P) → RowsHold (row ∷ []) sizes ↔ Q
one_row sizes row P Q says there back = (
  λ h. there (says.0 (All-head (RowHolds sizes) row [] h)),
  λ h. All-cons (RowHolds sizes) row [] (says.1 (back h)) (All-nil (RowHolds sizes)),
)

comp_says : (r : Rel) (symbols : List Name) (sizes : List ℕ) (left right : List LinTerm) → RowsHold (compared_rows symbols r left right) sizes ↔ Compares r (sum_value symbols sizes left) (sum_value symbols sizes right)
comp_says rel.Le symbols sizes left right = one_row sizes _ _ _ (row_says 0 symbols sizes left right) (λ h. omega (arith, ints, h)) (λ h. omega (arith, ints, h))
comp_says rel.Lt symbols sizes left right = one_row sizes _ _ _ (row_says 1 symbols sizes left right) (λ h. omega (arith, ints, h)) (λ h. omega (arith, ints, h))
comp_says rel.Ge symbols sizes left right = one_row sizes _ _ _ (row_says 0 symbols sizes right left) (λ h. omega (arith, ints, h)) (λ h. omega (arith, ints, h))
comp_says rel.Gt symbols sizes left right = one_row sizes _ _ _ (row_says 1 symbols sizes right left) (λ h. omega (arith, ints, h)) (λ h. omega (arith, ints, h))
comp_says rel.Eq symbols sizes left right =
    let first = row_says 0 symbols sizes left right in
    let second = row_says 0 symbols sizes right left in (
      λ h.
          let low = first.0 (All-head (RowHolds sizes) (row_below 0 symbols left right) (row_below 0 symbols right left ∷ []) h) in
          let high = second.0 (All-head (RowHolds sizes) (row_below 0 symbols right left) [] (All-back (RowHolds sizes) (row_below 0 symbols left right ∷ []) (row_below 0 symbols right left ∷ []) h)) in
          omega (arith, ints, low, high),
      λ h.
          All-cons (RowHolds sizes) (row_below 0 symbols left right) (row_below 0 symbols right left ∷ []) (first.1 (omega (arith, ints, h)))
          (All-cons (RowHolds sizes) (row_below 0 symbols right left) [] (second.1 (omega (arith, ints, h))) (All-nil (RowHolds sizes))),
    )

comps_say : (symbols : List Name) (sizes : List ℕ) (comps : List Comp) → RowsHold (flat_map (rows_of_comp symbols) comps) sizes ↔ All (Holds symbols sizes) comps
comps_say symbols sizes [] = (λ h. All-nil (Holds symbols sizes), λ h. All-nil (RowHolds sizes))
comps_say symbols sizes (c ∷ cs) =
    let one = comp_says c.rel symbols sizes c.left c.right in
    let rest = comps_say symbols sizes cs in
    let rows : List Linear = flat_map (rows_of_comp symbols) cs in (
      λ h. All-cons (Holds symbols sizes) c cs (one.0 (All-front (RowHolds sizes) (rows_of_comp symbols c) rows h)) (rest.0 (All-back (RowHolds sizes) (rows_of_comp symbols c) rows h)),
      λ h. All-append (RowHolds sizes) (rows_of_comp symbols c) rows (one.1 (All-head (Holds symbols sizes) c cs h)) (rest.1 (All-back (Holds symbols sizes) (c ∷ []) cs h)),
    )

-- the rows of a program hold exactly where its assume clauses are true
pub rows_are : (decls : List PlainDecl) (sizes : List ℕ) → RowsHold (rows_of decls) sizes ↔ Compared decls sizes
rows_are decls sizes = comps_say (symbols_of decls) sizes (comparisons decls)
