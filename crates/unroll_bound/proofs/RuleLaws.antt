-- What the rows and the header bits say of each size.
use Rattle.std.proofs.Common.{◌≡◌, ℕ, zero, suc, ◌*◌, ◌/◌, ◌≤◌, Bool, true, false, List, [], ◌∷◌, get_or, Option, Some, None, refl, subst, arith, min, ℤ, pos, negsuc}
use Rattle.std.specs.Prelude.{◌≤ℤ◌, ◌*ℤ◌, if◌then◌else◌}
use Rattle.std.specs.List.{list_all}
use Rattle.std.proofs.lemmas.List.Elements.{All-head, All-tail}
use Rattle.std.proofs.lemmas.Int.{ints}
use Rattle.std.proofs.lemmas.Nat.{le-div}
use Rattle.elastic_ast.specs.declared.flat.Linear.{Linear}
use Rattle.size_terms.specs.Rows.{is_whole, RowHolds, RowsHold}
use Rattle.size_terms.proofs.DotLaws.{row_bounds_one}
use Rattle.dep_graph.specs.HeaderBits.{weighed}
use Rattle.unroll_bound.specs.SizeRules.{lesser, share, most_times, coefficient, row_bound, rows_bound}

pub lesser_law : (a b : Option ℕ) (size bound : ℕ) → ((n : ℕ) → a ≡ Some n → size ≤ n) → ((n : ℕ) → b ≡ Some n → size ≤ n) → lesser a b ≡ Some bound → size ≤ bound
lesser_law None b size bound f g e = g bound e
lesser_law (Some x) None size bound f g e = f bound e
lesser_law (Some x) (Some y) size bound f g e =
    let p = f x refl in
    let q = g y refl in
    let m : min x y ≡ bound = cc in
    omega (arith, p, q, m)

-- so many times a size are at most an amount
pub share_law : (amount among size bound : ℕ) → size * among ≤ amount → share amount among ≡ Some bound → size ≤ bound
share_law amount zero size bound h e = absurd (cc e)
share_law amount (suc among) size bound h e =
    let q : amount / suc among ≡ bound = cc in
    subst (λ n. size ≤ n) q (le-div size amount (suc among) (omega arith) h)

most_law : (most by : ℤ) (size bound : ℕ) → (pos size *ℤ by) ≤ℤ most → most_times most by ≡ Some bound → size ≤ bound
most_law most (negsuc by) size bound h e = absurd (cc e)
most_law most (pos zero) size bound h e = absurd (cc e)
most_law (pos most) (pos (suc by)) size bound h e =
    let q : most / suc by ≡ bound = cc in
    subst (λ n. size ≤ n) q (le-div size most (suc by) (omega arith) (omega (arith, ints, h)))
most_law (negsuc most) (pos (suc by)) size bound h e = absurd (omega (arith, ints, h))

row_law : (row : Linear) (sizes : List ℕ) (symbol bound : ℕ) → RowHolds sizes row → row_bound symbol row ≡ Some bound → get_or sizes symbol 0 ≤ bound
row_law row sizes symbol bound holds = by (list_all is_whole row.by) refl
  where
    by : (whole : Bool) → list_all is_whole row.by ≡ whole → (if whole then most_times row.most (coefficient row symbol) else None) ≡ Some bound → get_or sizes symbol 0 ≤ bound
    by true whole e = most_law row.most (coefficient row symbol) (get_or sizes symbol 0) bound (let one = row_bounds_one row.by sizes symbol whole in omega (arith, ints, one, holds)) e
    by false whole e = absurd (cc e)

pub rows_law : (rows : List Linear) (sizes : List ℕ) (symbol bound : ℕ) → RowsHold rows sizes → rows_bound symbol rows ≡ Some bound → get_or sizes symbol 0 ≤ bound
rows_law [] sizes symbol bound hold e = absurd (cc e)
rows_law (row ∷ rows) sizes symbol bound hold e =
    lesser_law (row_bound symbol row) (rows_bound symbol rows) (get_or sizes symbol 0) bound
    (λ n f. row_law row sizes symbol n (All-head (RowHolds sizes) row rows hold) f)
    (λ n f. rows_law rows sizes symbol n (All-tail (RowHolds sizes) row rows hold) f) e

nothing : (n : ℕ) → n * 0 ≤ 0
nothing n = omega arith

pub weighed_at : (bits sizes : List ℕ) (symbol : ℕ) → get_or bits symbol 0 * get_or sizes symbol 0 ≤ weighed bits sizes
weighed_at [] sizes symbol = omega arith
weighed_at (b ∷ bits) [] symbol = nothing (get_or (b ∷ bits) symbol 0)
weighed_at (b ∷ bits) (s ∷ sizes) zero = omega arith
weighed_at (b ∷ bits) (s ∷ sizes) (suc symbol) = let ih = weighed_at bits sizes symbol in omega (arith, ih)
