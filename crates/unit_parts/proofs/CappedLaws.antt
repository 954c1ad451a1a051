-- Sums of numbers that are kept in 32 bits.
use Rattle.std.proofs.Common.{◌≡◌, ℕ, ◌+◌, ◌<◌, ◌≤◌, List, [], ◌∷◌, drop, length, get_or, max, refl, sym, ap, ◌∙◌, arith}
use Rattle.std.proofs.lemmas.List.{at_drop_all}
use Rattle.std.proofs.lemmas.List.Sums.{sum_by-cons}
use Rattle.elastic_ast.specs.Tree.{PlainExpr}
use Rattle.elastic_ast.specs.OperatorSorts.{operators_in}
use Rattle.elastic_ast.specs.declared.flat.Location.{Location}
use Rattle.elastic_ast.specs.declared.flat.Location.TheVariants as location
use Rattle.elastic_ast.specs.Units.Costs.{exprs_ops, stateless_units}
use Rattle.unit_parts.specs.Capped.{most_kept, capped}
use Rattle.program_names.proofs.Items.{drop_step}

pub capped_left : (a b : ℕ) → capped (capped a + b) ≡ capped (a + b)
capped_left a b = omega arith

pub capped_both : (a b : ℕ) → capped (capped a + capped b) ≡ capped (a + b)
capped_both a b = omega arith

pub ruleset caps = (capped_left, capped_both)

-- a sum so far, with what the rest counts, is the whole
pub record Counting (sum rest all : ℕ) : Type 0 where
  pub kept : sum ≤ most_kept
  pub same : capped (sum + rest) ≡ all

-- one element more of a list whose elements each count
pub count_on : {X : Type 0} (counts : List X → ℕ) (here : ℕ) (xs : List X) (i : ℕ) (x : X) (old one new all : ℕ)
    → counts (x ∷ drop (i + 1) xs) ≡ here + counts (drop (i + 1) xs) → i < length xs → x ≡ get_or xs i x → one ≡ capped here → new ≡ capped (old + one)
    → Counting old (counts (drop i xs)) all → Counting new (counts (drop (i + 1) xs)) all
count_on counts here xs i x old one new all parts h e is now before =
    let rest : counts (drop i xs) ≡ here + counts (drop (i + 1) xs) = ap counts (drop_step xs i x h e) ∙ parts in
    let sum : capped (new + counts (drop (i + 1) xs)) ≡ capped (old + counts (drop i xs)) = omega (arith, is, now, rest) in
    record { kept = omega (arith, now); same = sum ∙ before.same }

-- behind the last element
pub count_all : {X : Type 0} (counts : List X → ℕ) (xs : List X) (i : ℕ) (sum all : ℕ) → counts [] ≡ 0 → length xs ≤ i → Counting sum (counts (drop i xs)) all → sum ≡ all
count_all counts xs i sum all nothing past counting =
    let rest : counts (drop i xs) ≡ 0 = at_drop_all counts xs i past ∙ nothing in
    let same = counting.same in
    let kept = counting.kept in
    omega (arith, rest, same, kept)

pub all_ops : (first : PlainExpr) (rest : List PlainExpr) → exprs_ops (first ∷ rest) ≡ operators_in first + exprs_ops rest
all_ops first rest = sum_by-cons operators_in first rest

pub stateless_capped : (at : Location) → stateless_units at ≡ capped (stateless_units at)
stateless_capped (location.Reg name own) = refl
stateless_capped _ = refl

-- one element more of a list of which the greatest number is wanted
pub most_on : {X : Type 0} (counts : List X → ℕ) (here : ℕ) (xs : List X) (i : ℕ) (x : X) (old one new all : ℕ)
    → counts (x ∷ drop (i + 1) xs) ≡ max here (counts (drop (i + 1) xs)) → i < length xs → x ≡ get_or xs i x → one ≡ capped here → new ≡ max one old
    → max old (capped (counts (drop i xs))) ≡ all → max new (capped (counts (drop (i + 1) xs))) ≡ all
most_on counts here xs i x old one new all parts h e is now before =
    let rest : counts (drop i xs) ≡ max here (counts (drop (i + 1) xs)) = ap counts (drop_step xs i x h e) ∙ parts in
    let same : max new (capped (counts (drop (i + 1) xs))) ≡ max old (capped (counts (drop i xs))) = omega (arith, is, now, rest) in
    same ∙ before

pub most_all : {X : Type 0} (counts : List X → ℕ) (xs : List X) (i : ℕ) (most all : ℕ) → counts [] ≡ 0 → length xs ≤ i → max most (capped (counts (drop i xs))) ≡ all → most ≡ all
most_all counts xs i most all nothing past before =
    let rest : counts (drop i xs) ≡ 0 = at_drop_all counts xs i past ∙ nothing in
    let same : max most (capped (counts (drop i xs))) ≡ most = omega (arith, rest) in
    sym same ∙ before
