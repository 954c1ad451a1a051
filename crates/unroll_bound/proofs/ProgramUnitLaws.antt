-- That known units are those of their program: the linear terms of a utility follow from what it is worth.
use Rattle.std.proofs.Common.{◌≡◌, ℕ, zero, suc, ◌+◌, ◌<◌, List, [], ◌∷◌, length, get_or, map, ℤ, pos, refl, ap, ap₂, ◌∙◌, arith}
use Rattle.std.proofs.lemmas.Int.{ints}
use Rattle.std.specs.Prelude.{◌+ℤ◌, ◌*ℤ◌}
use Rattle.std.specs.List.{range_with_len}
use Rattle.elastic_ast.specs.declared.flat.Terms.{Terms}
use Rattle.elastic_ast.specs.Tree.{PlainDecl}
use Rattle.elastic_ast.specs.Sizes.SizeSums.{symbols_of, utility}
use Rattle.elastic_ast.specs.Units.PlainUnits.{PlainUnits}
use Rattle.size_terms.specs.Rows.{dot, tables_worth}
use Rattle.size_terms.specs.Tables.{tables_of}
use Rattle.unroll_bound.specs.ProgramUnits.{one_at, linear_utility, utility_base, utility_coefficient, terms_of_program, units_of_program, AreKnownUnits, KnownUnitsAreOfTheProgram}

dot_empty : (by : List ℤ) → dot by [] ≡ pos 0
dot_empty [] = refl
dot_empty (x ∷ by) = refl

-- one of a symbol is worth its coefficient
dot_one : (by : List ℤ) (symbol : ℕ) → dot by (one_at symbol) ≡ get_or by symbol (pos 0)
dot_one [] zero = refl
dot_one [] (suc symbol) = refl
dot_one (x ∷ by) zero = let e = dot_empty by in let f : pos 1 *ℤ x ≡ x = once x in omega (arith, ints, e, f)
  where
    once : (x : ℤ) → pos 1 *ℤ x ≡ x
    once x = omega (arith, ints)
dot_one (x ∷ by) (suc symbol) = let e = dot_one by symbol in let f : pos 0 *ℤ x ≡ pos 0 = none x in omega (arith, ints, e, f)
  where
    none : (x : ℤ) → pos 0 *ℤ x ≡ pos 0
    none x = omega (arith, ints)

-- a list is the map over the places of its numbers
listed_from : (by : List ℤ) (first : ℕ) (f : ℕ → ℤ) → ((k : ℕ) → k < length by → get_or by k (pos 0) ≡ f (first + k)) → by ≡ map f (range_with_len first (length by))
listed_from [] first f each = refl
listed_from (x ∷ by) first f each = ap₂ (λ y ys. y ∷ ys) here (listed_from by (first + 1) f next)
  where
    same_place : (k : ℕ) → first + suc k ≡ (first + 1) + k
    same_place k = omega arith

    here : x ≡ f first
    here = each 0 (omega arith) ∙ ap f (let e : first + 0 ≡ first = omega arith in e)

    next : (k : ℕ) → k < length by → get_or by k (pos 0) ≡ f ((first + 1) + k)
    next k h = each (suc k) (omega (arith, h)) ∙ ap f (same_place k)

like_terms : {A : Type 0} (make : A → Terms) {x y : A} → x ≡ y → make x ≡ make y
like_terms make e = ap make e

like_units : {A : Type 0} (make : A → PlainUnits) {x y : A} → x ≡ y → make x ≡ make y
like_units make e = ap make e

module _ (decls : List PlainDecl) (units : PlainUnits) (known : AreKnownUnits decls units) where
  abbrev terms : Terms
  terms = units.terms

  -- what the linear terms are worth
  linear : (sizes : List ℕ) → linear_utility decls sizes ≡ terms.base +ℤ dot terms.by sizes
  linear sizes =
      let e : (terms.base +ℤ dot terms.by sizes) +ℤ tables_worth sizes terms.steps ≡ utility decls sizes = known.units_are.utility sizes in
      let f : tables_worth sizes terms.steps ≡ tables_worth sizes (tables_of decls) = ap (tables_worth sizes) known.steps in
      omega (arith, ints, e, f)

  base_is : terms.base ≡ utility_base decls
  base_is = let e = linear [] in let f = dot_empty terms.by in omega (arith, ints, e, f)

  coefficient_is : (symbol : ℕ) → get_or terms.by symbol (pos 0) ≡ utility_coefficient decls symbol
  coefficient_is symbol = let e = linear (one_at symbol) in let f = dot_one terms.by symbol in let g = base_is in omega (arith, ints, e, f, g)

  by_is : terms.by ≡ map (utility_coefficient decls) (range_with_len 0 (length (symbols_of decls)))
  by_is =
      listed_from terms.by 0 (utility_coefficient decls) (λ k h. coefficient_is k ∙ ap (utility_coefficient decls) (let e : k ≡ 0 + k = omega arith in e))
      ∙ ap (λ n. map (utility_coefficient decls) (range_with_len 0 n)) (known.sound.short.utility.dense ∙ ap length known.units_are.symbols)

  abbrev of : PlainUnits
  of = units_of_program decls

  terms_are : terms ≡ terms_of_program decls
  terms_are =
      like_terms
      (λ x. record { symbols = x; rows = terms.rows; ones = terms.ones; base = terms.base; by = terms.by; steps = terms.steps })
      known.units_are.symbols
      ∙ like_terms
      (λ x. record { symbols = of.terms.symbols; rows = x; ones = terms.ones; base = terms.base; by = terms.by; steps = terms.steps })
      known.rows
      ∙ like_terms
      (λ x. record { symbols = of.terms.symbols; rows = of.terms.rows; ones = x; base = terms.base; by = terms.by; steps = terms.steps })
      known.ones
      ∙ like_terms
      (λ x. record { symbols = of.terms.symbols; rows = of.terms.rows; ones = of.terms.ones; base = x; by = terms.by; steps = terms.steps })
      base_is
      ∙ like_terms
      (λ x. record { symbols = of.terms.symbols; rows = of.terms.rows; ones = of.terms.ones; base = of.terms.base; by = x; steps = terms.steps })
      by_is
      ∙ like_terms
      (λ x. record { symbols = of.terms.symbols; rows = of.terms.rows; ones = of.terms.ones; base = of.terms.base; by = of.terms.by; steps = x })
      known.steps

  units_are : units ≡ units_of_program decls
  units_are =
      like_units
      (λ x. record { terms = x; list = units.list; fixed_bits = units.fixed_bits; symbol_bits = units.symbol_bits })
      terms_are
      ∙ like_units
      (λ x. record { terms = of.terms; list = x; fixed_bits = units.fixed_bits; symbol_bits = units.symbol_bits })
      known.units_are.units_are.list
      ∙ like_units
      (λ x. record { terms = of.terms; list = of.list; fixed_bits = x; symbol_bits = units.symbol_bits })
      known.units_are.units_are.fixed
      ∙ like_units
      (λ x. record { terms = of.terms; list = of.list; fixed_bits = of.fixed_bits; symbol_bits = x })
      known.units_are.units_are.symbols

pub known_are : KnownUnitsAreOfTheProgram
known_are decls units known = units_are decls units known
