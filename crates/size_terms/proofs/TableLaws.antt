-- The utility of a checked program as a sum and step tables.
use Rattle.std.proofs.lemmas.Bool.{and_parts}
use Rattle.std.proofs.Common.{◌≡◌, ℕ, ◌≤◌, Bool, true, false, is_some, List, [], ◌∷◌, length, Option, Some, None, refl, sym, ap, subst, ◌∙◌, arith, pos, ◌+ℤ◌}
use Rattle.std.specs.Prelude.{unwrap_or, All}
use Rattle.std.specs.List.{list_all}
use Rattle.std.proofs.lemmas.Int.{ints}
use Rattle.std.proofs.lemmas.List.Elements.{All-nil, All-cons}
use Rattle.elastic_ast.specs.declared.declarations.UtilTerm.{UtilTerm}
use Rattle.elastic_ast.specs.declared.declarations.UtilTerm.TheVariants as util
use Rattle.elastic_ast.specs.Tree.{Name, PlainDecl}
use Rattle.elastic_ast.specs.Sizes.SizeSums.{negated_if, step_value, util_value, utils_value, symbols_of, utility_terms}
use Rattle.width_check.specs.Sound.{IsSound}
use Rattle.size_terms.specs.declared.building.Utility.{Utility}
use Rattle.size_terms.specs.Places.{place_of}
use Rattle.size_terms.specs.Rows.{is_near_pair, IsNearTable, table_worth, tables_worth}
use Rattle.size_terms.specs.Growth.{linears_value}
use Rattle.size_terms.specs.Building.{is_near_util, IsLinearPart}
use Rattle.size_terms.specs.Tables.{placed_table, tables_in}
use Rattle.size_terms.specs.TermsMean.{IsUtilityOf}
use Rattle.size_terms.proofs.SumLaws.{place_within, size_there}
use Rattle.size_terms.proofs.BuildLaws.{sound_few, sound_near}

-- a symbol that has a place
place_is : (symbols : List Name) (name : Name) → is_some (place_of symbols name) ≡ true → Some (unwrap_or (place_of symbols name) 0) ≡ place_of symbols name
place_is symbols name h = by (place_of symbols name) h
  where
    by : (o : Option ℕ) → is_some o ≡ true → Some (unwrap_or o 0) ≡ o
    by None h = cc
    by (Some place) h = refl

-- what is known of a step table and of the terms behind it
module _ (symbols : List Name) (minus : Bool) (symbol : Name) (pairs : List (ℕ × ℕ)) (terms : List UtilTerm) (near : list_all (is_near_util symbols) (util.Steps minus symbol pairs ∷ terms) ≡ true) where
  parts : (is_near_util symbols (util.Steps minus symbol pairs) ≡ true) × (list_all (is_near_util symbols) terms ≡ true)
  parts = and_parts (is_near_util symbols (util.Steps minus symbol pairs)) (list_all (is_near_util symbols) terms) near

  own : (is_some (place_of symbols symbol) ≡ true) × (list_all is_near_pair pairs ≡ true)
  own = and_parts (is_some (place_of symbols symbol)) (list_all is_near_pair pairs) parts.0

  near_table : IsNearTable (length symbols) (placed_table symbols minus symbol pairs)
  near_table = record { place = place_within symbols symbol (unwrap_or (place_of symbols symbol) 0) (place_is symbols symbol own.0); near = own.1 }

  worth_table : (sizes : List ℕ) → util_value symbols sizes (util.Steps minus symbol pairs) ≡ table_worth sizes (placed_table symbols minus symbol pairs)
  worth_table sizes = ap (λ size. negated_if minus (pos (step_value size 0 pairs))) (size_there symbols sizes symbol (unwrap_or (place_of symbols symbol) 0) (place_is symbols symbol own.0))

tables_near : (symbols : List Name) (terms : List UtilTerm) → list_all (is_near_util symbols) terms ≡ true → All (IsNearTable (length symbols)) (tables_in symbols terms)
tables_near symbols [] near = All-nil (IsNearTable (length symbols))
tables_near symbols (util.Lin term ∷ terms) near = tables_near symbols terms ((and_parts (is_near_util symbols (util.Lin term)) (list_all (is_near_util symbols) terms) near).1)
tables_near symbols (util.Steps minus symbol [] ∷ terms) near = tables_near symbols terms ((parts symbols minus symbol [] terms near).1)
tables_near symbols (util.Steps minus symbol (pair ∷ pairs) ∷ terms) near =
    All-cons (IsNearTable (length symbols)) (placed_table symbols minus symbol (pair ∷ pairs)) (tables_in symbols terms) (near_table symbols minus symbol (pair ∷ pairs) terms near)
    (tables_near symbols terms ((parts symbols minus symbol (pair ∷ pairs) terms near).1))

tables_few : (symbols : List Name) (terms : List UtilTerm) → length (tables_in symbols terms) ≤ length terms
tables_few symbols [] = omega arith
tables_few symbols (util.Lin term ∷ terms) = let ih = tables_few symbols terms in omega (arith, ih)
tables_few symbols (util.Steps minus symbol [] ∷ terms) = let ih = tables_few symbols terms in omega (arith, ih)
tables_few symbols (util.Steps minus symbol (pair ∷ pairs) ∷ terms) = let ih = tables_few symbols terms in omega (arith, ih)

-- a step table without pairs
no_worth : (minus : Bool) → negated_if minus (pos 0) ≡ pos 0
no_worth true = refl
no_worth false = refl

-- the utility is worth its linear part and its step tables
both_parts : (symbols : List Name) (terms : List UtilTerm) (sizes : List ℕ) → list_all (is_near_util symbols) terms ≡ true → utils_value symbols sizes terms ≡ linears_value symbols sizes terms +ℤ tables_worth sizes (tables_in symbols terms)
both_parts symbols [] sizes near = refl
both_parts symbols (util.Lin term ∷ terms) sizes near =
    let ih = both_parts symbols terms sizes ((and_parts (is_near_util symbols (util.Lin term)) (list_all (is_near_util symbols) terms) near).1) in
    omega (arith, ints, ih)
both_parts symbols (util.Steps minus symbol [] ∷ terms) sizes near =
    let ih = both_parts symbols terms sizes ((parts symbols minus symbol [] terms near).1) in
    let nothing = no_worth minus in
    omega (arith, ints, ih, nothing)
both_parts symbols (util.Steps minus symbol (pair ∷ pairs) ∷ terms) sizes near =
    let ih = both_parts symbols terms sizes ((parts symbols minus symbol (pair ∷ pairs) terms near).1) in
    let here = worth_table symbols minus symbol (pair ∷ pairs) terms near sizes in
    omega (arith, ints, ih, here)

pub utility_is : (symbols : List Name) (decls : List PlainDecl) (utility : Utility) → symbols ≡ symbols_of decls → IsSound decls → IsLinearPart symbols (utility_terms decls) utility.sum → utility.tables ≡ tables_in symbols (utility_terms decls) → IsUtilityOf symbols decls utility
utility_is symbols decls utility e sound linear tables =
    let near : list_all (is_near_util symbols) (utility_terms decls) ≡ true = ap (λ z. list_all (is_near_util z) (utility_terms decls)) e ∙ sound_near decls sound in
    record {
      worth = λ sizes.
          let all = both_parts symbols (utility_terms decls) sizes near in
          let own = linear.worth sizes in
          let rest : tables_worth sizes utility.tables ≡ tables_worth sizes (tables_in symbols (utility_terms decls)) = ap (tables_worth sizes) tables in
          omega (arith, ints, all, own, rest);
      dense = linear.dense;
      bulky = linear.bulky;
      tables = tables;
      near = subst (All (IsNearTable (length symbols))) (sym tables) (tables_near symbols (utility_terms decls) near);
      few =
          let count : length utility.tables ≡ length (tables_in symbols (utility_terms decls)) = ap length tables in
          let most = tables_few symbols (utility_terms decls) in
          let terms = sound_few decls sound in
          omega (arith, count, most, terms);
    }
