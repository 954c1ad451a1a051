-- The units of a program as the rules of bounds and the counts read them; this project's own.
use Rattle.std.specs.Prelude.{◌≡◌, ℕ, zero, suc, ℤ, ◌-ℤ◌, List, [], ◌∷◌, length, map}
use Rattle.std.specs.List.{range_with_len}
use Rattle.elastic_ast.specs.declared.flat.Terms.{Terms}
use Rattle.elastic_ast.specs.Tree.{PlainDecl}
use Rattle.elastic_ast.specs.Sizes.SizeSums.{symbols_of, utility}
use Rattle.elastic_ast.specs.Units.PlainUnits.{PlainUnits}
use Rattle.elastic_ast.specs.Units.UnitsOf.{units_of, fixed_bits, symbol_bits}
use Rattle.size_terms.specs.Coefficients.{rows_of}
use Rattle.size_terms.specs.Rows.{tables_worth}
use Rattle.size_terms.specs.Ones.{ones_of}
use Rattle.size_terms.specs.Tables.{tables_of}
use Rattle.place_check.specs.OfUnits.{AreUnitsOf}
use Rattle.unit_flow.specs.SoundUnits.{SoundUnits}

-- a size of 1 of the symbol of a number, where those before it are 0
abbrev pub one_at : ℕ → List ℕ
one_at zero = 1 ∷ []
one_at (suc symbol) = 0 ∷ one_at symbol

-- the utility at sizes without what its step tables are worth there
abbrev pub linear_utility : List PlainDecl → List ℕ → ℤ
linear_utility decls sizes = utility decls sizes -ℤ tables_worth sizes (tables_of decls)

-- its constant, and by how much a size of 1 of a symbol changes it
abbrev pub utility_base : List PlainDecl → ℤ
utility_base decls = linear_utility decls []

abbrev pub utility_coefficient : List PlainDecl → ℕ → ℤ
utility_coefficient decls symbol = linear_utility decls (one_at symbol) -ℤ utility_base decls

-- the terms of a program
abbrev pub terms_of_program : List PlainDecl → Terms
terms_of_program decls =
    record {
      symbols = symbols_of decls;
      rows = rows_of decls;
      ones = ones_of decls;
      base = utility_base decls;
      by = map (utility_coefficient decls) (range_with_len 0 (length (symbols_of decls)));
      steps = tables_of decls;
    }

-- the units of a program, with its terms
abbrev pub units_of_program : List PlainDecl → PlainUnits
units_of_program decls =
    record {
      terms = terms_of_program decls;
      list = units_of decls;
      fixed_bits = fixed_bits decls;
      symbol_bits = symbol_bits decls;
    }

-- these are the units of the program, with its terms, and what is known of those
pub record AreKnownUnits (decls : List PlainDecl) (units : PlainUnits) : Type 0 where
  pub units_are : AreUnitsOf decls units
  pub rows : units.terms.rows ≡ rows_of decls
  pub ones : units.terms.ones ≡ ones_of decls
  pub steps : units.terms.steps ≡ tables_of decls
  pub sound : SoundUnits units

-- there is one record of units of a program of which that is known
abbrev pub KnownUnitsAreOfTheProgram : Type 0
KnownUnitsAreOfTheProgram = (decls : List PlainDecl) (units : PlainUnits) → AreKnownUnits decls units → units ≡ units_of_program decls
