-- The units of a program with the header bits that it takes; this project's own.
use Rattle.std.specs.Prelude.{◌≡◌, ℕ, List, map}
use Rattle.elastic_ast.specs.Tree.{PlainDecl}
use Rattle.elastic_ast.specs.Units.SeenUnits.{seen_unit}
use Rattle.elastic_ast.specs.Units.UnitsOf.{OpsFit, units_of, fixed_bits, symbol_bits}
use Rattle.unit_flow.specs.declared.program.CountedUnits.{CountedUnits}

pub record AreCounted (decls : List PlainDecl) (most : ℕ) (counted : CountedUnits) : Type 0 where
  pub list : map seen_unit counted.list ≡ units_of decls
  pub fits : OpsFit decls most
  pub fixed : counted.bits.fixed ≡ fixed_bits decls
  pub symbols : counted.bits.each.items ≡ symbol_bits decls
