-- The bits that a table takes; this project's own.
use Rattle.std.specs.Prelude.{◌≡◌, List, Option}
use Rattle.elastic_ast.specs.Tree.{PlainDecl, PlainTable}
use Rattle.elastic_ast.specs.Units.Costs.{exact_bits, masked_bits, table_applied}
use Rattle.elastic_ast.specs.Units.PlainUnits.{PlainWork}
use Rattle.unit_flow.specs.declared.table_bits.TableBits.{TableBits}

pub record AreBitsOf (decls : List PlainDecl) (table : Option PlainTable) (bits : TableBits) : Type 0 where
  pub exact : bits.table_bits ≡ exact_bits decls table
  pub masked : bits.ternary_bits ≡ masked_bits decls table

-- those of the table that a piece of work applies
abbrev pub AreBitsFor : List PlainDecl → PlainWork → TableBits → Type 0
AreBitsFor decls work bits = AreBitsOf decls (table_applied decls work) bits
