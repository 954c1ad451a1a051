use Rattle.std.proofs.Common.{◌≡◌, take}
use Rattle.elastic_ast.specs.Units.Costs.{key_bits}
use Rattle.expr_types.specs.Scoped.{before_of}
use Rattle.unit_flow.proofs.table_bits.key_bits.Given as goal

abbrev pub invariant-loop-key : goal.invariant-loop-key
invariant-loop-key l = l.bits ≡ key_bits (before_of l.scope) (take l.key-index l.keys)
