use Rattle.std.proofs.Common.{◌≡◌, take}
use Rattle.std.specs.Prelude.{sum_by}
use Rattle.elastic_ast.specs.Units.UnitsOf.{member_bits}
use Rattle.expr_types.specs.Scoped.{before_of}
use Rattle.unit_flow.proofs.header.members_bits.Given as goal

abbrev pub invariant-loop-member : goal.invariant-loop-member
invariant-loop-member l = l.bits ≡ sum_by (member_bits (before_of l.scope)) (take l.member-index l.members)
