use Rattle.std.proofs.Common.{◌≡◌, ◌+◌, rules}
use Rattle.elastic_ast.specs.Units.UnitsOf.{member_bits}
use Rattle.expr_types.specs.Scoped.{before_of}
use Rattle.unit_flow.proofs.CountLaws.{sum_more}
use Rattle.unit_flow.proofs.header.members_bits.Goals as goal

pub loop-member-preserved : goal.loop-member-preserved
loop-member-preserved c =
    let sum : c.in_ok-bits.bits ≡ c.loop-member.bits + c.in_ok-member_bits.field-0 = search rules in
    sum_more (member_bits (before_of c.args.scope.now)) c.args.members.now c.loop-member.member-index c.member-item.result c.loop-member.bits c.in_ok-bits.bits c.in_ok-member_bits.field-0 c.loop-member-test.true c.member-item.is
    c.in_ok-member_bits.ensures sum c.loop-member.invariant
