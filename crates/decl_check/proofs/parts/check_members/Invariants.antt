use Rattle.std.proofs.Common.{◌≡◌, drop}
use Rattle.decl_check.specs.PartRules.{members_break}
use Rattle.decl_check.proofs.parts.check_members.Given as goal

abbrev pub invariant-loop-member : goal.invariant-loop-member
invariant-loop-member l = members_break l.allow_reserved l.scope (drop l.member-index l.members) ≡ members_break l.allow_reserved l.scope l.members
