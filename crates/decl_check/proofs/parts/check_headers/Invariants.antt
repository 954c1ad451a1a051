use Rattle.std.proofs.Common.{◌≡◌, drop}
use Rattle.decl_check.specs.PartRules.{headers_break}
use Rattle.decl_check.proofs.parts.check_headers.Given as goal

abbrev pub invariant-loop-header : goal.invariant-loop-header
invariant-loop-header l = headers_break l.allow_reserved l.scope (drop l.header-index l.headers) ≡ headers_break l.allow_reserved l.scope l.headers
