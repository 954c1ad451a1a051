use Rattle.std.proofs.Common.{◌≡◌}
use Rattle.elastic_ast.specs.Seen.{seen_decls}
use Rattle.width_check.specs.Walked.{AsksWhatIs}
use Rattle.width_check.proofs.checking.asked_first.Given as goal

abbrev pub invariant-loop-i : goal.invariant-loop-i
invariant-loop-i l = record {
  here : l.walk ≡ (l.decls, l.i);
  asks : AsksWhatIs l.allow_reserved (seen_decls l.decls) l.i;
}
