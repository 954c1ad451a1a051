use Rattle.std.proofs.Common.{◌≡◌, ◌-◌, ◌^◌, ◌≤◌, ap, arith, length, min, subst, sym, ◌∙◌}
use Rattle.spelling.specs.Reading.{ahead}
use Rattle.spelling.specs.Bounds.{IfTooDeep, PassedAt}
use Rattle.spelling.proofs.Limits.{or_same}
use Rattle.spelling.proofs.Places.{named_deep, passed_at}
use Rattle.p4_parser.specs.Declarations.{SpellsProgram}
use Rattle.p4_parser.specs.Reaching.{ProgramPassed}
use Rattle.p4_parser.proofs.Reaching.{passed_front}
use Rattle.p4_parser.proofs.parsing.parse.Goals as goal

pub returns-in-Ok-clause-only : goal.returns-in-Ok-clause-only
returns-in-Ok-clause-only c = λ more program spelled. c.in-Ok.ensures.only more program (subst (SpellsProgram more program) (sym c.new-reader.ensures) spelled)

pub returns-in-Err-clause-only : goal.returns-in-Err-clause-only
returns-in-Err-clause-only c = λ more program spelled. or_same _ _ _ c.within.ensures.same (c.in-Err.ensures.only more program (subst (SpellsProgram more program) (sym c.new-reader.ensures) spelled))

pub returns-in-Err-clause-deep : goal.returns-in-Err-clause-deep
returns-in-Err-clause-deep c =
    let tokens = c.args.tokens.now in
    let after = ahead c.declarations.new.reader in
    let Passed = PassedAt (ProgramPassed c.args.most_depth) c.args.text.now tokens 0 in
    let few : c.saturating_sub.result ≤ length tokens = omega (arith, c.saturating_sub.ensures) in
    let next : c.saturating_sub.result ≡ length tokens - length after = c.saturating_sub.ensures ∙ ap (λ n. length tokens - n) c.left.ensures in
    let deep = subst (λ a. IfTooDeep (ProgramPassed c.args.most_depth a after) c.in-Err.error) c.new-reader.ensures c.in-Err.ensures.deep in
    named_deep Passed (min c.saturating_sub.result (2 ^ 32 - 1)) c.in-Err.error c.within.result (λ p. subst (λ n. Passed (min n (2 ^ 32 - 1))) (sym next) (passed_at (ProgramPassed c.args.most_depth) c.args.text.now tokens 0 (passed_front p).0 after (passed_front p).1 p)) c.within.ensures.same (c.within.ensures.at few) deep
