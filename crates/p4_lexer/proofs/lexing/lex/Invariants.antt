use Rattle.std.proofs.Common.{◌≤◌, ◌-◌, length}
use Rattle.p4_lexer.specs.Tokens.{TokensBetween}
use Rattle.p4_lexer.proofs.lexing.lex.Given as goal

abbrev pub invariant-loop-at : goal.invariant-loop-at
invariant-loop-at l = record {
  within : l.at ≤ length l.text;
  few : length l.tokens ≤ l.at;
  reached : TokensBetween l.text 0 l.tokens l.at;
}

abbrev pub decreases-loop-at : goal.decreases-loop-at
decreases-loop-at l = length l.text - l.at
