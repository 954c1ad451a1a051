use Rattle.std.proofs.Common.{◌∷◌, [], length, ap, arith, length-append}
use Rattle.p4_lexer.proofs.LexLemmas.{all_tokens, behind_spacing, none_at_start, spacing_after, spacing_within, token_added, tokens_within}
use Rattle.p4_lexer.proofs.lexing.lex.Goals as goal

pub loop-at-init : goal.loop-at-init
loop-at-init c = record {
  within = omega arith;
  few = omega (arith, ap length c.new-tokens.ensures);
  reached = rw c.new-tokens.ensures (none_at_start _);
}

pub loop-at-preserved-in-Some : goal.loop-at-preserved-in-Some
loop-at-preserved-in-Some c =
    let spacing = c.in-Some.ensures in
    record {
      within = spacing_within _ _ _ spacing;
      few = omega (arith, spacing_after _ _ _ spacing);
      reached = behind_spacing _ _ _ _ _ c.loop-at.invariant.reached spacing;
    }

pub loop-at-preserved : goal.loop-at-preserved
loop-at-preserved c =
    let token = c.in-Some-token_at.ensures in
    record {
      within = token.longest.within;
      few = omega (arith, ap length c.in_ok-add.ensures.added, length-append c.loop-at.tokens (c.in-Some-token_at.token ∷ []), token.at_is, token.longest.some);
      reached = token_added _ _ _ _ _ c.loop-at.invariant.reached token c.in_ok-add.ensures.added;
    }

pub returns-clause-tokens : goal.returns-clause-tokens
returns-clause-tokens c =
    let within = c.loop-at.invariant.within in
    let past = c.loop-at-test.false in
    all_tokens _ _ _ c.loop-at.invariant.reached (omega arith)

pub returns-clause-within : goal.returns-clause-within
returns-clause-within c = tokens_within _ _ _ _ c.loop-at.invariant.reached
