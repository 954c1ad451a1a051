use Rattle.p4_lexer.proofs.WordTokens.{sign_token, no_sign_token}
use Rattle.p4_lexer.proofs.words.sign_at.Goals as goal

pub returns : goal.returns
returns c = sign_token _ _ _ _ c.requires.not_word c.requires.not_include c.in_ok-code.ensures

pub returns-in_err-code : goal.returns-in_err-code
returns-in_err-code c = rw c.from_residual.ensures (no_sign_token _ _ c.requires.not_word c.requires.not_include c.in_err-code.ensures)
