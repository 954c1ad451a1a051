use Rattle.std.proofs.Common.{refl}
use Rattle.p4_lexer.specs.Pieces.{signs}
use Rattle.p4_lexer.proofs.TableAnswers.{sign_answer}
use Rattle.p4_lexer.proofs.words.longest_sign.Goals as goal

pub returns : goal.returns
unfolding signs
returns c = sign_answer _ _ _ _ c.requires refl c.munch.ensures
