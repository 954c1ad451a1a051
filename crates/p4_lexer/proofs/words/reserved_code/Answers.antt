use Rattle.std.proofs.Common.{refl}
use Rattle.p4_lexer.specs.Pieces.{reserved_words}
use Rattle.p4_lexer.proofs.TableAnswers.{reserved_answer}
use Rattle.p4_lexer.proofs.words.reserved_code.Goals as goal

pub returns : goal.returns
unfolding reserved_words
returns c = reserved_answer _ _ _ c.find.ensures refl
