use Rattle.p4_lexer.proofs.PieceBytes.{range_some}
use Rattle.p4_lexer.proofs.WordTokens.{run_bytes, word_some, word_token, no_word_token}
use Rattle.p4_lexer.proofs.words.word_at.Goals as goal

pub returns : goal.returns
returns c =
    let run = c.word_end-end.ensures in
    word_token _ _ _ _ run.after c.requires.within run.within c.requires.word run.stop c.in_ok-kind.ensures

pub returns-in_err-kind : goal.returns-in_err-kind
returns-in_err-kind c =
    let run = c.word_end-end.ensures in
    rw c.from_residual.ensures
    (no_word_token _ _ _ run.after c.requires.within run.within c.requires.word run.before run.stop c.in_err-kind.ensures)

pub word_kind-requires-clause-bytes : goal.word_kind-requires-clause-bytes
word_kind-requires-clause-bytes c = let run = c.word_end-end.ensures in run_bytes _ _ _ run.within run.before

pub word_kind-requires-clause-some : goal.word_kind-requires-clause-some
word_kind-requires-clause-some c =
    let run = c.word_end-end.ensures in
    range_some _ _ _ (word_some _ _ _ run.after c.requires.within c.requires.word run.stop) run.within
