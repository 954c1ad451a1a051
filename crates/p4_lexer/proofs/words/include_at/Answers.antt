use Rattle.std.proofs.Common.{◌∙◌, refl, sym, arith}
use Rattle.std.proofs.lemmas.Bool.{false≢true}
use Rattle.p4_lexer.proofs.PieceBytes.{front_of_rest}
use Rattle.p4_lexer.proofs.IncludeTokens.{include_token, file_within, file_at, no_include_word, no_include_blank, no_include_file}
use Rattle.p4_lexer.proofs.words.include_at.Goals as goal

pub returns : goal.returns
returns c =
    let blanks = c.blanks_end-file.ensures in
    include_token _ _ c.blanks_end-file.result _ c.requires.include (omega arith)
    (file_within c.args.text.now c.blanks_end-file.result blanks.within c.in_ok-code.ensures.within)
    (sym (front_of_rest c.args.text.now c.args.at 8) ∙ c.if-not-is_include.ensures.word.0 refl)
    blanks.before
    (file_at c.args.text.now c.blanks_end-file.result _ c.in_ok-code.ensures.file)

pub returns-then-not-is_include : goal.returns-then-not-is_include
returns-then-not-is_include c =
    no_include_word _ _ c.requires.include (λ word. false≢true (c.if-not-is_include.ensures.word.1 word))

pub returns-then-file-at : goal.returns-then-file-at
returns-then-file-at c = no_include_blank _ _ _ c.requires.include c.blanks_end-file.ensures.stop c.if-file-at.true

pub returns-in_err-code : goal.returns-in_err-code
returns-in_err-code c =
    let blanks = c.blanks_end-file.ensures in
    rw c.from_residual.ensures
    (no_include_file _ _ _ c.requires.include blanks.after blanks.before blanks.stop c.in_err-code.ensures.file)
