use Rattle.std.proofs.Common.{length}
use Rattle.std.proofs.lemmas.Bool.{leb-true, le-leb}
use Rattle.spelling.proofs.Places.{none_ahead, past_all}
use Rattle.spelling.proofs.reader.Reader.is_done.Goals as goal

pub returns : goal.returns
returns c =
    let r = c.args.self.now in
    (λ h. none_ahead r.text.now r.tokens.now r.next (leb-true (length r.tokens.now) r.next h), λ h. le-leb (length r.tokens.now) r.next (past_all r.text.now r.tokens.now r.next h))
