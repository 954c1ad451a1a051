use Rattle.std.proofs.Common.{refl}
use Rattle.spelling.specs.Grammar.{IsSign}
use Rattle.spelling.proofs.Places.{begins_takes}
use Rattle.spelling.proofs.reader.Reader.open.Goals as goal

pub returns-clause-taken : goal.returns-clause-taken
returns-clause-taken c =
    let r = c.args.self.now in
    begins_takes (IsSign c.args.bracket.now) r.text.now r.tokens.now r.next (c.if-not-is_at_sign.ensures.0 refl)
