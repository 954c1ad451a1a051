use Rattle.std.proofs.Common.{refl}
use Rattle.spelling.specs.Grammar.{IsReserved}
use Rattle.spelling.proofs.Places.{begins_takes}
use Rattle.spelling.proofs.reader.Reader.reserved.Goals as goal

pub returns-clause-taken : goal.returns-clause-taken
returns-clause-taken c =
    let r = c.args.self.now in
    begins_takes (IsReserved c.args.text.now) r.text.now r.tokens.now r.next (c.if-not-is_at_reserved.ensures.0 refl)
