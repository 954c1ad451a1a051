use Rattle.std.proofs.Common.{refl}
use Rattle.spelling.specs.Grammar.{IsNum}
use Rattle.spelling.proofs.Places.{begins_takes}
use Rattle.spelling.proofs.reader.Reader.number.Goals as goal

pub returns-in_default-clause-refused : goal.returns-in_default-clause-refused
returns-in_default-clause-refused c = rw c.refusal.ensures (refl, λ at. c.in_default.not-Some at.0 (c.number_ahead.ensures.all at.0 at.2))

pub returns-clause-taken : goal.returns-clause-taken
returns-clause-taken c =
    let r = c.args.self.now in
    begins_takes (IsNum c.in-Some.value) r.text.now r.tokens.now r.next c.in-Some.ensures.some
