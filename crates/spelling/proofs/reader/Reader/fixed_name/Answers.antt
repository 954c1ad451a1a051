use Rattle.std.proofs.Common.{refl}
use Rattle.spelling.specs.Grammar.{IsNamed}
use Rattle.spelling.proofs.Places.{begins_takes}
use Rattle.spelling.proofs.reader.Reader.fixed_name.Goals as goal

pub returns-clause-taken : goal.returns-clause-taken
returns-clause-taken c =
    let r = c.args.self.now in
    begins_takes (IsNamed c.args.name.now) r.text.now r.tokens.now r.next (c.if-not-is_at_name.ensures.0 refl)
