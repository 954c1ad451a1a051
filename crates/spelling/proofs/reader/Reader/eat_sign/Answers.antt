use Rattle.spelling.specs.Grammar.{IsSign}
use Rattle.spelling.proofs.Places.{begins_takes}
use Rattle.spelling.proofs.reader.Reader.eat_sign.Goals as goal

pub returns-then-is_here-clause-taken : goal.returns-then-is_here-clause-taken
returns-then-is_here-clause-taken c = λ here.
    let r = c.args.self.now in
    begins_takes (IsSign c.args.sign.now) r.text.now r.tokens.now r.next (c.is_at_sign-is_here.ensures.0 here)
