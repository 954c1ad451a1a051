use Rattle.spelling.specs.Grammar.{IsSign}
use Rattle.spelling.proofs.Places.{touching_takes}
use Rattle.spelling.proofs.reader.Reader.eat_touching.Goals as goal

pub returns-then-is_here-clause-taken : goal.returns-then-is_here-clause-taken
returns-then-is_here-clause-taken c = λ here.
    let r = c.args.self.now in
    touching_takes (IsSign c.args.one.now) (IsSign c.args.other.now) r.text.now r.tokens.now r.next (c.is_at_touching-is_here.ensures.0 here)
