use Rattle.spelling.proofs.Places.{takes_word}
use Rattle.spelling.proofs.reader.Reader.any_number.Goals as goal

pub returns-clause-taken : goal.returns-clause-taken
returns-clause-taken c = takes_word c.in-Some.ensures.words c.in-Number.is
