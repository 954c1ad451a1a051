use Rattle.std.proofs.Common.{codes, rules}
use Rattle.spelling.proofs.WordsUpTo.{in_commas}
use Rattle.p4_parser.specs.Declarations.{SpellsParam}
use Rattle.p4_parser.proofs.ActionSpelling.{param_no_sign}
use Rattle.p4_parser.proofs.actions.param_list.Goals as goal

pub returns : goal.returns
returns c = in_commas {Of = SpellsParam} (λ param a b m at. param_no_sign param (codes ")") m at) (λ old new r call. search rules) c.commas.ensures
