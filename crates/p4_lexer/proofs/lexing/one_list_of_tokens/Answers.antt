use Rattle.p4_lexer.proofs.OneReading.{one_list, bad_has_none, one_bad_place}
use Rattle.p4_lexer.proofs.lexing.one_list_of_tokens.Goals as goal

pub returns : goal.returns
returns c = record { same = one_list; none = bad_has_none; one_place = one_bad_place }
