use Rattle.std.proofs.Common.{codes, rules}
use Rattle.elastic_ast.specs.Seen.{seen_expr}
use Rattle.spelling.proofs.WordsUpTo.{in_commas_seen}
use Rattle.p4_tables.specs.Tables.{SpellsValue}
use Rattle.p4_tables.proofs.SetSpelling.{value_no_sign}
use Rattle.p4_tables.proofs.sets.value_list.Goals as goal

pub returns : goal.returns
returns c = in_commas_seen {Of = SpellsValue} {seen = seen_expr} (λ value a b m at. value_no_sign value (codes ")") m at) (λ old new r call. search rules) c.commas.ensures
