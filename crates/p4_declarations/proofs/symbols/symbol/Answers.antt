use Rattle.std.proofs.Common.{ap, codes}
use Rattle.elastic_ast.specs.Seen.{seen_decl}
use Rattle.spelling.proofs.Balance.{stays_reserved}
use Rattle.spelling.proofs.ByParts.{behind_word, made_of, words_within}
use Rattle.p4_declarations.proofs.symbols.symbol.Goals as goal

pub returns : goal.returns
returns c = λ depth.
    made_of (λ y z is. ap seen_decl is) c.map.ensures.cases
    (behind_word c.reserved.new.self (stays_reserved (codes "symbolic")) c.in_ok-reserved.ensures.taken
    (behind_word c.reserved-2.new.self (stays_reserved (codes "int")) c.in_ok-reserved-2.ensures.taken
    (words_within c.ended_name.ensures)))
