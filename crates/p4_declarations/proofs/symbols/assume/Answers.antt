use Rattle.std.proofs.Common.{ap, codes, rules}
use Rattle.elastic_ast.specs.Seen.{seen_decl}
use Rattle.spelling.proofs.Balance.{stays_named}
use Rattle.spelling.proofs.ByParts.{behind_word, made_of, with_sign}
use Rattle.p4_declarations.proofs.symbols.assume.Goals as goal

pub returns : goal.returns
returns c =
    made_of (λ y z is. ap seen_decl is) c.map.ensures.cases
    (behind_word c.fixed_name.new.self (stays_named (codes "assume")) c.in_ok-fixed_name.ensures.taken
    (with_sign (λ old new r call. search rules) c.then_sign.ensures))
