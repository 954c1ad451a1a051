use Rattle.std.proofs.Common.{rules, ◌≡◌, ◌∙◌}
use Rattle.elastic_ast.specs.Containers.KeyHash.{index_number}
use Rattle.elastic_ast.proofs.Containers.KeyLaws.{hash_of_parts}
use Rattle.elastic_ast.proofs.registers.key_hash.Goals as goal
use Rattle.elastic_ast.proofs.registers.key_hash.Goals.{in-None, in-Some}

pub returns : goal.returns
returns c =
    let number : c.match-index.number ≡ index_number c.args.index = elim c.match-index.branch [ in-None w ↦ search rules | in-Some w ↦ search rules ] in
    c.hash_number.ensures ∙ hash_of_parts c.args.name.now c.args.index _ _ (search rules) number
