use Rattle.std.proofs.Common.{List, length, ap, subst, ◌∙◌}
use Rattle.std.specs.Prelude.{replicate, sum_by}
use Rattle.elastic_ast.specs.Tree.{PlainDecl}
use Rattle.elastic_ast.specs.Seen.{seen_decls}
use Rattle.elastic_ast.specs.Sizes.SizeSums.{symbols_of}
use Rattle.elastic_ast.specs.Typing.LookUps.{meta_fields}
use Rattle.elastic_ast.specs.Units.UnitsOf.{member_bits}
use Rattle.unit_flow.specs.declared.header.HeaderBits.{HeaderBits}
use Rattle.unit_flow.specs.HeaderCounts.{CountsFields, CountsUnits}
use Rattle.unit_flow.proofs.HeaderLaws.{fixed_is, symbols_are}
use Rattle.unit_flow.proofs.header.header_bits.Goals as goal

pub returns-clause-fixed : goal.returns-clause-fixed
returns-clause-fixed c =
    let decls : List PlainDecl = seen_decls c.args.decls.now in
    let none : HeaderBits = record { fixed = c.in_ok-fixed.fixed; each = c.in_ok-each.each } in
    let fields : CountsFields decls none c.add_fields.new.bits (meta_fields decls) =
    subst (CountsFields decls none c.add_fields.new.bits) c.metadata.ensures (subst (λ ds. CountsFields ds none c.add_fields.new.bits c.metadata.result.now) c.requires.same c.in_ok-add_fields.ensures) in
    fixed_is decls none c.add_fields.new.bits c.add_predicates.new.bits
    (c.in_ok-fixed.ensures ∙ ap (λ ds. sum_by (member_bits ds) c.members.result.now) c.requires.same ∙ ap (sum_by (member_bits decls)) c.members.ensures) fields
    (subst (CountsUnits c.add_fields.new.bits c.add_predicates.new.bits) c.requires.listed c.in_ok-add_predicates.ensures)

pub returns-clause-symbols : goal.returns-clause-symbols
returns-clause-symbols c =
    let decls : List PlainDecl = seen_decls c.args.decls.now in
    let none : HeaderBits = record { fixed = c.in_ok-fixed.fixed; each = c.in_ok-each.each } in
    let fields : CountsFields decls none c.add_fields.new.bits (meta_fields decls) =
    subst (CountsFields decls none c.add_fields.new.bits) c.metadata.ensures (subst (λ ds. CountsFields ds none c.add_fields.new.bits c.metadata.result.now) c.requires.same c.in_ok-add_fields.ensures) in
    symbols_are decls none c.add_fields.new.bits c.add_predicates.new.bits c.requires.sound
    (c.in_ok-each.ensures.items_if_clones_equal (λ y h. h) ∙ ap (λ n. replicate n 0) (c.requires.knows.count ∙ ap length c.requires.knows.symbols ∙ ap (λ ds. length (symbols_of ds)) c.requires.same)) fields
    (subst (CountsUnits c.add_fields.new.bits c.add_predicates.new.bits) c.requires.listed c.in_ok-add_predicates.ensures)
