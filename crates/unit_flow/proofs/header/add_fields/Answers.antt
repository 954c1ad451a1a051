use Rattle.std.proofs.Common.{◌+◌, drop, sym, subst}
use Rattle.program_names.proofs.Items.{drop_step}
use Rattle.unit_flow.specs.HeaderCounts.{CountsFields, field_width, field_under}
use Rattle.unit_flow.specs.Knowing.{known_decls}
use Rattle.unit_flow.proofs.CountLaws.{counts_step}
use Rattle.unit_flow.proofs.header.add_fields.Goals as goal

pub loop-field-preserved : goal.loop-field-preserved
loop-field-preserved c = λ new rest.
    c.loop-field.invariant new
    (subst (CountsFields (known_decls c.args.known.now) c.loop-field.bits new) (sym (drop_step c.args.fields.now c.loop-field.field-index c.field-item.result c.loop-field-test.true c.field-item.is))
    (counts_step field_width (field_under (known_decls c.args.known.now)) c.loop-field.bits c.add_under.new.bits new c.field-item.result (drop (c.loop-field.field-index + 1) c.args.fields.now) c.from.result c.symbol_of.result c.from.ensures c.symbol_of.ensures
    c.in_ok-add_under.ensures rest))
