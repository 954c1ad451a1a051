use Rattle.std.proofs.Common.{true, ◌∙◌, sym, subst}
use Rattle.elastic_ast.specs.Seen.{seen_decls}
use Rattle.unit_flow.specs.OwnLocations.{OwnLocations}
use Rattle.unit_flow.proofs.OwnLaws.{own_locations}
use Rattle.unit_flow.proofs.SoundLaws.{units_sound}
use Rattle.unit_flow.proofs.program.units.Goals as goal

pub returns-clause-sound : goal.returns-clause-sound
returns-clause-sound c =
    units_sound (seen_decls c.args.checked.now) _ c.program.ensures.sound c.requires
    record {
      list = c.in_ok-list.ensures.counted.list;
      fixed = c.in_ok-list.ensures.counted.fixed;
      symbols = c.from_vec.ensures ∙ c.in_ok-list.ensures.counted.symbols;
    }

pub returns-clause-own : goal.returns-clause-own
returns-clause-own c =
    subst (OwnLocations (seen_decls c.args.checked.now)) (sym c.in_ok-list.ensures.counted.list)
    (own_locations true (seen_decls c.args.checked.now) c.program.ensures.sound.typed)
