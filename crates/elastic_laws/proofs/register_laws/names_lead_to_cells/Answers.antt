use Rattle.elastic_laws.proofs.Containers.LookUpLaws.{register_at-push, register_at-kept, register_at-with_cell, cell_named, width_at-with_cell, values_at-with_cell, values_at-with_cell_other}
use Rattle.elastic_laws.proofs.register_laws.names_lead_to_cells.Goals as goal

pub returns : goal.returns
returns c = record {
  stay = record {
    put = register_at-push;
    put_after = register_at-kept;
    written = register_at-with_cell;
  };
  cells = record {
    cells = cell_named;
    width = width_at-with_cell;
    values = values_at-with_cell;
    other_values = values_at-with_cell_other;
  };
}
