use Rattle.ilp_model.proofs.instance_groups.put_cell_rows.Goals as goal

pub put_cells_of-requires-clause-fits : goal.put_cells_of-requires-clause-fits
put_cells_of-requires-clause-fits c = c.requires.fits c.loop-place.place _ c.loop-place-test.true
