use Rattle.int_program.proofs.PlaceLaws.{same_boxes, open_fewer}
use Rattle.int_program.proofs.laws.places_have_the_boxes_of_the_list.Goals as goal

pub returns-clause-boxes : goal.returns-clause-boxes
returns-clause-boxes c = same_boxes

pub returns-clause-short : goal.returns-clause-short
returns-clause-short c = open_fewer
