use Rattle.std.proofs.Common.{◌≡◌, FitsSigned, rules, arith, ◌^◌, ◌-◌}
use Rattle.std.proofs.lemmas.Int.{to_z-of_z}
use Rattle.std.specs.Int.{w128}
use Rattle.int_program.specs.Bounds.{least_of}
use Rattle.int_program.specs.Tightening.{factor, others}
use Rattle.int_program.proofs.SumLaws.{fits_small}
use Rattle.int_program.proofs.TightLaws.{tight_is}
use Rattle.int_program.proofs.tightening.ends_left.Goals as goal

pub returns : goal.returns
returns c =
    let f : FitsSigned w128 c.factor_of-factor.result = search rules in
    let g : FitsSigned w128 c.least_of_others-least.result = search rules in
    let h : FitsSigned w128 c.rounded-end.result = search rules in
    let k : FitsSigned w128 c.args.row.now.most = fits_small c.args.row.now.most (2 ^ 100 - 1) (omega (arith, c.requires.small.small)) (omega arith) in
    let end = simp to_z-of_z at c.rounded-end.ensures in
    let ends = simp to_z-of_z at c.shrunk_at.ensures in
    let factor : c.factor_of-factor.result ≡ factor c.args.row.now.parts c.args.var = rw c.as_slice.ensures at c.factor_of-factor.ensures.value in
    let least : c.least_of_others-least.result ≡ least_of (others c.args.row.now.parts c.args.var) c.args.within.now = rw c.as_slice-3.ensures at c.least_of_others-least.ensures.value in
    tight_is c.args.row.now c.args.var c.args.within.now c.shrunk_at.result c.factor_of-factor.result c.least_of_others-least.result c.rounded-end.result ends end factor least
