-- A small program worked by hand: the reasons in their order, the boxes that nodes open, and the sums. Each line is computed.
use Rattle.std.proofs.Common.{◌≡◌, ℕ, ℤ, pos, negsuc, [], ◌∷◌, Some, None, refl, ◌-◌, ◌^◌}
use Rattle.int_program.specs.Accepts.{fault_of, children, Accepts}
use Rattle.int_program.specs.Stopping.{tried_dual, tried_far}
use Rattle.int_program.specs.Counting.{root_points}
use Rattle.int_program.specs.declared.program.Ip.{Ip}
use Rattle.int_program.specs.declared.program.IpBox.{IpBox}
use Rattle.int_program.specs.declared.program.Part.{Part}
use Rattle.int_program.specs.declared.program.Weight.{Weight}
use Rattle.int_program.specs.declared.program.Node.TheVariants.{Split, Tight, RowLeaf, GoalLeaf, Dual, Far, Unsolved}
use Rattle.int_program.specs.declared.program.Why.TheVariants as why

abbrev pub part : ℕ → ℤ → Part
part v a = record { var = v; by = a }

abbrev weight : ℕ → ℤ → Weight
weight r w = record { row = r; by = w }

-- two variables up to 5 and 3; the rows 2 x + 3 y <= 7, x - y <= -1 and -x <= -6; the objective 4 x + y + 10
abbrev pub ip : Ip
ip =
    record {
      tops = pos 5 ∷ pos 3 ∷ [];
      rows = record { parts = part 0 (pos 2) ∷ part 1 (pos 3) ∷ []; most = pos 7 } ∷ record { parts = part 0 (pos 1) ∷ part 1 (negsuc 0) ∷ []; most = negsuc 0 } ∷ record { parts = part 0 (negsuc 0) ∷ []; most = negsuc 5 } ∷ [];
      goal = part 0 (pos 4) ∷ part 1 (pos 1) ∷ [];
      base = pos 10;
    }

-- x from 1 to 4, y from 0 to 3
abbrev pub b : IpBox
b = record { low = pos 1 ∷ pos 0 ∷ []; high = pos 4 ∷ pos 3 ∷ [] }

abbrev low : IpBox
low = record { low = pos 1 ∷ pos 0 ∷ []; high = pos 2 ∷ pos 3 ∷ [] }

abbrev high : IpBox
high = record { low = pos 3 ∷ pos 0 ∷ []; high = pos 4 ∷ pos 3 ∷ [] }

split_works : fault_of ip None b (Split 0 (pos 2)) ≡ None
split_works = refl

split_opens : children ip b (Split 0 (pos 2)) ≡ low ∷ high ∷ []
split_opens = refl

split_at_the_top : fault_of ip None b (Split 0 (pos 4)) ≡ Some why.BadSplit
split_at_the_top = refl

split_below : fault_of ip None b (Split 1 (negsuc 0)) ≡ Some why.BadSplit
split_below = refl

split_of_nothing : fault_of ip None b (Split 2 (pos 2)) ≡ Some why.BadVar
split_of_nothing = refl

-- 2 x <= 7 - 0 leaves x up to 3; x - y <= -1 leaves y from 2 on
tight_high : children ip b (Tight 0 0) ≡ record { low = pos 1 ∷ pos 0 ∷ []; high = pos 3 ∷ pos 3 ∷ [] } ∷ []
tight_high = refl

tight_low : children ip b (Tight 1 1) ≡ record { low = pos 1 ∷ pos 2 ∷ []; high = pos 4 ∷ pos 3 ∷ [] } ∷ []
tight_low = refl

tight_works : fault_of ip None b (Tight 1 1) ≡ None
tight_works = refl

tight_empty : fault_of ip None b (Tight 0 2) ≡ Some why.NotTight
tight_empty = refl

tight_no_coefficient : fault_of ip None b (Tight 1 2) ≡ Some why.NotTight
tight_no_coefficient = refl

tight_no_row : fault_of ip None b (Tight 0 3) ≡ Some why.BadVar
tight_no_row = refl

tight_no_variable : fault_of ip None b (Tight 2 0) ≡ Some why.BadVar
tight_no_variable = refl

row_closes : fault_of ip None b (RowLeaf 2) ≡ None
row_closes = refl

row_holds : fault_of ip None b (RowLeaf 0) ≡ Some why.RowHolds
row_holds = refl

-- the objective is at most 16 + 3 + 10
goal_closes : fault_of ip (Some (pos 29)) b GoalLeaf ≡ None
goal_closes = refl

goal_above : fault_of ip (Some (pos 28)) b GoalLeaf ≡ Some why.ObjAbove
goal_above = refl

goal_for_none : fault_of ip None b GoalLeaf ≡ Some why.ObjAbove
goal_for_none = refl

-- 3 * goal - 4 * (2 x + 3 y) is 4 x - 9 y: with 4 * 7 and 3 * 10 that is at most 28 + 16 + 0 + 30, and 74 / 3 rounds down to 24
dual_bounds : tried_dual ip b (pos 3) (weight 0 (pos 4) ∷ []) ≡ Some (pos 74)
dual_bounds = refl

dual_closes : fault_of ip (Some (pos 24)) b (Dual (pos 3) (weight 0 (pos 4) ∷ [])) ≡ None
dual_closes = refl

dual_short : fault_of ip (Some (pos 23)) b (Dual (pos 3) (weight 0 (pos 4) ∷ [])) ≡ Some why.DualShort
dual_short = refl

-- the reasons in their order: rows, signs and value, width, bound
dual_no_row : fault_of ip None b (Dual (pos 0) (weight 3 (negsuc 0) ∷ [])) ≡ Some why.BadVar
dual_no_row = refl

dual_for_none : fault_of ip None b (Dual (pos 1) []) ≡ Some why.DualShort
dual_for_none = refl

dual_over_zero : fault_of ip (Some (pos 99)) b (Dual (pos 0) (weight 0 (pos (2 ^ 127 - 1)) ∷ [])) ≡ Some why.DualShort
dual_over_zero = refl

dual_negative : fault_of ip (Some (pos 99)) b (Dual (pos 1) (weight 0 (pos (2 ^ 127 - 1)) ∷ weight 1 (negsuc 0) ∷ [])) ≡ Some why.DualShort
dual_negative = refl

dual_wide : fault_of ip (Some (pos 99)) b (Dual (pos 1) (weight 0 (pos (2 ^ 127 - 1)) ∷ [])) ≡ Some why.Wide
dual_wide = refl

-- 2 * (x - y) + 3 * (-x) is -x - 2 y, at least -10, and the right sides are -2 - 18
far_sums : tried_far ip b (weight 1 (pos 2) ∷ weight 2 (pos 3) ∷ []) ≡ Some (negsuc 19, negsuc 9)
far_sums = refl

far_closes : fault_of ip None b (Far (weight 1 (pos 2) ∷ weight 2 (pos 3) ∷ [])) ≡ None
far_closes = refl

far_short : fault_of ip None b (Far []) ≡ Some why.DualShort
far_short = refl

far_negative : fault_of ip None b (Far (weight 0 (negsuc 0) ∷ [])) ≡ Some why.DualShort
far_negative = refl

far_no_row : fault_of ip None b (Far (weight 0 (negsuc 0) ∷ weight 3 (pos 1) ∷ [])) ≡ Some why.BadVar
far_no_row = refl

far_wide : fault_of ip None b (Far (weight 0 (pos (2 ^ 126)) ∷ [])) ≡ Some why.Wide
far_wide = refl

open_leaf : fault_of ip (Some (pos 99)) b Unsolved ≡ Some why.Unsolved
open_leaf = refl

-- 6 times 4 points; row 2 holds nowhere
points : root_points ip ≡ 24
points = refl

whole_tree : Accepts ip None (record { nodes = Split 1 (pos 0) ∷ RowLeaf 2 ∷ RowLeaf 2 ∷ [] })
whole_tree = (refl, (refl, (refl, refl)))
