-- The points of a program and their values; this project's own.
use Rattle.std.specs.Prelude.{ℤ, ◌+ℤ◌, ◌≤ℤ◌, ◌<ℤ◌, List, All, Option}
use Rattle.std.specs.Option.{ForSome}
use Rattle.int_program.specs.declared.program.Ip.{Ip}
use Rattle.int_program.specs.declared.program.Row.{Row}
use Rattle.int_program.specs.Sums.{sum_at}
use Rattle.int_program.specs.Boxes.{InBox, root_of}

-- the row holds at the point
abbrev pub Meets : List ℤ → Row → Type 0
Meets x row = sum_at row.parts x ≤ℤ row.most

-- one number for each variable, from 0 to its top, and each row holds
pub record IsPoint (ip : Ip) (x : List ℤ) : Type 0 where
  pub in_root : InBox x (root_of ip)
  pub rows : All (Meets x) ip.rows

-- the objective at a point, its constant included
abbrev pub value_of : Ip → List ℤ → ℤ
value_of ip x = sum_at ip.goal x +ℤ ip.base

-- a point whose value is above the known one; where none is known, any point
pub record IsBetter (ip : Ip) (known : Option ℤ) (x : List ℤ) : Type 0 where
  pub point : IsPoint ip x
  pub above : ForSome known (λ u. u <ℤ value_of ip x)
