-- The limits of a program within which no sum of a row or of the objective leaves 128 bits; this project's own.
use Rattle.std.specs.Prelude.{ℕ, ℤ, pos, ◌+◌, ◌*◌, ◌^◌, ◌<◌, ◌≤◌, ◌≤ℤ◌, List, [], ◌∷◌, length, max, unsigned_abs, All}
use Rattle.int_program.specs.declared.program.Ip.{Ip}
use Rattle.int_program.specs.declared.program.Part.{Part}
use Rattle.int_program.specs.Sums.{at}

-- the most variables and rows of a program
abbrev pub most_variables : ℕ
most_variables = 100000

abbrev pub most_rows : ℕ
most_rows = 200000

-- what a row, with what stands beside it, must stay below
abbrev pub weight_limit : ℕ
weight_limit = 2 ^ 100

-- how large one part can get: its absolute value times the greater of its variable's top and 1
abbrev pub part_weight : Part → List ℤ → ℕ
part_weight p tops = unsigned_abs p.by * max (unsigned_abs (at tops p.var)) 1

abbrev pub weight : List Part → List ℤ → ℕ
weight [] tops = 0
weight (p ∷ ps) tops = part_weight p tops + weight ps tops

-- each variable stands once at most, by rising number
abbrev pub IsRising : List Part → Type 0
IsRising [] = Unit {0}
IsRising (p ∷ ps) = All (λ q. p.var < q.var) ps × IsRising ps

-- the parts name variables that have a top, each once at most, and are small together with a number beside them
pub record AreSmall (ps : List Part) (beside : ℤ) (tops : List ℤ) : Type 0 where
  pub vars : All (λ p. p.var < length tops) ps
  pub rising : IsRising ps
  pub small : weight ps tops + unsigned_abs beside < weight_limit

-- the limits of a program
pub record IsInLimits (ip : Ip) : Type 0 where
  pub variables : length ip.tops ≤ most_variables
  pub row_count : length ip.rows ≤ most_rows
  pub tops : All (λ top. pos 0 ≤ℤ top) ip.tops
  pub rows : All (λ row. AreSmall row.parts row.most ip.tops) ip.rows
  pub goal : AreSmall ip.goal ip.base ip.tops
