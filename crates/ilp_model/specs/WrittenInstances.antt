-- The rows that are written of single instances, by the numbers of their variables; this project's own.
use Rattle.std.specs.Prelude.{ℕ, ℤ, pos, neg_ℤ, ◌*◌, ◌-ℤ◌, List, [], ◌∷◌, ◌++◌, Option, Some, None}
use Rattle.int_program.specs.declared.program.Part.{Part}
use Rattle.int_program.specs.declared.program.Row.{Row}
use Rattle.ilp_model.specs.Rows.{exists_constant}
use Rattle.ilp_model.specs.Written.{written, written_run, written_row}

-- whether an instance is there, whose index has this number, times a number; outside of loops there are no parts
abbrev pub written_exists : Option ℕ → ℕ → ℤ → List Part
written_exists None number by = []
written_exists (Some symbol) number by = written number by

-- the rows that an instance stands in one stage where it is there; its stages have the numbers from the first on
abbrev pub written_stand : Option ℕ → ℕ → ℕ → ℕ → List Row
written_stand size exists first stages =
    written_row (written_exists size exists (neg_ℤ (pos 1)) ++ written_run first stages (pos 1)) (pos (exists_constant size))
    ∷ written_row (written_exists size exists (pos 1) ++ written_run first stages (neg_ℤ (pos 1)))
    (neg_ℤ (pos (exists_constant size)))
    ∷ []

-- the row that an instance has cells in a stage only where it stands there
abbrev pub written_only : ℕ → ℕ → ℕ → Row
written_only most stands held = written_row (written stands (neg_ℤ (pos most)) ++ written held (pos 1)) (pos 0)

-- the row of so many stages of one instance and of another, from numbers on
abbrev pub written_order : ℕ → ℕ → ℕ → ℕ → Row
written_order first from second to = written_row (written_run first from (pos 1) ++ written_run second to (pos 1)) (pos 1)

-- the row that an instance has as many cells as the size of a symbol says, at least, where it is there
abbrev pub written_whole : ℕ → Option ℕ → ℕ → ℕ → ℕ → ℕ → Row
written_whole symbol size exists held stages most =
    written_row (written symbol (pos 1) ++ written_exists size exists (pos most) ++ written_run held stages (neg_ℤ (pos 1)))
    (pos most -ℤ pos (most * exists_constant size))
