-- The integer program of units on a target, within bounds of sizes; this project's own.
use Rattle.std.specs.Prelude.{ℕ, pos, Bool, not, List, map, filter}
use Rattle.std.specs.Ordering.{int_eq}
use Rattle.elastic_ast.specs.Units.PlainUnits.{PlainUnits}
use Rattle.target_desc.specs.declared.target.Target.{Target}
use Rattle.int_program.specs.declared.program.Ip.{Ip}
use Rattle.int_program.specs.declared.program.Part.{Part}
use Rattle.int_program.specs.declared.program.Row.{Row}
use Rattle.ilp_model.specs.Variables.{Variable, variables, variable_number, top_of}
use Rattle.ilp_model.specs.NamedRows.{NamedPart, NamedRow}
use Rattle.ilp_model.specs.Rows.{rows}
use Rattle.ilp_model.specs.Objective.{objective, constant}

abbrev pub has_coefficient : NamedPart → Bool
has_coefficient part = not (int_eq part.by (pos 0))

abbrev pub part_of : (Variable → ℕ) → NamedPart → Part
part_of number part = record { var = number part.variable; by = part.by }

-- the parts with a coefficient other than 0, by number
abbrev pub parts_of : (Variable → ℕ) → List NamedPart → List Part
parts_of number parts = map (part_of number) (filter has_coefficient parts)

abbrev pub row_of : (Variable → ℕ) → NamedRow → Row
row_of number row = record { parts = parts_of number row.parts; most = row.most }

abbrev pub ip_of : PlainUnits → Target → (ℕ → ℕ) → Ip
ip_of units target bounds =
    record {
      tops = map (λ variable. pos (top_of bounds variable)) (variables units target bounds);
      rows = map (row_of (variable_number units target bounds)) (rows units target bounds);
      goal = parts_of (variable_number units target bounds) (objective units.terms bounds);
      base = constant units.terms;
    }
