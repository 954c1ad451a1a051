-- The bound of each size of a program on a target: the least number that one of the rules gives; this project's own.
use Rattle.std.specs.Prelude.{◌≡◌, ℕ, ◌≤◌, List, Option, Some}
use Rattle.elastic_ast.specs.declared.flat.At.{At}
use Rattle.elastic_ast.specs.Units.PlainUnits.{PlainUnits}
use Rattle.elastic_ast.specs.Units.Instances.{nth_size}
use Rattle.target_desc.specs.declared.target.Target.{Target}
use Rattle.dep_graph.specs.declared.resource.Resource.TheVariants as resource
use Rattle.place_check.specs.OfUnits.{FeasibleUnits}
use Rattle.unit_flow.specs.SoundUnits.{SoundUnits}
use Rattle.unroll_bound.specs.SizeRules.{lesser, rows_bound, header_bound, stages_bound, shared_bound, cells_bound}

-- what the units and the stages give, beside the rows and the header bits
abbrev pub units_bound : PlainUnits → Target → ℕ → Option ℕ
units_bound units target symbol =
    lesser (stages_bound resource.Stateful units target symbol)
    (lesser (stages_bound resource.Stateless units target symbol)
    (lesser (stages_bound resource.Memory units target symbol)
    (lesser (shared_bound units target symbol) (cells_bound units.terms target.memory_bits symbol units.list))))

-- the bound of the symbol of a number, if a rule gives it one
abbrev pub bound_of_units : PlainUnits → Target → ℕ → Option ℕ
bound_of_units units target symbol =
    lesser (rows_bound symbol units.terms.rows) (lesser (header_bound units target symbol) (units_bound units target symbol))

-- at feasible sizes, each is at most its bound
abbrev pub SizesAreWithin : Type 0
SizesAreWithin =
    (units : PlainUnits) (target : Target) (sizes : List ℕ) (placement : List At)
    → SoundUnits units → FeasibleUnits units target sizes placement
    → (symbol bound : ℕ) → bound_of_units units target symbol ≡ Some bound → nth_size sizes symbol ≤ bound
