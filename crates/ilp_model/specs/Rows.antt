-- The rows of the integer program of units, in their nine groups; this project's own.
use Rattle.std.specs.Prelude.{ℕ, ℤ, pos, neg_ℤ, ◌+◌, ◌-◌, ◌*◌, ◌-ℤ◌, nat_le, List, [], ◌∷◌, ◌++◌, map, flat_map, Option, Some, None}
use Rattle.elastic_ast.specs.declared.flat.Cells.{Cells}
use Rattle.elastic_ast.specs.declared.flat.Cells.TheVariants as cells
use Rattle.elastic_ast.specs.Meaning.Values.{bit}
use Rattle.elastic_ast.specs.Units.PlainUnits.{PlainUnits}
use Rattle.elastic_ast.specs.Units.Order.{Relation, order_of}
use Rattle.target_desc.specs.declared.target.Target.{Target}
use Rattle.dep_graph.specs.declared.resource.Resource.{Resource}
use Rattle.dep_graph.specs.declared.resource.Resource.TheVariants as resource
use Rattle.dep_graph.specs.Use.{taken_by, limit_of}
use Rattle.place_check.specs.FirstFault.{each_pair, resources}
use Rattle.ilp_model.specs.Candidates.{Candidate, candidates, symbolic}
use Rattle.ilp_model.specs.StepKeys.{StepKey, step_keys}
use Rattle.ilp_model.specs.Variables.{Variable}
use Rattle.unroll_bound.specs.Counts.{numbers_below, looped_symbols}
use Rattle.ilp_model.specs.NamedRows.{NamedPart, NamedRow, part, row, plus, minus, once}

-- the sizes of the symbols from a number on, each times its coefficient
abbrev pub size_parts : ℕ → List ℤ → List NamedPart
size_parts symbol [] = []
size_parts symbol (by ∷ rest) = part by (Variable.Size symbol) ∷ size_parts (symbol + 1) rest

-- whether an instance is there, times a number; outside of loops this is a constant, 1
abbrev pub exists_parts : ℤ → Option ℕ → ℕ → List NamedPart
exists_parts by None index = []
exists_parts by (Some symbol) index = part by (Variable.Exists symbol index) ∷ []

abbrev pub exists_constant : Option ℕ → ℕ
exists_constant None = 1
exists_constant (Some symbol) = 0

-- the rows of the terms
abbrev pub term_rows : PlainUnits → List NamedRow
term_rows units = map (λ linear. row (size_parts 0 linear.by) linear.most) units.terms.rows

-- symbols that are at least 1
abbrev pub one_rows : PlainUnits → List NamedRow
one_rows units = map (λ symbol. row (part (neg_ℤ (pos 1)) (Variable.Size symbol) ∷ []) (neg_ℤ (pos 1))) units.terms.ones

-- the bits of headers and metadata
abbrev pub header_row : PlainUnits → Target → NamedRow
header_row units target = row (size_parts 0 (map pos units.symbol_bits)) (pos target.header_bits -ℤ pos units.fixed_bits)

-- a loop runs no more at the index behind than at this one
abbrev pub falling_row : ℕ → ℕ → NamedRow
falling_row symbol index =
    row (part (neg_ℤ (pos 1)) (Variable.Exists symbol index) ∷ part (pos 1) (Variable.Exists symbol (index + 1)) ∷ []) (pos 0)

-- a loop runs at as many indices as the size says, and at the first ones
abbrev pub loop_rows : (ℕ → ℕ) → ℕ → List NamedRow
loop_rows bounds symbol =
    row (part (pos 1) (Variable.Size symbol) ∷ minus once (Variable.Exists symbol) (numbers_below (bounds symbol))) (pos 0)
    ∷ row (part (neg_ℤ (pos 1)) (Variable.Size symbol) ∷ plus once (Variable.Exists symbol) (numbers_below (bounds symbol))) (pos 0)
    ∷ map (falling_row symbol) (numbers_below (bounds symbol - 1))

-- where a key is reached, the size is at least the key; where it isn't, the size is below it
abbrev pub key_rows : (ℕ → ℕ) → StepKey → List NamedRow
key_rows bounds key =
    row (part (neg_ℤ (pos 1)) (Variable.Size key.symbol) ∷ part (pos key.key) (Variable.Reached key) ∷ []) (pos 0)
    ∷ row (part (pos 1) (Variable.Size key.symbol) ∷ part (neg_ℤ (pos (bounds key.symbol - key.key + 1))) (Variable.Reached key) ∷ [])
    (pos key.key -ℤ pos 1)
    ∷ []

-- an instance stands in one stage where it is there, and in none otherwise
abbrev pub stand_rows : ℕ → Candidate → List NamedRow
stand_rows stages one =
    row (exists_parts (neg_ℤ (pos 1)) one.instance.unit.size one.instance.index ++ plus once (Variable.Stands one) (numbers_below stages))
    (pos (exists_constant one.instance.unit.size))
    ∷ row (exists_parts (pos 1) one.instance.unit.size one.instance.index ++ minus once (Variable.Stands one) (numbers_below stages))
    (neg_ℤ (pos (exists_constant one.instance.unit.size)))
    ∷ []

-- an instance has cells only in its stage
abbrev pub only_row : ℕ → Candidate → ℕ → NamedRow
only_row most one stage =
    row (part (neg_ℤ (pos most)) (Variable.Stands one stage) ∷ part (pos 1) (Variable.Held one stage) ∷ []) (pos 0)

-- and as many as the size says, at least, where it is there
abbrev pub whole_row : ℕ → ℕ → Candidate → ℕ → NamedRow
whole_row stages most one symbol =
    row (part (pos 1) (Variable.Size symbol)
    ∷ exists_parts (pos most) one.instance.unit.size one.instance.index ++ minus once (Variable.Held one) (numbers_below stages))
    (pos most -ℤ pos (most * exists_constant one.instance.unit.size))

-- the cells of an instance of which a symbol counts the cells
abbrev pub cell_rows : ℕ → (ℕ → ℕ) → Candidate → Option Cells → List NamedRow
cell_rows stages bounds one None = []
cell_rows stages bounds one (Some (cells.Fixed number)) = []
cell_rows stages bounds one (Some (cells.Symbol symbol)) =
    map (only_row (bounds symbol) one) (numbers_below stages) ++ whole_row stages (bounds symbol) one symbol ∷ []

-- the memory of cells that a symbol counts
abbrev pub held_parts : Resource → ℕ → List Candidate → List NamedPart
held_parts resource.Memory stage ones = plus (λ one. one.instance.unit.cell_width) (λ one. Variable.Held one stage) (symbolic ones)
held_parts resource.Stateful stage ones = []
held_parts resource.Stateless stage ones = []
held_parts resource.TableBits stage ones = []
held_parts resource.TernaryBits stage ones = []

-- what an instance takes at any sizes, in the stage in which it stands, and what it takes by its cells
abbrev pub use_row : Target → List Candidate → ℕ → Resource → NamedRow
use_row target ones stage kind =
    row (plus (λ one. taken_by kind (λ symbol. 0) one.instance.unit) (λ one. Variable.Stands one stage) ones ++ held_parts kind stage ones)
    (pos (limit_of kind target))

abbrev pub use_rows : Target → List Candidate → ℕ → List NamedRow
use_rows target ones stage = map (use_row target ones stage) resources

-- one stands from a stage on, and another up to a stage: not both
abbrev pub order_row : ℕ → Candidate → Candidate → ℕ → ℕ → NamedRow
order_row stages first second from to =
    row (plus (λ stage. bit (nat_le from stage)) (Variable.Stands first) (numbers_below stages)
    ++ plus (λ stage. bit (nat_le stage to)) (Variable.Stands second) (numbers_below stages)) (pos 1)

-- an earlier instance and a later one stand in their order
abbrev pub order_rows : ℕ → Candidate → Candidate → Relation → List NamedRow
order_rows stages first second Relation.Free = []
order_rows stages first second Relation.NotAfter =
    map (λ stage. order_row stages first second (stage + 1) stage) (numbers_below (stages - 1))
order_rows stages first second Relation.Before = map (λ stage. order_row stages first second stage stage) (numbers_below stages)

abbrev pub rows_of_pair : ℕ → Candidate × Candidate → List NamedRow
rows_of_pair stages pair = order_rows stages pair.0 pair.1 (order_of pair.0.instance pair.1.instance)

-- the rows of each group, and of the groups behind it
abbrev pub rows_from_order : PlainUnits → Target → (ℕ → ℕ) → List NamedRow
rows_from_order units target bounds = flat_map (rows_of_pair target.stages) (each_pair (candidates units bounds))

abbrev pub rows_from_use : PlainUnits → Target → (ℕ → ℕ) → List NamedRow
rows_from_use units target bounds =
    flat_map (use_rows target (candidates units bounds)) (numbers_below target.stages) ++ rows_from_order units target bounds

abbrev pub rows_from_cells : PlainUnits → Target → (ℕ → ℕ) → List NamedRow
rows_from_cells units target bounds =
    flat_map (λ one. cell_rows target.stages bounds one one.instance.unit.cells) (candidates units bounds)
    ++ rows_from_use units target bounds

abbrev pub rows_from_stand : PlainUnits → Target → (ℕ → ℕ) → List NamedRow
rows_from_stand units target bounds = flat_map (stand_rows target.stages) (candidates units bounds) ++ rows_from_cells units target bounds

abbrev pub rows_from_keys : PlainUnits → Target → (ℕ → ℕ) → List NamedRow
rows_from_keys units target bounds = flat_map (key_rows bounds) (step_keys units.terms bounds) ++ rows_from_stand units target bounds

abbrev pub rows_from_loops : PlainUnits → Target → (ℕ → ℕ) → List NamedRow
rows_from_loops units target bounds = flat_map (loop_rows bounds) (looped_symbols units) ++ rows_from_keys units target bounds

abbrev pub rows_from_header : PlainUnits → Target → (ℕ → ℕ) → List NamedRow
rows_from_header units target bounds = header_row units target ∷ rows_from_loops units target bounds

abbrev pub rows_from_ones : PlainUnits → Target → (ℕ → ℕ) → List NamedRow
rows_from_ones units target bounds = one_rows units ++ rows_from_header units target bounds

-- the rows, in order
abbrev pub rows : PlainUnits → Target → (ℕ → ℕ) → List NamedRow
rows units target bounds = term_rows units ++ rows_from_ones units target bounds

-- those of sizes, loops and keys, which come before those of instances
abbrev pub size_groups : PlainUnits → Target → (ℕ → ℕ) → List NamedRow
size_groups units target bounds =
    term_rows units
    ++ (one_rows units
    ++ (header_row units target
    ∷ (flat_map (loop_rows bounds) (looped_symbols units) ++ flat_map (key_rows bounds) (step_keys units.terms bounds))))
