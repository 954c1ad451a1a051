-- What is known of plain units, of the units that show them; and that no bound is large.
use Rattle.std.proofs.Common.{◌≡◌, ℕ, zero, suc, ◌*◌, ◌≤◌, Bool, true, false, List, [], ◌∷◌, map, length, get_or, Option, Some, None, subst, arith, ℤ, pos, negsuc}
use Rattle.std.specs.Prelude.{◌/◌, All, IfSome, unsigned_abs, if◌then◌else◌}
use Rattle.std.specs.List.{list_all}
use Rattle.std.proofs.lemmas.List.Elements.{All-head, All-tail, All-nil, All-cons}
use native.Mathlib.Nat.{div-le_self, mul-le-mul}
use Rattle.elastic_ast.specs.declared.flat.Cells.{Cells}
use Rattle.elastic_ast.specs.declared.flat.Cells.TheVariants as cells
use Rattle.elastic_ast.specs.declared.flat.Linear.{Linear}
use Rattle.elastic_ast.specs.declared.flat.Terms.{Terms}
use Rattle.elastic_ast.specs.declared.flat.Units.{Units}
use Rattle.elastic_ast.specs.declared.flat.Unit.{Unit as FlatUnit}
use Rattle.elastic_ast.specs.Units.PlainUnits.{PlainUnit, PlainUnits}
use Rattle.elastic_ast.specs.Units.SeenUnits.{seen_unit, seen_units}
use Rattle.size_terms.specs.Rows.{is_whole, IsShort}
use Rattle.size_terms.specs.SumLimits.{most_right_side}
use Rattle.target_desc.specs.declared.target.Target.{Target}
use Rattle.target_desc.specs.InRange.{IsInRange}
use Rattle.dep_graph.specs.declared.resource.Resource.TheVariants as resource
use Rattle.unit_flow.specs.SoundUnits.{SoundUnits, IsLoopSize, IsCellCount}
use Rattle.unroll_bound.specs.LoopUses.{NamesSymbol}
use Rattle.unroll_bound.specs.SizeRules.{lesser, share, most_times, row_bound, rows_bound, coefficient, header_bound, stages_bound, is_shared, shared_bound, cell_bound, cells_bound}
use Rattle.unroll_bound.specs.UnitBounds.{bound_of_units}

all_unmapped : {A B : Type 0} (f : A → B) (P : B → Type 0) (Q : A → Type 0) → ((x : A) → P (f x) → Q x) → (xs : List A) → All P (map f xs) → All Q xs
all_unmapped f P Q g [] h = All-nil Q
all_unmapped f P Q g (x ∷ xs) h = All-cons Q x xs (g x (All-head P (f x) (map f xs) h)) (all_unmapped f P Q g xs (All-tail P (f x) (map f xs) h))

pub sound_sizes : (units : Units) → SoundUnits (seen_units units) → All (λ unit. IsLoopSize (length units.terms.symbols) unit.size) units.list
sound_sizes units sound =
    all_unmapped seen_unit (λ (unit : PlainUnit). IsLoopSize (length units.terms.symbols) unit.size) (λ (unit : FlatUnit). IsLoopSize (length units.terms.symbols) unit.size) (λ unit h. h) units.list sound.sizes

named_cells : (symbols : ℕ) (ones : List ℕ) (count : Option Cells) → IsCellCount symbols ones count → NamesSymbol symbols count
named_cells symbols ones None h = tt
named_cells symbols ones (Some (cells.Fixed number)) h = tt
named_cells symbols ones (Some (cells.Symbol symbol)) h = h.0

pub sound_cells : (units : Units) → SoundUnits (seen_units units) → All (λ unit. NamesSymbol (length units.terms.symbols) unit.cells) units.list
sound_cells units sound =
    all_unmapped seen_unit (λ (unit : PlainUnit). IsCellCount (length units.terms.symbols) units.terms.ones unit.cells) (λ (unit : FlatUnit). NamesSymbol (length units.terms.symbols) unit.cells)
    (λ unit h. named_cells (length units.terms.symbols) units.terms.ones unit.cells h) units.list sound.counts

-- no bound that a rule gives is above this
abbrev pub most_given : ℕ
most_given = 64000000001

abbrev pub IsGiven : Option ℕ → Type 0
IsGiven bound = IfSome bound (λ number. number ≤ most_given)

given_lesser : (bound other : Option ℕ) → IsGiven bound → IsGiven other → IsGiven (lesser bound other)
given_lesser None other h g = g
given_lesser (Some bound) None h g = h
given_lesser (Some bound) (Some other) h g = omega (arith, h, g)

div_small : (amount among : ℕ) → amount / suc among ≤ amount
div_small amount among = div-le_self amount (suc among)

given_share : (amount among : ℕ) → amount ≤ most_given → IsGiven (share amount among)
given_share amount zero h = tt
given_share amount (suc among) h = let d = div_small amount among in omega (arith, d, h)

given_times : (most by : ℤ) → unsigned_abs most ≤ most_right_side → IsGiven (most_times most by)
given_times (pos most) (negsuc by) h = tt
given_times (negsuc most) (negsuc by) h = tt
given_times (pos most) (pos zero) h = tt
given_times (negsuc most) (pos zero) h = tt
given_times (pos most) (pos (suc by)) h = let d = div_small most by in omega (arith, d, h)
given_times (negsuc most) (pos (suc by)) h = omega arith

given_if : (test : Bool) (bound : Option ℕ) → IsGiven bound → IsGiven (if test then bound else None)
given_if true bound h = h
given_if false bound h = tt

given_rows : (symbols symbol : ℕ) (rows : List Linear) → All (λ row. IsShort symbols row.by row.most) rows → IsGiven (rows_bound symbol rows)
given_rows symbols symbol [] h = tt
given_rows symbols symbol (row ∷ rows) h =
    given_lesser (row_bound symbol row) (rows_bound symbol rows)
    (given_if (list_all is_whole row.by) (most_times row.most (coefficient row symbol)) (given_times row.most (coefficient row symbol) (All-head (λ (r : Linear). IsShort symbols r.by r.most) row rows h).near))
    (given_rows symbols symbol rows (All-tail (λ (r : Linear). IsShort symbols r.by r.most) row rows h))

given_cells : (terms : Terms) (memory symbol : ℕ) (units : List PlainUnit) → memory ≤ most_given → IsGiven (cells_bound terms memory symbol units)
given_cells terms memory symbol [] h = tt
given_cells terms memory symbol (unit ∷ units) h =
    given_lesser (cell_bound terms memory symbol unit) (cells_bound terms memory symbol units) (given_if _ (share memory unit.cell_width) (given_share memory unit.cell_width h)) (given_cells terms memory symbol units h)

times_small : (stages limit : ℕ) → stages ≤ 64 → limit ≤ 1000000000 → stages * limit ≤ most_given
times_small stages limit h g = let k : stages * limit ≤ 64 * 1000000000 = mul-le-mul h g in omega (arith, k)

given_bound : (units : PlainUnits) (target : Target) (symbol : ℕ) → SoundUnits units → IsInRange target → IsGiven (bound_of_units units target symbol)
given_bound units target symbol sound range =
    let stages = range.stages.1 in
    given_lesser (rows_bound symbol units.terms.rows) _ (given_rows (length units.terms.symbols) symbol units.terms.rows sound.short.rows)
    (given_lesser (header_bound units target symbol) _ (given_share target.header_bits (get_or units.symbol_bits symbol 0) (let h = range.header_bits in omega (arith, h)))
    (given_lesser (stages_bound resource.Stateful units target symbol) _ (given_share (target.stages * target.stateful) _ (times_small target.stages target.stateful stages (let h = range.stateful in omega (arith, h))))
    (given_lesser (stages_bound resource.Stateless units target symbol) _ (given_share (target.stages * target.stateless) _ (times_small target.stages target.stateless stages (let h = range.stateless in omega (arith, h))))
    (given_lesser (stages_bound resource.Memory units target symbol) _ (given_share (target.stages * target.memory_bits) _ (times_small target.stages target.memory_bits stages range.memory_bits))
    (given_lesser (shared_bound units target symbol) _ (given_if (is_shared symbol units.list) (Some target.stages) (omega (arith, stages)))
    (given_cells units.terms target.memory_bits symbol units.list (let h = range.memory_bits in omega (arith, h))))))))

pub small_given : (units : PlainUnits) (target : Target) (symbol bound : ℕ) → SoundUnits units → IsInRange target → bound_of_units units target symbol ≡ Some bound → bound ≤ most_given
small_given units target symbol bound sound range e = subst IsGiven e (given_bound units target symbol sound range)
