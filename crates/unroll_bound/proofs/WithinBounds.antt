-- At feasible sizes each is at most its bound.
use Rattle.std.proofs.Common.{◌≡◌, ℕ, ◌*◌, ◌≤◌, Bool, true, false, length, get_or, Some, None, refl, arith}
use Rattle.std.specs.Prelude.{if◌then◌else◌}
use Rattle.std.specs.List.{AllByRecursion}
use Rattle.std.proofs.Math.Nat.{mul-le-mul_left}
use Rattle.std.proofs.lemmas.List.Elements.{recursion_from_All}
use Rattle.elastic_ast.specs.Units.Instances.{nth_size}
use Rattle.dep_graph.specs.declared.resource.Resource.TheVariants as resource
use Rattle.dep_graph.specs.Use.{taken_by, limit_of}
use Rattle.unit_flow.specs.SoundUnits.{IsCellCount}
use Rattle.unroll_bound.specs.SizeRules.{lesser, looped_sum, one_each, is_shared, rows_bound, header_bound, stages_bound, shared_bound, cells_bound}
use Rattle.unroll_bound.specs.UnitBounds.{units_bound, SizesAreWithin}
use Rattle.unroll_bound.proofs.Totals.{each_more}
use Rattle.unroll_bound.proofs.RuleLaws.{lesser_law, share_law, rows_law, weighed_at}
use Rattle.unroll_bound.proofs.LoopLaws.{looped_more, stages_law, shared_law, running_law, surely_runs, one_memory, cells_law}

shared_within : (v : Bool) (stages size bound : ℕ) → (v ≡ true → size ≤ stages) → (if v then Some stages else None) ≡ Some bound → size ≤ bound
shared_within true stages size bound h e = let q : stages ≡ bound = cc in omega (arith, q, h refl)
shared_within false stages size bound h e = absurd (cc e)

pub sizes_within : SizesAreWithin
sizes_within units target sizes placement sound feasible symbol bound e =
    let z : ℕ → ℕ = nth_size sizes in
    let fitting = feasible.holds.before in
    let ordered = fitting.before in
    let staged = ordered.before in
    let listed = staged.before in
    let terms = listed.assumed in
    let memory : AllByRecursion (λ unit. taken_by resource.Memory one_each unit ≤ taken_by resource.Memory z unit) units.list =
    each_more (λ unit. IsCellCount (length units.terms.symbols) units.terms.ones unit.cells) (λ unit. taken_by resource.Memory one_each unit ≤ taken_by resource.Memory z unit)
    (λ unit h. one_memory (length units.terms.symbols) units.terms.ones sizes unit h terms.ones) units.list
    (recursion_from_All (λ unit. IsCellCount (length units.terms.symbols) units.terms.ones unit.cells) units.list sound.counts) in
    lesser_law (rows_bound symbol units.terms.rows) (lesser (header_bound units target symbol) (units_bound units target symbol)) (z symbol) bound
    (λ n f. rows_law units.terms.rows sizes symbol n terms.rows f)
    (λ n f. lesser_law (header_bound units target symbol) (units_bound units target symbol) (z symbol) n
    (λ m g. share_law target.header_bits (get_or units.symbol_bits symbol 0) (z symbol) m (let h = weighed_at units.symbol_bits sizes symbol in let most = feasible.holds.header in omega (arith, h, most)) g)
    (λ m g. lesser_law (stages_bound resource.Stateful units target symbol) _ (z symbol) m
    (λ k i. share_law (target.stages * limit_of resource.Stateful target) (looped_sum (taken_by resource.Stateful one_each) symbol units.list) (z symbol) k
    (stages_law units.list z placement listed.listed target staged.staged (taken_by resource.Stateful z) (limit_of resource.Stateful target) symbol (λ t l. fitting.fitting t l resource.Stateful)) i)
    (λ k i. lesser_law (stages_bound resource.Stateless units target symbol) _ (z symbol) k
    (λ o j. share_law (target.stages * limit_of resource.Stateless target) (looped_sum (taken_by resource.Stateless one_each) symbol units.list) (z symbol) o
    (stages_law units.list z placement listed.listed target staged.staged (taken_by resource.Stateless z) (limit_of resource.Stateless target) symbol (λ t l. fitting.fitting t l resource.Stateless)) j)
    (λ o j. lesser_law (stages_bound resource.Memory units target symbol) _ (z symbol) o
    (λ p u. share_law (target.stages * limit_of resource.Memory target) (looped_sum (taken_by resource.Memory one_each) symbol units.list) (z symbol) p
    (let more = looped_more (taken_by resource.Memory one_each) (taken_by resource.Memory z) symbol units.list memory in
    let law = stages_law units.list z placement listed.listed target staged.staged (taken_by resource.Memory z) (limit_of resource.Memory target) symbol (λ t l. fitting.fitting t l resource.Memory) in
    omega (arith, law, mul-le-mul_left (z symbol) more)) u)
    (λ p u. lesser_law (shared_bound units target symbol) (cells_bound units.terms target.memory_bits symbol units.list) (z symbol) p
    (λ q w. shared_within (is_shared symbol units.list) target.stages (z symbol) q (λ s. shared_law units.list z placement listed.listed target staged.staged ordered.ordered symbol s) w)
    (λ q w. cells_law units.terms z target.memory_bits symbol q units.list
    (λ i l s. running_law units.list z placement listed.listed target staged.staged (taken_by resource.Memory z) (limit_of resource.Memory target) i (λ t c. fitting.fitting t c resource.Memory) l (surely_runs units.terms sizes _ terms s)) w)
    u) j) i) g) f) e
