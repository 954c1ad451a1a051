-- The use of a loop, unit by unit.
use Rattle.std.proofs.Common.{◌≡◌, ◌≢◌, ℕ, ◌+◌, ◌-◌, ◌<◌, ◌≤◌, Bool, true, false, List, ◌∷◌, map, drop, length, get_or, Some, refl, sym, ap, ◌∙◌, subst, arith, zero-add}
use Rattle.std.specs.Prelude.{◌&&◌, ◌||◌, if◌then◌else◌}
use Rattle.std.proofs.lemmas.Bool.{ne_eqb}
use Rattle.std.proofs.lemmas.List.Sums.{sum_by-cons}
use Rattle.std.proofs.lemmas.List.{drop_more, drop-map}
use Rattle.elastic_ast.specs.declared.flat.Unit.{Unit as FlatUnit}
use Rattle.elastic_ast.specs.Units.PlainUnits.{PlainUnit}
use Rattle.elastic_ast.specs.Units.SeenUnits.{seen_unit}
use Rattle.dep_graph.specs.declared.resource.Resource.TheVariants as resource
use Rattle.dep_graph.specs.Use.{taken_by}
use Rattle.unroll_bound.specs.SizeRules.{is_symbol, looped_sum, one_each, writes_shared, is_shared}
use Rattle.unroll_bound.specs.Counts.{is_looped}
use Rattle.unroll_bound.specs.LoopUses.{loop_use, with_unit, IsSmallUse}
use Rattle.unroll_bound.specs.declared.loop_uses.LoopUse.{LoopUse}
use Rattle.unroll_bound.specs.SymbolLists.{IsListOf, Changes}
use Rattle.unroll_bound.proofs.SymbolListLaws.{list_changed}

abbrev use_of_parts : Bool → ℕ → ℕ → ℕ → Bool → LoopUse
use_of_parts looped stateful stateless memory shared = record { looped = looped; stateful = stateful; stateless = stateless; memory = memory; shared = shared }

parts_join : (in_loop writes looped : Bool) (x y z stateful stateless memory : ℕ) (shared : Bool)
    → (if in_loop then use_of_parts true (x + stateful) (y + stateless) (z + memory) (writes || shared) else use_of_parts looped stateful stateless memory shared)
    ≡ use_of_parts (in_loop || looped) ((if in_loop then x else 0) + stateful) ((if in_loop then y else 0) + stateless) ((if in_loop then z else 0) + memory) ((in_loop && writes) || shared)
parts_join true writes looped x y z stateful stateless memory shared = refl
parts_join false writes looped x y z stateful stateless memory shared =
    ap (λ n. use_of_parts looped n stateless memory shared) (sym (zero-add stateful))
    ∙ ap (λ n. use_of_parts looped (0 + stateful) n memory shared) (sym (zero-add stateless))
    ∙ ap (λ n. use_of_parts looped (0 + stateful) (0 + stateless) n shared) (sym (zero-add memory))

looped_more : (amount : PlainUnit → ℕ) (symbol : ℕ) (unit : PlainUnit) (units : List PlainUnit) → (if is_symbol symbol unit.size then amount unit else 0) + looped_sum amount symbol units ≡ looped_sum amount symbol (unit ∷ units)
looped_more amount symbol unit units = sym (sum_by-cons (λ one. if is_symbol symbol one.size then amount one else 0) unit units)

pub use_joins : (unit : PlainUnit) (units : List PlainUnit) (symbol : ℕ) → with_unit unit symbol (loop_use units symbol) ≡ loop_use (unit ∷ units) symbol
use_joins unit units symbol =
    let v : Bool = is_symbol symbol unit.size in
    let x : ℕ = (if v then taken_by resource.Stateful one_each unit else 0) + looped_sum (taken_by resource.Stateful one_each) symbol units in
    let y : ℕ = (if v then taken_by resource.Stateless one_each unit else 0) + looped_sum (taken_by resource.Stateless one_each) symbol units in
    let z : ℕ = (if v then taken_by resource.Memory one_each unit else 0) + looped_sum (taken_by resource.Memory one_each) symbol units in
    parts_join v (writes_shared unit) (is_looped units symbol) (taken_by resource.Stateful one_each unit) (taken_by resource.Stateless one_each unit) (taken_by resource.Memory one_each unit)
    (looped_sum (taken_by resource.Stateful one_each) symbol units) (looped_sum (taken_by resource.Stateless one_each) symbol units) (looped_sum (taken_by resource.Memory one_each) symbol units) (is_shared symbol units)
    ∙ ap (λ n. use_of_parts (is_looped (unit ∷ units) symbol) n y z (is_shared symbol (unit ∷ units))) (looped_more (taken_by resource.Stateful one_each) symbol unit units)
    ∙ ap (λ n. use_of_parts (is_looped (unit ∷ units) symbol) (looped_sum (taken_by resource.Stateful one_each) symbol (unit ∷ units)) n z (is_shared symbol (unit ∷ units))) (looped_more (taken_by resource.Stateless one_each) symbol unit units)
    ∙ ap (λ n. use_of_parts (is_looped (unit ∷ units) symbol) (looped_sum (taken_by resource.Stateful one_each) symbol (unit ∷ units)) (looped_sum (taken_by resource.Stateless one_each) symbol (unit ∷ units)) n (is_shared symbol (unit ∷ units)))
    (looped_more (taken_by resource.Memory one_each) symbol unit units)

-- a unit in a loop over a symbol joins the use of no other
pub other_symbol : (size symbol : ℕ) → symbol ≢ size → is_symbol symbol (Some size) ≡ false
other_symbol size symbol ne = ne_eqb size symbol (λ q. ne (sym q))

pub smaller_use : (units more : ℕ) (one : LoopUse) → units ≤ more → IsSmallUse units one → IsSmallUse more one
smaller_use units more one h small = record {
  stateful = (let k = small.stateful in omega (arith, h, k));
  stateless = (let k = small.stateless in omega (arith, h, k));
  memory = (let k = small.memory in omega (arith, h, k));
}

-- one more unit from the end
pub units_drop : (units : List FlatUnit) (i : ℕ) (unit : FlatUnit) → 0 < i → i ≤ length units → unit ≡ get_or units (i - 1) unit → drop (i - 1) (map seen_unit units) ≡ seen_unit unit ∷ drop i (map seen_unit units)
units_drop units i unit h l e =
    drop-map seen_unit (i - 1) units ∙ ap (map seen_unit) (drop_more units (i - 1) unit (omega arith) ∙ ap (λ z. z ∷ drop (i - 1 + 1) units) (sym e)) ∙ ap (λ z. seen_unit unit ∷ z) (sym (drop-map seen_unit (i - 1 + 1) units))
    ∙ ap (λ n. seen_unit unit ∷ drop n (map seen_unit units)) (let same : i - 1 + 1 ≡ i = omega arith in same)

pub uses_more : (symbols : ℕ) (units : List FlatUnit) (i : ℕ) (unit : FlatUnit) (old new : List LoopUse) → 0 < i → i ≤ length units → unit ≡ get_or units (i - 1) unit
    → IsListOf symbols (loop_use (drop i (map seen_unit units))) old → Changes (with_unit (seen_unit unit)) old new → IsListOf symbols (loop_use (drop (i - 1) (map seen_unit units))) new
uses_more symbols units i unit old new h l e list changes =
    subst (λ us. IsListOf symbols (loop_use us) new) (sym (units_drop units i unit h l e))
    (list_changed symbols (with_unit (seen_unit unit)) (loop_use (drop i (map seen_unit units))) (loop_use (seen_unit unit ∷ drop i (map seen_unit units))) old new list changes (use_joins (seen_unit unit) (drop i (map seen_unit units))))
