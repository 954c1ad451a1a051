-- Feasible sizes and placements are points, and points are feasible sizes and placements.
use Rattle.std.proofs.Common.{◌≡◌, ℕ, ℤ, pos, ◌+◌, ◌<◌, ◌≤◌, ◌≤ℤ◌, ◌+ℤ◌, unsigned_abs, Bool, true, false, cond, ◌&&◌, List, map, length, filter, Option, Some, None, refl, sym, ap, ap₂, ◌∙◌, subst, arith, ⊎_elim}
use Rattle.std.specs.Prelude.{nat_eq, nat_lt, nat_le}
use Rattle.std.specs.List.{AllByRecursion}
use Rattle.std.proofs.lemmas.Int.{ints}
use Rattle.std.proofs.lemmas.Bool.{cases_lt}
use Rattle.std.proofs.lemmas.List.{length-map}
use Rattle.elastic_ast.specs.declared.flat.At.{At}
use Rattle.elastic_ast.specs.declared.flat.Cells.{Cells}
use Rattle.elastic_ast.specs.declared.flat.Cells.TheVariants.{Fixed, Symbol}
use Rattle.elastic_ast.specs.declared.flat.Terms.{Terms}
use Rattle.elastic_ast.specs.Meaning.Values.{bit}
use Rattle.elastic_ast.specs.Units.PlainUnits.{PlainUnits}
use Rattle.elastic_ast.specs.Units.Instances.{nth_size, pair_of, instances}
use Rattle.elastic_laws.specs.Units.LiveInstances.{is_within, is_live}
use Rattle.elastic_laws.proofs.Units.LiveInstanceLaws.{instances_are_kept}
use Rattle.target_desc.specs.declared.target.Target.{Target}
use Rattle.dep_graph.specs.Laid.{laid}
use Rattle.dep_graph.specs.PlacementRules.{named_pair}
use Rattle.dep_graph.specs.Use.{cell_count}
use Rattle.size_terms.specs.Rows.{RowHolds, IsShort, IsNearTable, worth}
use Rattle.place_check.specs.OfUnits.{FeasibleUnits}
use Rattle.unit_flow.specs.SoundUnits.{SoundUnits, IsStepTable, IsLoopSize, IsCellCount}
use Rattle.int_program.specs.Sums.{at, sum_at}
use Rattle.int_program.specs.Points.{IsPoint, value_of}
use Rattle.ilp_model.specs.Candidates.{Candidate, candidates}
use Rattle.ilp_model.specs.StepKeys.{step_keys}
use Rattle.ilp_model.specs.Variables.{Variable, symbol_count, variables, variable_number, top_of}
use Rattle.unroll_bound.specs.Counts.{numbers_below}
use Rattle.ilp_model.specs.Variables.Variable.{Size, Exists, Reached, Stands, Held}
use Rattle.ilp_model.specs.NamedRows.{NamedPart, sum_of, Holds}
use Rattle.ilp_model.specs.Rows.{key_rows, rows}
use Rattle.ilp_model.specs.Objective.{objective}
use Rattle.ilp_model.specs.IpOf.{parts_of, row_of, ip_of}
use Rattle.ilp_model.specs.PairOf.{value_at, sizes_of, exists_by, placement_of}
use Rattle.ilp_model.specs.Agreement.{IsPointOf, FeasiblePairsArePoints, GivesFeasiblePair, PointsAreFeasiblePairs}
use Rattle.ilp_model.proofs.Valuations.{there, stage_at, valued, AreLaid, Belongs}
use Rattle.ilp_model.proofs.Sums.{all_unmap}
use Rattle.unroll_bound.proofs.Totals.{each_more, each_two, each_any, each_mapped}
use Rattle.ilp_model.proofs.NineGroups.{sizes_worth, sizes_weigh, AllRows, rows_apart, rows_together}
use Rattle.ilp_model.proofs.ToRows.{Assumed, point_rows}
use Rattle.ilp_model.proofs.Groups.{keyed_from}
use Rattle.ilp_model.proofs.FromRows.{AreTops, there_live, candidates_laid, assumed, header_fits}
use Rattle.ilp_model.proofs.Belonging.{candidates_are}
use Rattle.ilp_model.proofs.Placing.{entry, placed_by, KeepsRules, rules_kept, laid_by_rules, stages_of, IsSpread, spread, laid_entries, pairs_named, filter_map_is}
use Rattle.ilp_model.proofs.ObjectiveLaws.{IsReached, utility_at, objective_is, reached_is, keys_are}
use Rattle.ilp_model.proofs.Places.{at_get, at_map, length-numbers, at_number}
use Rattle.ilp_model.proofs.Known.{IsSound, IsVar, Knows, KnowsParts, size_var, exists_var, reached_vars, stands_vars, candidates_belong, rows_known, objective_known}
use Rattle.ilp_model.proofs.Lists.{to_all, from_all, parts_sum, sizes_back, past, ends_le, ends_low, zero_low, natural, map_filter_same, eqb_bit, last_one_is, dot_is, weighed_is, tables_are}

-- every value is within its top
bit_le : (v : Bool) → bit v ≤ 1
bit_le true = omega arith
bit_le false = omega arith

valued_le : (b z : ℕ → ℕ) (at : Candidate → ℕ) → ((s : ℕ) → z s ≤ b s) → (v : Variable) → valued z at v ≤ top_of b v
valued_le b z at h (Size s) = h s
valued_le b z at h (Exists s i) = bit_le (nat_lt i (z s))
valued_le b z at h (Reached j) = bit_le (nat_le j.key (z j.symbol))
valued_le b z at h (Stands p t) = bit_le (is_live z p.instance && nat_eq (at p) t)
valued_le b z at h (Held p t) = held (is_live z p.instance && nat_eq (at p) t) p.instance.unit.cells
  where
    held : (v : Bool) (c : Option Cells) → cond v (cell_count z c) 0 ≤ cell_count b c
    held true None = omega arith
    held true (Some (Fixed n)) = omega arith
    held true (Some (Symbol s)) = h s
    held false c = omega arith

-- feasible sizes with a placement, where each symbol has a size
pub record IsPair (units : PlainUnits) (target : Target) (zs : List ℕ) (cs : List At) : Type 0 where
  pub count : length zs ≡ symbol_count units
  pub assumes : Assumed units.terms (nth_size zs)
  pub listed : map named_pair cs ≡ map pair_of (instances units.list (nth_size zs))
  pub limits : KeepsRules target (nth_size zs) (laid (instances units.list (nth_size zs)) cs)
  pub header : units.fixed_bits + sizes_weigh units.symbol_bits (nth_size zs) 0 ≤ target.header_bits

pair_of_feasible : (units : PlainUnits) (target : Target) (zs : List ℕ) (cs : List At) → FeasibleUnits units target zs cs → IsPair units target zs cs
pair_of_feasible units target zs cs f = record {
  count = f.sized;
  assumes = record {
    rows = each_more (RowHolds zs) (λ r. sizes_worth r.by (nth_size zs) 0 ≤ℤ r.most) (λ r k. subst (λ v. v ≤ℤ r.most) (dot_is r.by zs) k) units.terms.rows (from_all (RowHolds zs) units.terms.rows f.holds.before.before.before.before.assumed.rows);
    ones = from_all (λ s. 1 ≤ nth_size zs s) units.terms.ones f.holds.before.before.before.before.assumed.ones;
  };
  listed = f.holds.before.before.before.before.listed;
  limits = record { stages = f.holds.before.before.before.staged; order = f.holds.before.before.ordered; uses = f.holds.before.fitting };
  header = subst (λ v. units.fixed_bits + v ≤ target.header_bits) (weighed_is units.symbol_bits zs) f.holds.header;
}

feasible_of_pair : (units : PlainUnits) (target : Target) (zs : List ℕ) (cs : List At) → IsPair units target zs cs → FeasibleUnits units target zs cs
feasible_of_pair units target zs cs p = record {
  sized = p.count;
  holds = record {
    before = record {
      before = record {
        before = record {
          before = record {
            assumed = record {
              rows = to_all (RowHolds zs) units.terms.rows (each_more (λ r. sizes_worth r.by (nth_size zs) 0 ≤ℤ r.most) (RowHolds zs) (λ r k. subst (λ v. v ≤ℤ r.most) (sym (dot_is r.by zs)) k) units.terms.rows p.assumes.rows);
              ones = to_all (λ s. 1 ≤ nth_size zs s) units.terms.ones p.assumes.ones;
            };
            listed = p.listed;
          };
          staged = p.limits.stages;
        };
        ordered = p.limits.order;
      };
      fitting = p.limits.uses;
    };
    header = subst (λ v. units.fixed_bits + v ≤ target.header_bits) (sym (weighed_is units.symbol_bits zs)) p.header;
  };
}

worth_is : (terms : Terms) (zs : List ℕ) → worth terms zs ≡ utility_at terms (nth_size zs)
worth_is terms zs = ap₂ (λ v w. terms.base +ℤ v +ℤ w) (dot_is terms.by zs) (tables_are zs terms.steps)

-- what is known of units, by recursion
pub sound_of : (units : PlainUnits) → SoundUnits units → IsSound units
sound_of units sound = record {
  rows = each_more (λ row. IsShort (symbol_count units) row.by row.most) (λ r. length r.by ≤ symbol_count units) (λ r k. (let e = k.dense in omega (arith, e))) units.terms.rows (from_all (λ row. IsShort (symbol_count units) row.by row.most) units.terms.rows sound.short.rows);
  ones = from_all (λ s. s < symbol_count units) units.terms.ones sound.short.ones;
  goal = (let e = sound.short.utility.dense in omega (arith, e));
  steps = each_more (IsNearTable (symbol_count units)) (λ t. t.symbol < symbol_count units) (λ t k. k.place) units.terms.steps (from_all (IsNearTable (symbol_count units)) units.terms.steps sound.short.tables);
  tables = from_all (λ t. IsStepTable t.pairs) units.terms.steps sound.tables;
  bits = (let e = sound.bits in omega (arith, e));
  sizes = from_all (λ u. IsLoopSize (symbol_count units) u.size) units.list sound.sizes;
  counts = from_all (λ u. IsCellCount (symbol_count units) units.terms.ones u.cells) units.list sound.counts;
}

module _ (units : PlainUnits) (target : Target) (b : ℕ → ℕ) where
  -- the value of each variable at a point, where a symbol past the last has size 0
  abbrev read_at : List ℤ → Variable → ℕ
  read_at x (Size s) = nth_size (sizes_of units x) s
  read_at x (Exists s i) = value_at units target b x (Exists s i)
  read_at x (Reached j) = value_at units target b x (Reached j)
  read_at x (Stands p t) = value_at units target b x (Stands p t)
  read_at x (Held p t) = value_at units target b x (Held p t)

  exists_read : (x : List ℤ) (s : Option ℕ) (i : ℕ) → exists_by (value_at units target b x) s i ≡ nat_eq (there (read_at x) s i) 1
  exists_read x None i = refl
  exists_read x (Some s) i = refl

  abbrev pub stage_in : List ℕ → List At → Candidate → ℕ
  stage_in zs cs p = stages_of (is_live (nth_size zs)) (instances units.list b) cs p.place

  abbrev pub point_of : List ℕ → List At → List ℤ
  point_of zs cs = map (λ v. pos (valued (nth_size zs) (stage_in zs cs) v)) (variables units target b)

  at_point : (zs : List ℕ) (cs : List At) (v : Variable) → IsVar units target b v → at (point_of zs cs) (variable_number units target b v) ≡ pos (valued (nth_size zs) (stage_in zs cs) v)
  at_point zs cs v k = at_get (point_of zs cs) (variable_number units target b v) (pos (valued (nth_size zs) (stage_in zs cs) v)) (pos 0) (at_map (λ v. pos (valued (nth_size zs) (stage_in zs cs) v)) (variables units target b) (variable_number units target b v) v k.0)

  -- the pair's instances at the bounds
  module _ (zs : List ℕ) (cs : List At) (feasible : IsPair units target zs cs) (small : (s : ℕ) → nth_size zs s ≤ b s) where
    spread_of : IsSpread (is_live (nth_size zs)) (stages_of (is_live (nth_size zs)) (instances units.list b) cs) 0 0 (instances units.list b) cs
    spread_of =
        let e : map named_pair cs ≡ map pair_of (filter (is_live (nth_size zs)) (instances units.list b)) = feasible.listed ∙ ap (map pair_of) (instances_are_kept units.list (nth_size zs) b small) in
        spread (is_live (nth_size zs)) (stages_of (is_live (nth_size zs)) (instances units.list b) cs) 0 0 (instances units.list b) cs e (λ j. ap (stages_of (is_live (nth_size zs)) (instances units.list b) cs) (omega arith))

    laid_candidates : AreLaid target (nth_size zs) (stage_in zs cs) (candidates units b)
    laid_candidates =
        let e : laid (instances units.list (nth_size zs)) cs ≡ placed_by (nth_size zs) (stage_in zs cs) (candidates units b) = ap (λ l. laid l cs) (instances_are_kept units.list (nth_size zs) b small) ∙ spread_of.placed in
        laid_by_rules target (nth_size zs) (stage_in zs cs) (candidates units b) (subst (KeepsRules target (nth_size zs)) e feasible.limits)

    sizes_are : sizes_of units (point_of zs cs) ≡ zs
    sizes_are = sizes_back (λ s. unsigned_abs (at (point_of zs cs) s)) zs (symbol_count units) feasible.count (λ s k. sym (ap unsigned_abs (at_point zs cs (Size s) (size_var units target b s k))))

    read_is : (v : Variable) → IsVar units target b v → read_at (point_of zs cs) v ≡ valued (nth_size zs) (stage_in zs cs) v
    read_is (Size s) k = ap (λ l. nth_size l s) sizes_are
    read_is (Exists s i) k = ap unsigned_abs (at_point zs cs (Exists s i) k)
    read_is (Reached j) k = ap unsigned_abs (at_point zs cs (Reached j) k)
    read_is (Stands p t) k = ap unsigned_abs (at_point zs cs (Stands p t) k)
    read_is (Held p t) k = ap unsigned_abs (at_point zs cs (Held p t) k)

    there_same : (s : Option ℕ) (i : ℕ) → Belongs units b s i → there (read_at (point_of zs cs)) s i ≡ bit (is_within (nth_size zs) s i)
    there_same None i h = refl
    there_same (Some s) i h = read_is (Exists s i) (exists_var units target b s i h.1 h.0)

    module _ (sound : IsSound units) where
      candidate_same : (p : Candidate) → Belongs units b p.instance.unit.size p.instance.index → ((t : ℕ) → t < target.stages → IsVar units target b (Stands p t)) → (is_live (nth_size zs) p.instance ≡ true → stage_in zs cs p < target.stages) → (exists_by (value_at units target b (point_of zs cs)) p.instance.unit.size p.instance.index ≡ is_live (nth_size zs) p.instance) × (is_live (nth_size zs) p.instance ≡ true → entry (stage_at target.stages (read_at (point_of zs cs))) p ≡ entry (stage_in zs cs) p)
      candidate_same p h k l = (
        exists_read (point_of zs cs) p.instance.unit.size p.instance.index ∙ ap (λ v. nat_eq v 1) (there_same p.instance.unit.size p.instance.index h) ∙ eqb_bit (is_live (nth_size zs) p.instance),
        (λ live. ap (λ t. record { unit = p.instance.number; index = p.instance.index; stage = t }) (last_one_is (λ t. read_at (point_of zs cs) (Stands p t)) target.stages (stage_in zs cs p) (l live) (λ t q. read_is (Stands p t) (k t q) ∙ ap (λ v. bit (v && nat_eq (stage_in zs cs p) t)) live))),
      )

      placement_is : placement_of units target b (point_of zs cs) ≡ cs
      placement_is =
          map_filter_same (entry (stage_at target.stages (read_at (point_of zs cs)))) (entry (stage_in zs cs)) (λ p. exists_by (value_at units target b (point_of zs cs)) p.instance.unit.size p.instance.index) (λ p. is_live (nth_size zs) p.instance) (candidates units b)
          (each_two (λ p. Belongs units b p.instance.unit.size p.instance.index) (λ p. ((t : ℕ) → t < target.stages → IsVar units target b (Stands p t)) × (is_live (nth_size zs) p.instance ≡ true → stage_in zs cs p < target.stages)) (λ p. (exists_by (value_at units target b (point_of zs cs)) p.instance.unit.size p.instance.index ≡ is_live (nth_size zs) p.instance) × (is_live (nth_size zs) p.instance ≡ true → entry (stage_at target.stages (read_at (point_of zs cs))) p ≡ entry (stage_in zs cs) p)) (λ p h q. candidate_same p h q.0 q.1) (candidates units b) (candidates_belong units target b sound)
          (each_two (λ p. (t : ℕ) → t < target.stages → IsVar units target b (Stands p t)) (λ p. is_live (nth_size zs) p.instance ≡ true → stage_in zs cs p < target.stages) (λ p. ((t : ℕ) → t < target.stages → IsVar units target b (Stands p t)) × (is_live (nth_size zs) p.instance ≡ true → stage_in zs cs p < target.stages)) (λ p x y. (x, y)) (candidates units b) (stands_vars units target b) laid_candidates.stages))
          ∙ sym spread_of.entries

      point_sum : (ts : List NamedPart) → KnowsParts units target b ts → sum_at (parts_of (variable_number units target b) ts) (point_of zs cs) ≡ sum_of ts (valued (nth_size zs) (stage_in zs cs))
      point_sum ts h = parts_sum (variable_number units target b) (valued (nth_size zs) (stage_in zs cs)) (point_of zs cs) ts (each_more (λ t. IsVar units target b t.variable) (λ t. at (point_of zs cs) (variable_number units target b t.variable) ≡ pos (valued (nth_size zs) (stage_in zs cs) t.variable)) (λ t k. at_point zs cs t.variable k) ts h)

      rows_hold : AllByRecursion (Holds (valued (nth_size zs) (stage_in zs cs))) (rows units target b)
      rows_hold = rows_together units target b (Holds (valued (nth_size zs) (stage_in zs cs))) (point_rows units target b (nth_size zs) (stage_in zs cs) small (keys_are b 0 units.terms.steps sound.tables) feasible.assumes feasible.header laid_candidates)

      is_point : IsPoint (ip_of units target b) (point_of zs cs)
      is_point = record {
        in_root = record {
          count = length-map (variables units target b) (λ v. pos (valued (nth_size zs) (stage_in zs cs) v)) ∙ sym (length-map (variables units target b) (λ v. pos (top_of b v))) ∙ sym (length-map (ip_of units target b).tops (λ _. pos 0));
          ends = λ k. (ends_low (valued (nth_size zs) (stage_in zs cs)) (map (λ v. pos (top_of b v)) (variables units target b)) (variables units target b) k, ends_le (valued (nth_size zs) (stage_in zs cs)) (top_of b) (valued_le b (nth_size zs) (stage_in zs cs) small) (variables units target b) k);
        };
        rows = to_all (λ row. sum_at row.parts (point_of zs cs) ≤ℤ row.most) (map (row_of (variable_number units target b)) (rows units target b)) (each_mapped (row_of (variable_number units target b)) (λ row. sum_at row.parts (point_of zs cs) ≤ℤ row.most) (rows units target b) (each_two (Holds (valued (nth_size zs) (stage_in zs cs))) (Knows units target b) (λ r. sum_at (parts_of (variable_number units target b) r.parts) (point_of zs cs) ≤ℤ r.most) (λ r m k. subst (λ v. v ≤ℤ r.most) (sym (point_sum r.parts k)) m) (rows units target b) rows_hold (rows_known units target b sound)));
      }

      value_is : value_of (ip_of units target b) (point_of zs cs) ≡ utility_at units.terms (nth_size zs)
      value_is =
          ap (λ v. v +ℤ (ip_of units target b).base) (point_sum (objective units.terms b) (objective_known units target b sound))
          ∙ objective_is units.terms (valued (nth_size zs) (stage_in zs cs)) b sound.tables (each_any (λ t. nth_size zs t.symbol ≤ b t.symbol) (λ t. small t.symbol) units.terms.steps) (each_any (IsReached (valued (nth_size zs) (stage_in zs cs))) (λ j. refl) (step_keys units.terms b))

      pub has_point : IsPointOf units target b zs cs (point_of zs cs)
      has_point = record { is_point = is_point; gives_sizes = sizes_are; gives_placement = placement_is; value = value_is ∙ sym (worth_is units.terms zs) }

  -- from a point
  module _ (x : List ℤ) (sound : IsSound units) (point : IsPoint (ip_of units target b) x) where
    not_below : (k : ℕ) → pos 0 ≤ℤ at x k
    not_below k = subst (λ v. v ≤ℤ at x k) (zero_low (ip_of units target b).tops k) (point.in_root.ends k).0

    size_read : (s : ℕ) → s < symbol_count units → nth_size (sizes_of units x) s ≡ unsigned_abs (at x s)
    size_read s h = at_get (sizes_of units x) s (unsigned_abs (at x s)) 0 (at_map (λ s. unsigned_abs (at x s)) (numbers_below (symbol_count units)) s s (at_number (symbol_count units) s h))

    at_read : (v : Variable) → IsVar units target b v → at x (variable_number units target b v) ≡ pos (read_at x v)
    at_read (Size s) k = natural (at x s) (not_below s) ∙ ap pos (sym (size_read s k.1))
    at_read (Exists s i) k = natural _ (not_below (variable_number units target b (Exists s i)))
    at_read (Reached j) k = natural _ (not_below (variable_number units target b (Reached j)))
    at_read (Stands p t) k = natural _ (not_below (variable_number units target b (Stands p t)))
    at_read (Held p t) k = natural _ (not_below (variable_number units target b (Held p t)))

    read_le : (v : Variable) → IsVar units target b v → read_at x v ≤ top_of b v
    read_le v k =
        let h = (point.in_root.ends (variable_number units target b v)).1 in
        let e = at_read v k in
        let t : at (ip_of units target b).tops (variable_number units target b v) ≡ pos (top_of b v) = at_get (ip_of units target b).tops (variable_number units target b v) (pos (top_of b v)) (pos 0) (at_map (λ v. pos (top_of b v)) (variables units target b) (variable_number units target b v) v k.0) in
        le _ _ _ _ h e t
      where
        le : (a c : ℤ) (m n : ℕ) → a ≤ℤ c → a ≡ pos m → c ≡ pos n → m ≤ n
        le a c m n h e t = omega (arith, ints, h, e, t)

    read_sum : (ts : List NamedPart) → KnowsParts units target b ts → sum_at (parts_of (variable_number units target b) ts) x ≡ sum_of ts (read_at x)
    read_sum ts h = parts_sum (variable_number units target b) (read_at x) x ts (each_more (λ t. IsVar units target b t.variable) (λ t. at x (variable_number units target b t.variable) ≡ pos (read_at x t.variable)) (λ t k. at_read t.variable k) ts h)

    rows_met : AllRows units target b (Holds (read_at x))
    rows_met = rows_apart units target b (Holds (read_at x)) (each_two (λ r. sum_at (parts_of (variable_number units target b) r.parts) x ≤ℤ r.most) (Knows units target b) (Holds (read_at x)) (λ r m k. subst (λ v. v ≤ℤ r.most) (read_sum r.parts k) m) (rows units target b) (all_unmap (row_of (variable_number units target b)) (λ row. sum_at row.parts x ≤ℤ row.most) (rows units target b) (from_all (λ row. sum_at row.parts x ≤ℤ row.most) (map (row_of (variable_number units target b)) (rows units target b)) point.rows)) (rows_known units target b sound))

    tops : AreTops units b (read_at x)
    tops = record {
      sizes = λ s h. read_le (Size s) (size_var units target b s h);
      counters = λ s i l k. read_le (Exists s i) (exists_var units target b s i l k);
      keys = each_more (λ j. IsVar units target b (Reached j)) (λ j. read_at x (Reached j) ≤ 1) (λ j k. read_le (Reached j) k) (step_keys units.terms b) (reached_vars units target b);
    }

    sizes_small : (s : ℕ) → nth_size (sizes_of units x) s ≤ b s
    sizes_small s = ⊎_elim (λ lt. tops.sizes s lt) (λ le. (let e : nth_size (sizes_of units x) s ≡ 0 = past (sizes_of units x) s 0 (omega (arith, length-map (numbers_below (symbol_count units)) (λ s. unsigned_abs (at x s)), length-numbers (symbol_count units))) in omega (arith, e))) (cases_lt s (symbol_count units))

    abbrev pub those_there : List Candidate
    those_there = filter (λ p. is_live (nth_size (sizes_of units x)) p.instance) (candidates units b)

    placement_there : placement_of units target b x ≡ map (entry (stage_at target.stages (read_at x))) those_there
    placement_there = map_filter_same (entry (stage_at target.stages (read_at x))) (entry (stage_at target.stages (read_at x))) (λ p. exists_by (value_at units target b x) p.instance.unit.size p.instance.index) (λ p. is_live (nth_size (sizes_of units x)) p.instance) (candidates units b) (each_more (λ p. Belongs units b p.instance.unit.size p.instance.index) (λ p. (exists_by (value_at units target b x) p.instance.unit.size p.instance.index ≡ is_live (nth_size (sizes_of units x)) p.instance) × (is_live (nth_size (sizes_of units x)) p.instance ≡ true → entry (stage_at target.stages (read_at x)) p ≡ entry (stage_at target.stages (read_at x)) p)) (λ p h. (exists_read x p.instance.unit.size p.instance.index ∙ ap (λ v. nat_eq v 1) (there_live units target b (read_at x) rows_met tops p.instance.unit.size p.instance.index h) ∙ eqb_bit (is_live (nth_size (sizes_of units x)) p.instance), (λ e. refl))) (candidates units b) (candidates_belong units target b sound))

    instances_there : instances units.list (nth_size (sizes_of units x)) ≡ map (λ p. p.instance) those_there
    instances_there =
        instances_are_kept units.list (nth_size (sizes_of units x)) b sizes_small
        ∙ ap (filter (is_live (nth_size (sizes_of units x)))) (sym (candidates_are 0 0 (instances units.list b)))
        ∙ filter_map_is (λ p. p.instance) (is_live (nth_size (sizes_of units x))) (candidates units b)

    limits_there : KeepsRules target (nth_size (sizes_of units x)) (laid (instances units.list (nth_size (sizes_of units x))) (placement_of units target b x))
    limits_there =
        let e : laid (instances units.list (nth_size (sizes_of units x))) (placement_of units target b x) ≡ placed_by (nth_size (sizes_of units x)) (stage_at target.stages (read_at x)) (candidates units b) = ap₂ laid instances_there placement_there ∙ laid_entries (is_live (nth_size (sizes_of units x))) (stage_at target.stages (read_at x)) those_there in
        subst (KeepsRules target (nth_size (sizes_of units x))) (sym e) (rules_kept target (nth_size (sizes_of units x)) (stage_at target.stages (read_at x)) (candidates units b) (candidates_laid units target b (read_at x) rows_met tops (candidates_belong units target b sound)))

    pair_there : IsPair units target (sizes_of units x) (placement_of units target b x)
    pair_there = record {
      count = length-map (numbers_below (symbol_count units)) (λ s. unsigned_abs (at x s)) ∙ length-numbers (symbol_count units);
      assumes = assumed units target b (read_at x) rows_met tops;
      listed = ap (map named_pair) placement_there ∙ pairs_named (stage_at target.stages (read_at x)) those_there ∙ sym (ap (map pair_of) instances_there);
      limits = limits_there;
      header = header_fits units target b (read_at x) rows_met tops;
    }

    value_there : value_of (ip_of units target b) x ≡ utility_at units.terms (nth_size (sizes_of units x))
    value_there =
        ap (λ v. v +ℤ (ip_of units target b).base) (read_sum (objective units.terms b) (objective_known units target b sound))
        ∙ objective_is units.terms (read_at x) b sound.tables (each_any (λ t. nth_size (sizes_of units x) t.symbol ≤ b t.symbol) (λ t. sizes_small t.symbol) units.terms.steps)
        (each_two (λ j. AllByRecursion (Holds (read_at x)) (key_rows b j)) (λ j. read_at x (Reached j) ≤ 1) (IsReached (read_at x)) (λ j k o. reached_is b (read_at x) j o (keyed_from b (read_at x) j k)) (step_keys units.terms b) rows_met.keys tops.keys)

    pub gives_pair : GivesFeasiblePair units target b x
    gives_pair = record {
      feasible = feasible_of_pair units target (sizes_of units x) (placement_of units target b x) pair_there;
      within = sizes_small;
      value = value_there ∙ sym (worth_is units.terms (sizes_of units x));
    }

pub pairs_are_points : FeasiblePairsArePoints
pairs_are_points units target b zs cs sound feasible small = (point_of units target b zs cs, has_point units target b zs cs (pair_of_feasible units target zs cs feasible) small (sound_of units sound))

pub points_are_pairs : PointsAreFeasiblePairs
points_are_pairs units target b x sound point = gives_pair units target b x (sound_of units sound) point
