-- The numbers of the variables, as they are counted, are those of units at bounds.
use Rattle.std.proofs.Common.{◌≡◌, ℕ, ◌+◌, ◌*◌, ◌≤◌, List, map, length, sym, ap, ◌∙◌, subst, arith}
use Rattle.std.specs.Prelude.{sum_by}
use Rattle.std.proofs.lemmas.List.{length-map}
use Rattle.elastic_ast.specs.declared.flat.Unit.{Unit as FlatUnit}
use Rattle.elastic_ast.specs.declared.flat.Units.{Units}
use Rattle.elastic_ast.specs.Units.PlainUnits.{PlainUnits}
use Rattle.elastic_ast.specs.Units.SeenUnits.{seen_unit}
use Rattle.elastic_ast.specs.Units.Instances.{nth_size}
use Rattle.int_program.specs.Limits.{most_variables}
use Rattle.target_desc.specs.declared.target.Target.{Target}
use Rattle.unit_flow.specs.SoundUnits.{SoundUnits}
use Rattle.unroll_bound.specs.BoundAnswers.{AreBoundsWithin}
use Rattle.unroll_bound.specs.Counts.{looped_below}
use Rattle.unroll_bound.specs.LoopUses.{loop_use}
use Rattle.unroll_bound.specs.declared.loop_uses.LoopUse.{LoopUse}
use Rattle.unroll_bound.specs.SymbolLists.{IsListOf}
use Rattle.ilp_model.specs.Candidates.{candidates}
use Rattle.ilp_model.specs.ListedCandidates.{listed}
use Rattle.ilp_model.specs.Marks.{indices_below, AreStarts}
use Rattle.ilp_model.specs.Numbers.{AreNumbers}
use Rattle.ilp_model.specs.SeenKeys.{seen_key, seen_keys}
use Rattle.ilp_model.specs.StepKeys.{step_keys}
use Rattle.ilp_model.specs.Variables.{symbol_count, past_loops, past_keys, past_stages}
use Rattle.ilp_model.specs.declared.listing.Candidate.{Candidate as Listed}
use Rattle.ilp_model.specs.declared.step_keys.ReachedKey.{ReachedKey}
use Rattle.ilp_model.proofs.NumberLaws.{indices_are, stages_within, keys_within}

-- the marks of units as they are kept
pub marks_of : (units : Units) (list : List FlatUnit) (symbols : ℕ) (uses items : List LoopUse) → list ≡ units.list
    → IsListOf symbols (loop_use (map seen_unit list)) items → uses ≡ items → IsListOf symbols (loop_use (map seen_unit units.list)) uses
marks_of units list symbols uses items e h f =
    subst (λ z. IsListOf symbols (loop_use (map seen_unit z)) uses) e
    (subst (λ z. IsListOf symbols (loop_use (map seen_unit list)) z) (sym f) h)

module _ (units : PlainUnits) (target : Target) (bounds : List ℕ) (sound : SoundUnits units) (within : AreBoundsWithin units target bounds)
    (uses : List LoopUse) (marks : IsListOf (length bounds) (loop_use units.list) uses) where
  uses_many : length uses ≡ symbol_count units
  uses_many = marks.dense ∙ within.found.dense

  indices_all : (n : ℕ) → n ≤ symbol_count units → indices_below uses bounds n ≡ sum_by (nth_size bounds) (looped_below units.list n)
  indices_all n l = indices_are units.list uses (length bounds) bounds marks n (let d = within.found.dense in omega (arith, d, l))

  loops_end : length uses + indices_below uses bounds (length uses) ≡ past_loops units (nth_size bounds)
  loops_end =
      ap (λ n. n + indices_below uses bounds n) uses_many
      ∙ ap (λ n. symbol_count units + n) (indices_all (symbol_count units) (omega arith))

  pub loops_few : length uses + indices_below uses bounds (length uses) ≤ most_variables
  loops_few = let v = within.variables in omega (arith, v, loops_end, keys_within units target (nth_size bounds) sound)

  module _ (loops : List ℕ) (past : ℕ) (starts : AreStarts uses bounds (length uses) loops past) (keys : List ReachedKey)
      (seen : seen_keys keys ≡ step_keys units.terms (nth_size bounds)) (list : List Listed)
      (lists : list ≡ map listed (candidates units (nth_size bounds))) where
    past_is : past ≡ past_loops units (nth_size bounds)
    past_is = starts.past ∙ loops_end

    keys_many : length keys ≡ length (step_keys units.terms (nth_size bounds))
    keys_many = sym (length-map keys seen_key) ∙ ap length seen

    list_many : length list ≡ length (candidates units (nth_size bounds))
    list_many = ap length lists ∙ length-map (candidates units (nth_size bounds)) listed

    keys_end : past + length keys * 1 ≡ past_keys units (nth_size bounds)
    keys_end = omega (arith, past_is, keys_many)

    stages_end : (stands stages : ℕ) → stages ≡ target.stages → stands ≡ past + length keys * 1
        → stands + length list * stages ≡ past_stages units target (nth_size bounds)
    stages_end stands stages s e =
        ap (λ n. n + length list * stages) (e ∙ keys_end)
        ∙ ap (λ n. past_keys units (nth_size bounds) + n * stages) list_many
        ∙ ap (λ n. past_keys units (nth_size bounds) + length (candidates units (nth_size bounds)) * n) s

    pub keys_few : past + length keys * 1 ≤ most_variables
    keys_few = let v = within.variables in omega (arith, v, keys_end, keys_within units target (nth_size bounds) sound)

    pub stages_few : (stands stages : ℕ) → stages ≡ target.stages → stands ≡ past + length keys * 1
        → stands + length list * stages ≤ most_variables
    stages_few stands stages s e =
        let v = within.variables in omega (arith, v, stages_end stands stages s e, stages_within units target (nth_size bounds) sound)

    pub numbers_are : (stands held stages : ℕ) → stages ≡ target.stages → stands ≡ past + length keys * 1
        → held ≡ stands + length list * stages
        → AreNumbers units target (nth_size bounds) (record { loops = loops; keys = past; stands = stands; held = held; stages = stages })
    numbers_are stands held stages s e f = record {
      dense = starts.dense ∙ uses_many;
      loops = λ s l. starts.each s (let m = uses_many in omega (arith, m, l)) ∙ ap (λ n. n + indices_below uses bounds s) uses_many
          ∙ ap (λ n. symbol_count units + n) (indices_all s (omega (arith, l)));
      keys = past_is;
      stands = e ∙ keys_end;
      held = f ∙ stages_end stands stages s e;
      stages = s;
      few = within.variables;
    }
