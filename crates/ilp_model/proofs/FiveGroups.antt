-- The rows of sizes, loops and keys, added one group after the other.
use Rattle.std.proofs.Common.{◌≡◌, ℕ, pos, List, [], ◌∷◌, ◌++◌, map, length, ◌-ℤ◌, ap, ◌∙◌}
use Rattle.std.specs.Prelude.{flat_map}
use Rattle.elastic_ast.specs.declared.flat.Linear.{Linear}
use Rattle.elastic_ast.specs.declared.flat.Units.{Units}
use Rattle.elastic_ast.specs.Units.SeenUnits.{seen_unit, seen_units}
use Rattle.elastic_ast.specs.Units.Instances.{nth_size, each_turn}
use Rattle.int_program.specs.declared.program.Row.{Row}
use Rattle.target_desc.specs.declared.target.Target.{Target}
use Rattle.unit_flow.specs.SoundUnits.{SoundUnits}
use Rattle.unroll_bound.specs.BoundAnswers.{AreBoundsWithin}
use Rattle.unroll_bound.specs.LoopUses.{loop_use}
use Rattle.unroll_bound.specs.declared.loop_uses.LoopUse.{LoopUse}
use Rattle.unroll_bound.specs.SymbolLists.{IsListOf}
use Rattle.ilp_model.specs.declared.numbering.Numbering.{Numbering}
use Rattle.ilp_model.specs.declared.step_keys.ReachedKey.{ReachedKey}
use Rattle.ilp_model.specs.IpOf.{row_of}
use Rattle.ilp_model.specs.Marks.{is_marked}
use Rattle.ilp_model.specs.Numbers.{AreNumbers}
use Rattle.ilp_model.specs.Rows.{size_groups}
use Rattle.ilp_model.specs.SeenKeys.{seen_keys}
use Rattle.ilp_model.specs.StepKeys.{step_keys}
use Rattle.ilp_model.specs.Variables.{variable_number}
use Rattle.ilp_model.specs.Written.{written_sizes, written_row, written_term, written_one, written_marked, written_keys}
use Rattle.ilp_model.proofs.GroupLaws.{groups_written}
use Rattle.ilp_model.proofs.ModelLaws.{added_five}

module _ (units : Units) (target : Target) (bounds : List ℕ) (sound : SoundUnits (seen_units units)) (within : AreBoundsWithin (seen_units units) target bounds)
    (numbers : Numbering) (are : AreNumbers (seen_units units) target (nth_size bounds) numbers) (keys : List ReachedKey)
    (seen : seen_keys keys ≡ step_keys units.terms (nth_size bounds)) (uses : List LoopUse)
    (marks : IsListOf (length bounds) (loop_use (map seen_unit units.list)) uses) where
  abbrev header : Row
  header = written_row (written_sizes 0 (map pos units.symbol_bits)) (pos target.header_bits -ℤ pos units.fixed_bits)

  abbrev loop_part : List ℕ → List Row
  loop_part loops = each_turn (length loops) (written_marked (is_marked uses) (nth_size loops) (nth_size bounds))

  pub five_groups : (terms : List Linear) (ones loops : List ℕ) → terms ≡ units.terms.rows → ones ≡ units.terms.ones → loops ≡ numbers.loops
      → (old one two three four five : List Row) → one ≡ old ++ map written_term terms → two ≡ one ++ map written_one ones
      → three ≡ two ++ written_row (written_sizes 0 (map pos units.symbol_bits)) (pos target.header_bits -ℤ pos units.fixed_bits) ∷ []
      → four ≡ three ++ each_turn (length loops) (written_marked (is_marked uses) (nth_size loops) (nth_size bounds))
      → five ≡ four ++ flat_map (written_keys numbers.keys (nth_size bounds)) keys
      → five ≡ old ++ map (row_of (variable_number (seen_units units) target (nth_size bounds))) (size_groups (seen_units units) target (nth_size bounds))
  five_groups terms ones loops et eo el old one two three four five e1 e2 e3 e4 e5 =
      added_five old one two three four five (map written_term units.terms.rows) (map written_one units.terms.ones) (header ∷ []) (loop_part numbers.loops)
      (flat_map (written_keys numbers.keys (nth_size bounds)) keys)
      (e1 ∙ ap (λ z. old ++ map written_term z) et)
      (e2 ∙ ap (λ z. one ++ map written_one z) eo)
      e3
      (e4 ∙ ap (λ z. three ++ loop_part z) el)
      e5
      ∙ ap (λ z. old ++ z) (groups_written (seen_units units) target bounds sound within numbers are keys seen uses marks)
