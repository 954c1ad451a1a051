-- The ranges of a target's numbers. This project's own.
use Rattle.std.specs.Prelude.{◌≤◌}
use Rattle.target_desc.specs.TargetKeys.{most_header_bits, most_stage_actions, most_stage_bits, most_stages, most_unit_operators}
use Rattle.target_desc.specs.declared.target.Target.{Target}

-- each number of a target is in its range
pub record IsInRange (target : Target) : Type 0 where
  pub stages : (1 ≤ target.stages) × (target.stages ≤ most_stages)
  pub memory_bits : target.memory_bits ≤ most_stage_bits
  pub stateful : target.stateful ≤ most_stage_actions
  pub stateless : target.stateless ≤ most_stage_actions
  pub table_bits : target.table_bits ≤ most_stage_bits
  pub ternary_bits : target.ternary_bits ≤ most_stage_bits
  pub header_bits : target.header_bits ≤ most_header_bits
  pub ops : target.ops ≤ most_unit_operators
