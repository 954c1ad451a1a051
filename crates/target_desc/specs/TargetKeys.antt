-- The keys of a target's description and the ranges of their numbers; this project's own.
use Rattle.std.specs.Prelude.{ℕ, List, [], ◌∷◌, codes}
use Rattle.target_desc.specs.declared.key_name.KeyName.{KeyName}
use Rattle.target_desc.specs.declared.key_name.KeyName.TheVariants as key

-- the most stages of a target
abbrev pub most_stages : ℕ
most_stages = 64

-- the most bits of each kind of memory in a stage
abbrev pub most_stage_bits : ℕ
most_stage_bits = 1000000000

-- the most actions of each kind in a stage
abbrev pub most_stage_actions : ℕ
most_stage_actions = 1024

abbrev pub most_header_bits : ℕ
most_header_bits = 1000000

-- the most operators of a unit
abbrev pub most_unit_operators : ℕ
most_unit_operators = 64

-- in the order in which they are looked at
abbrev pub target_keys : List KeyName
target_keys = key.Stages ∷ key.MemoryBits ∷ key.Stateful ∷ key.Stateless ∷ key.TableBits ∷ key.TernaryBits ∷ key.HeaderBits ∷ key.Ops ∷ []

abbrev pub key_text : KeyName → List ℕ
key_text key.Stages = codes "stages"
key_text key.MemoryBits = codes "memory_bits"
key_text key.Stateful = codes "stateful"
key_text key.Stateless = codes "stateless"
key_text key.TableBits = codes "table_bits"
key_text key.TernaryBits = codes "ternary_bits"
key_text key.HeaderBits = codes "header_bits"
key_text key.Ops = codes "ops"

-- the least number at a key
abbrev pub least_at : KeyName → ℕ
least_at key.Stages = 1
least_at key.MemoryBits = 0
least_at key.Stateful = 0
least_at key.Stateless = 0
least_at key.TableBits = 0
least_at key.TernaryBits = 0
least_at key.HeaderBits = 0
least_at key.Ops = 0

-- the greatest number at a key
abbrev pub most_at : KeyName → ℕ
most_at key.Stages = most_stages
most_at key.MemoryBits = most_stage_bits
most_at key.Stateful = most_stage_actions
most_at key.Stateless = most_stage_actions
most_at key.TableBits = most_stage_bits
most_at key.TernaryBits = most_stage_bits
most_at key.HeaderBits = most_header_bits
most_at key.Ops = most_unit_operators
