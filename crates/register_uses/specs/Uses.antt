-- How the units of work of a program use a register, unit by unit; this project's own.
use Rattle.std.specs.Prelude.{Bool, true, false, not, ◌&&◌, List, [], ◌∷◌, Option, Some, None, if◌then◌else◌}
use Rattle.elastic_ast.specs.Tree.{Name}
use Rattle.elastic_ast.specs.Typing.Scope.{same, among}
use Rattle.elastic_ast.specs.Typing.NamedRegisters.{Naming}
use Rattle.register_uses.specs.Summaries.{PlainSummary, summed}
use Rattle.register_uses.specs.declared.uses.Use.{Use}
use Rattle.register_uses.specs.declared.uses.Use.TheVariants as usage

-- what some units and some others make of a register: each that names it counts
abbrev pub combined : Option Use → Option Use → Option Use
combined None other = other
combined (Some one) None = Some one
combined (Some one) (Some other) = Some usage.Twice

-- the register is named twice, if it is one of some
abbrev pub twice_if : Bool → Option Use
twice_if named = if named then Some usage.Twice else None

-- what a unit makes of a register, where its registers come down to this
abbrev pub use_in : Bool → PlainSummary → List Name → Name → Option Use
use_in looped PlainSummary.Nothing names register = None
use_in looped (PlainSummary.Only name) names register = if same register name then Some (usage.Once looped) else None
use_in looped PlainSummary.Several names register = twice_if (among names register)

abbrev pub use_in_unit : Naming → Name → Option Use
use_in_unit naming register = use_in naming.0 (summed naming.1) naming.1 register

abbrev pub use_in_units : List Naming → Name → Option Use
use_in_units [] register = None
use_in_units (naming ∷ namings) register = combined (use_in_unit naming register) (use_in_units namings register)

-- a register that is used so is named twice
abbrev pub is_twice : Bool → Option Use → Bool
is_twice array None = false
is_twice array (Some (usage.Once looped)) = looped && not array
is_twice array (Some usage.Twice) = true
