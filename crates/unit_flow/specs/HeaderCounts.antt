-- Header bits as they are counted: some at all sizes, and some for each one in the size of a symbol; this project's own.
use Rattle.std.specs.Prelude.{◌≡◌, ℕ, ◌+◌, ◌<◌, nat_eq, List, [], ◌∷◌, length, slice_index, sum_by, Option, Some, None, option_map, if◌then◌else◌}
use Rattle.elastic_ast.specs.declared.declarations.Field.{Field}
use Rattle.elastic_ast.specs.Tree.{PlainDecl}
use Rattle.elastic_ast.specs.Units.PlainUnits.{PlainUnit}
use Rattle.elastic_ast.specs.Units.Cuts.{tests_in}
use Rattle.elastic_ast.specs.Units.Costs.{place_of_symbol}
use Rattle.unit_flow.specs.declared.header.HeaderBits.{HeaderBits}

-- what stands under the symbol of a number, or under none, counts at all sizes, and for each one in the size of a symbol
abbrev pub at_all : ℕ → Option ℕ → ℕ
at_all width None = width
at_all width (Some number) = 0

abbrev pub for_each : ℕ → ℕ → Option ℕ → ℕ
for_each place width None = 0
for_each place width (Some number) = if nat_eq number place then width else 0

-- numbers have grown by a width at a place, where there is one
pub record AddsTo (old new : List ℕ) (place width : ℕ) : Type 0 where
  pub each : (at : ℕ) → at < length old → slice_index new at ≡ slice_index old at + for_each at width (Some place)
  pub dense : length new ≡ length old

-- the counts have grown by things, each of a width and under a symbol or none
pub record Counts {X : Type 0} (width : X → ℕ) (under : X → Option ℕ) (old new : HeaderBits) (things : List X) : Type 0 where
  pub fixed : new.fixed ≡ old.fixed + sum_by (λ x. at_all (width x) (under x)) things
  pub each : (at : ℕ) → at < length old.each.items → slice_index new.each.items at ≡ slice_index old.each.items at + sum_by (λ x. for_each at (width x) (under x)) things
  pub dense : length new.each.items ≡ length old.each.items

-- the same of one thing
abbrev pub CountsOne : ℕ → Option ℕ → HeaderBits → HeaderBits → Type 0
CountsOne width under old new = Counts {X = ℕ × Option ℕ} (λ x. x.0) (λ x. x.1) old new ((width, under) ∷ [])

abbrev pub field_width : Field → ℕ
field_width field = field.width

abbrev pub field_under : List PlainDecl → Field → Option ℕ
field_under decls field = option_map (place_of_symbol decls) field.size

-- the metadata of a program, and the predicates of units
abbrev pub CountsFields : List PlainDecl → HeaderBits → HeaderBits → List Field → Type 0
CountsFields decls old new fields = Counts field_width (field_under decls) old new fields

abbrev pub CountsUnits : HeaderBits → HeaderBits → List PlainUnit → Type 0
CountsUnits old new units = Counts (λ unit. tests_in unit.work) (λ unit. unit.size) old new units
