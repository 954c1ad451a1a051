-- The lines that the commands print; this project's own.
use Rattle.std.specs.Prelude.{ℕ, ℤ, pos, List, [], ◌∷◌, codes}
use Rattle.elastic_ast.specs.declared.rule.Rule.{Rule}
use Rattle.elx_io.specs.Lines.{with_word, with_number, with_end}
use Rattle.target_desc.specs.TargetKeys.{key_text}
use Rattle.target_desc.specs.declared.key_name.KeyName.{KeyName}
use Rattle.unroll_bound.specs.declared.unit_bounds.What.{What}
use Rattle.unroll_bound.specs.declared.unit_bounds.What.TheVariants as what
use Rattle.p4all_top.specs.declared.parsing.Refusal.{Refusal}
use Rattle.p4all_top.specs.declared.parsing.Refusal.TheVariants as refusal
use Rattle.p4all_top.specs.RuleNames.{rule_text}

-- a text and the line `size NAME VALUE`
abbrev pub with_size : List ℕ → List ℕ → ℕ → List ℕ
with_size text symbol size = with_end (with_number (with_word (with_word text (codes "size")) symbol) (pos size))

-- a text and such a line for each symbol
unfoldable pub with_sizes : List ℕ → List (List ℕ) → List ℕ → List ℕ
with_sizes text [] sizes = text
with_sizes text (symbol ∷ symbols) [] = text
with_sizes text (symbol ∷ symbols) (size ∷ sizes) = with_sizes (with_size text symbol size) symbols sizes

-- a text and the line `utility VALUE`
abbrev pub with_utility : List ℕ → ℤ → List ℕ
with_utility text value = with_end (with_number (with_word text (codes "utility")) value)

-- the sizes of the symbols, and the utility
abbrev pub sizes_text : List (List ℕ) → List ℕ → ℤ → List ℕ
sizes_text symbols sizes value = with_utility (with_sizes [] symbols sizes) value

abbrev pub infeasible_text : List ℕ
infeasible_text = with_end (with_word [] (codes "infeasible"))

-- the line `refused WHAT ..` so far
abbrev pub begun_refusal : List ℕ → List ℕ
begun_refusal what = with_word (with_word [] (codes "refused")) what

-- the line `refused WHAT CAUSE ..` so far
abbrev pub begun_cause : List ℕ → List ℕ → List ℕ
begun_cause what cause = with_word (begun_refusal what) cause

-- the line `refused WHY NAMED`
abbrev pub refused_text : List ℕ → List ℕ → List ℕ
refused_text why named = with_end (begun_cause why named)

-- the line `refused unit UNIT OPS`
abbrev pub unit_text : ℕ → ℕ → List ℕ
unit_text unit ops = with_end (with_number (with_number (begun_refusal (codes "unit")) (pos unit)) (pos ops))

abbrev pub unbounded_text : List ℕ → List ℕ
unbounded_text symbol = refused_text (codes "unbounded") symbol

-- what is too large
abbrev pub what_text : What → List ℕ
what_text what.Bound = codes "bound"
what_text what.Instances = codes "instances"
what_text what.Variables = codes "variables"
what_text what.Rows = codes "rows"

-- the line `refused large WHAT COUNT`
abbrev pub large_text : What → ℕ → List ℕ
large_text part count = with_end (with_number (begun_cause (codes "large") (what_text part)) (pos count))

-- the line `refused src CAUSE PLACE`
abbrev pub source_text : List ℕ → ℕ → List ℕ
source_text cause place = with_end (with_number (begun_cause (codes "src") cause) (pos place))

-- the line `refused src rule RULE ..` so far
abbrev pub begun_rule : Rule → List ℕ
begun_rule rule = with_word (begun_cause (codes "src") (codes "rule")) (rule_text rule)

-- the line `refused src rule RULE DECL`
abbrev pub rule_line_text : Rule → ℕ → List ℕ
rule_line_text rule decl = with_end (with_number (begun_rule rule) (pos decl))

-- the line `refused target CAUSE KEY`
abbrev pub target_text : List ℕ → KeyName → List ℕ
target_text cause key = with_end (with_word (begun_cause (codes "target") cause) (key_text key))

-- the line of each refusal
abbrev pub refusal_text : Refusal → List ℕ
refusal_text refusal.LongSource = refused_text (codes "long") (codes "src")
refusal_text refusal.LongTarget = refused_text (codes "long") (codes "target")
refusal_text (refusal.Byte at) = source_text (codes "byte") at
refusal_text (refusal.Number at) = source_text (codes "number") at
refusal_text (refusal.Comment at) = source_text (codes "comment") at
refusal_text (refusal.Syntax token) = source_text (codes "syntax") token
refusal_text (refusal.Deep token) = source_text (codes "deep") token
refusal_text (refusal.Rule rule decl) = rule_line_text rule decl
refusal_text refusal.Toml = refused_text (codes "target") (codes "toml")
refusal_text refusal.UnknownKey = refused_text (codes "target") (codes "unknown")
refusal_text (refusal.MissingKey key) = target_text (codes "missing") key
refusal_text (refusal.OutOfRange key) = target_text (codes "range") key
