-- When the value of a key is in a set, and which action a table runs (P4-16 language specification 1.2.3, its sections on
-- select expressions and on tables; the order of entries is this project's own).
use Rattle.std.specs.Prelude.{ℕ, ◌==◌, Bool, true, false, ◌&&◌, List, [], ◌∷◌, bit_and, Option, Some, None, if◌then◌else◌}
use Rattle.elastic_ast.specs.declared.declarations.Key.{Key}
use Rattle.elastic_ast.specs.Tree.{Name, PlainExpr, PlainKeyset, PlainEntry, PlainTable}
use Rattle.elastic_ast.specs.Typing.Scope.{or_else, found}
use Rattle.elastic_ast.specs.Typing.Types.{Ty, lval_type}
use Rattle.elastic_ast.specs.Meaning.Memory.{Memory}
use Rattle.elastic_ast.specs.Meaning.Values.{Setting, value}

-- a key is in a set: it is the number, or it is so in the bits of the mask, or anything is. Numbers in a set take the
-- width of the key.
abbrev pub in_set : Setting → Memory → Ty → ℕ → PlainKeyset → Bool
in_set setting memory width key (PlainKeyset.One number) = key == value setting memory number width
in_set setting memory width key (PlainKeyset.Masked number mask) =
    bit_and key (value setting memory mask width) == bit_and (value setting memory number width) (value setting memory mask width)
in_set setting memory width key PlainKeyset.Any = true

-- each key is in the set of its place
abbrev pub in_sets : Setting → Memory → List Key → List PlainKeyset → Bool
in_sets setting memory [] [] = true
in_sets setting memory [] (set ∷ sets) = false
in_sets setting memory (key ∷ keys) [] = false
in_sets setting memory (key ∷ keys) (set ∷ sets) =
    let width = lval_type setting.decls key.field in
    in_set setting memory width (value setting memory (PlainExpr.At key.field) width) set && in_sets setting memory keys sets

-- an action and its arguments
abbrev pub Run : Type 0
Run = Name × List PlainExpr

-- what an entry runs where the keys are in its sets
abbrev pub run_of : Setting → Memory → List Key → PlainEntry → Option Run
run_of setting memory keys entry = if in_sets setting memory keys entry.keys then Some (entry.action, entry.args) else None

-- the first entry that matches, in the order of the text, or else the default action
abbrev pub chosen : Setting → Memory → PlainTable → Option Run
chosen setting memory table = or_else (found (run_of setting memory table.keys) table.entries) table.fallback
