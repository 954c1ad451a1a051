-- What the actions and tables of a control ask; this project's own. Each table sees the actions before it.
use Rattle.std.specs.Prelude.{ℕ, ◌==◌, nat_le, Bool, true, false, ◌||◌, List, [], ◌∷◌, ◌++◌, length, map, flat_map, Option, Some, None, is_some, is_none}
use Rattle.elastic_ast.specs.Typing.LanguageLimits.{most_entries}
use Rattle.elastic_ast.specs.declared.declarations.Param.{Param}
use Rattle.elastic_ast.specs.declared.declarations.Key.{Key}
use Rattle.elastic_ast.specs.Tree.{Name, PlainDecl, PlainExpr, PlainStmts, PlainKeyset, PlainEntry, PlainAction, PlainTable, PlainLocal}
use Rattle.elastic_ast.specs.Typing.Scope.{among, Scope, top}
use Rattle.elastic_ast.specs.Typing.LookUps.{declared_constant}
use Rattle.elastic_ast.specs.Typing.Types.{Ty, bits_of, of_width, constant_width, lval_type}
use Rattle.elastic_ast.specs.Typing.Demand.{Demand, Known, Wide, Alike, Constant, NoRegister, Keyed, Listed, Called}
use Rattle.elastic_ast.specs.Typing.AskedOfNames.{asks_names, top_names}
use Rattle.elastic_ast.specs.Typing.AskedInExpressions.{asks_lval, asks_bits}
use Rattle.elastic_ast.specs.Typing.AskedInStatements.{no_action_name, action_among, calling_sizes_in, asks_stmts}
use Rattle.elastic_ast.specs.Typing.NamedRegisters.{body_registers}

abbrev pub option_names : Option Name → List Name
option_names None = []
option_names (Some name) = name ∷ []

abbrev pub param_name : Param → Name
param_name param = param.name

abbrev pub asks_param : Param → List Demand
asks_param param = Wide param.width ∷ []

-- In an action: its parameters and its index, which counts as that of each loop that calls it.
abbrev pub in_action : List PlainDecl → PlainStmts → PlainAction → Scope
in_action before body action =
    record { before = before; params = action.params; index = action.index; sizes = calling_sizes_in action.name [] body }

-- the index and the parameters are one scope
abbrev pub asks_action : List PlainDecl → PlainStmts → PlainAction → List Demand
asks_action before body action =
    asks_names [] (option_names action.index ++ map param_name action.params)
    ++ (flat_map asks_param action.params ++ asks_stmts (in_action before body action) [] action.body)

-- A number in the width of its place, or a constant of this width. A name that is declared as something else is no constant;
-- one that isn't declared is unknown too.
abbrev pub asks_value : List PlainDecl → PlainExpr → Ty → List Demand
asks_value before (PlainExpr.Named name) width =
    Known (among (top_names before) name) ∷ Constant (is_some (declared_constant before name)) ∷ Alike (of_width (constant_width before name)) width ∷ []
asks_value before value width = asks_bits (top before) value width

abbrev pub asks_set : List PlainDecl → Ty → PlainKeyset → List Demand
asks_set before width (PlainKeyset.One value) = asks_value before value width
asks_set before width (PlainKeyset.Masked value mask) = asks_value before value width ++ asks_value before mask width
asks_set before width PlainKeyset.Any = []

abbrev pub is_one : PlainKeyset → Bool
is_one (PlainKeyset.One value) = true
is_one (PlainKeyset.Masked value mask) = false
is_one PlainKeyset.Any = false

-- one set for each key, in its width; that of an exact key is one number
abbrev pub asks_sets : List PlainDecl → List PlainKeyset → List Key → List Demand
asks_sets before [] keys = Keyed (length keys == 0) ∷ []
asks_sets before (set ∷ sets) [] = Keyed false ∷ []
asks_sets before (set ∷ sets) (key ∷ keys) =
    Keyed (key.ternary || is_one set) ∷ (asks_set before (lval_type before key.field) set ++ asks_sets before sets keys)

-- one argument for each parameter, in its width
abbrev pub asks_values : List PlainDecl → List PlainExpr → List Param → List Demand
asks_values before [] params = Called (length params == 0) ∷ []
asks_values before (value ∷ values) [] = Called false ∷ []
asks_values before (value ∷ values) (param ∷ params) = asks_value before value (bits_of param.width) ++ asks_values before values params

-- an action with its arguments, which a table runs
abbrev pub asks_run : List PlainDecl → List PlainLocal → Name → List PlainExpr → List Demand
asks_run before locals name values = of (action_among locals name)
  where
    of : Option PlainAction → List Demand
    of None = Known false ∷ []
    of (Some action) = asks_values before values action.params

-- an action of a table has no index and names no register
abbrev pub asks_listed : List PlainLocal → Name → List Demand
asks_listed locals name = of (action_among locals name)
  where
    of : Option PlainAction → List Demand
    of None = Known false ∷ []
    of (Some action) = Called (is_none action.index) ∷ NoRegister (length (body_registers action.body) == 0) ∷ []

abbrev pub asks_key : List PlainDecl → Key → List Demand
asks_key before key = asks_lval (top before) key.field

abbrev pub asks_entry : List PlainDecl → List PlainLocal → PlainTable → PlainEntry → List Demand
asks_entry before locals table entry =
    asks_sets before entry.keys table.keys ++ (Listed (among table.actions entry.action) ∷ asks_run before locals entry.action entry.args)

-- `NoAction` may always be the default action
abbrev pub asks_fallback : List PlainDecl → List PlainLocal → PlainTable → Option (Name × List PlainExpr) → List Demand
asks_fallback before locals table None = []
asks_fallback before locals table (Some run) = Listed (among (no_action_name ∷ table.actions) run.0) ∷ asks_run before locals run.0 run.1

-- there are no more entries than the size says, and that isn't too great
abbrev pub asks_size : ℕ → Option ℕ → List Demand
asks_size count None = []
asks_size count (Some size) = Listed (nat_le size most_entries) ∷ Listed (nat_le count size) ∷ []

abbrev pub asks_table : List PlainDecl → List PlainLocal → PlainTable → List Demand
asks_table before locals table =
    flat_map (asks_key before) table.keys ++ (flat_map (asks_listed locals) table.actions ++ (asks_size (length table.entries) table.size
    ++ (flat_map (asks_entry before locals table) table.entries ++ asks_fallback before locals table table.fallback)))

abbrev pub local_name : PlainLocal → Name
local_name (PlainLocal.OfAction action) = action.name
local_name (PlainLocal.OfTable table) = table.name

abbrev pub asks_local : List PlainDecl → PlainStmts → List PlainLocal → PlainLocal → List Demand
asks_local before body locals (PlainLocal.OfAction action) = asks_action before body action
asks_local before body locals (PlainLocal.OfTable table) = asks_table before locals table

-- the actions and tables of a control with this body, after the given ones
abbrev pub asks_locals : List PlainDecl → PlainStmts → List PlainLocal → List PlainLocal → List Demand
asks_locals before body seen [] = []
asks_locals before body seen (local ∷ locals) = asks_local before body seen local ++ asks_locals before body (seen ++ local ∷ []) locals
