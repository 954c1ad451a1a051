-- What a name means at a place: what the declarations before it declare (P4-16 language specification 1.2.3, section 6.8;
-- the kinds of things are this project's own).
use Rattle.std.specs.Prelude.{Bool, false, List, [], ◌∷◌, Option, Some, None, is_some, bytes_eq, if◌then◌else◌}
use Rattle.std.specs.List.{list_any}
use Rattle.elastic_ast.specs.declared.declarations.Param.{Param}
use Rattle.elastic_ast.specs.Tree.{Name, PlainDecl}

abbrev pub same : Name → Name → Bool
same = bytes_eq

abbrev pub among : List Name → Name → Bool
among names name = list_any (same name) names

abbrev pub or_else : {A : Type 0} → Option A → Option A → Option A
or_else (Some x) other = Some x
or_else None other = other

-- what the first element gives that gives something
abbrev pub found : {A B : Type 0} → (A → Option B) → List A → Option B
found gives [] = None
found gives (x ∷ xs) = or_else (gives x) (found gives xs)

-- the symbol that a declaration declares, if it has this name
abbrev pub symbol_of : Name → PlainDecl → Option Name
symbol_of name (PlainDecl.Symbol symbol) = if same name symbol then Some symbol else None
symbol_of name _ = None

-- one of the declarations declares a symbol of this name
abbrev pub is_symbol : List PlainDecl → Name → Bool
is_symbol decls name = is_some (found (symbol_of name) decls)

-- Where an expression stands: after which declarations, with which parameters, and with which index of a loop or an action
-- around it. The sizes are those of the loops that the index may be of: of one loop, or of all loops that call the action.
pub record Scope : Type 0 where
  pub before : List PlainDecl
  pub params : List Param
  pub index : Option Name
  pub sizes : List Name

-- outside of actions and loops
abbrev pub top : List PlainDecl → Scope
top decls = record { before = decls; params = []; index = None; sizes = [] }

-- the name is that of an index, where there is one
abbrev pub is_name_of : Option Name → Name → Bool
is_name_of None name = false
is_name_of (Some index) name = same name index

-- the name is that of the index around
abbrev pub is_index : Scope → Name → Bool
is_index scope name = is_name_of scope.index name
