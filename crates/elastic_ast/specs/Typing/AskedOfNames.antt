-- What the names of one scope ask, and the names that stand for sizes; this project's own.
use Rattle.std.specs.Prelude.{List, [], ◌∷◌, ◌++◌, flat_map, Option, Some, None}
use Rattle.elastic_ast.specs.declared.statements.Amount.{Amount}
use Rattle.elastic_ast.specs.declared.statements.Amount.TheVariants as amount
use Rattle.elastic_ast.specs.Tree.{Name, PlainDecl}
use Rattle.elastic_ast.specs.Typing.Scope.{is_symbol}
use Rattle.elastic_ast.specs.Typing.Demand.{Demand, Known, Fresh, Counts, Plain}

-- the names of one scope, each new to those before it and to the given ones
abbrev pub asks_names : List Name → List Name → List Demand
asks_names before [] = []
asks_names before (name ∷ names) = Fresh before name ∷ Plain name ∷ asks_names (before ++ name ∷ []) names

-- the name that a declaration puts into the scope of the program
abbrev pub top_name : PlainDecl → List Name
top_name (PlainDecl.Symbol name) = name ∷ []
top_name (PlainDecl.Const name width value) = name ∷ []
top_name (PlainDecl.Header name fields) = name ∷ []
top_name (PlainDecl.Register name width cells size) = name ∷ []
top_name (PlainDecl.Parser name states) = name ∷ []
top_name (PlainDecl.Control name locals body) = name ∷ []
top_name (PlainDecl.Deparser name emits) = name ∷ []
top_name _ = []

abbrev pub top_names : List PlainDecl → List Name
top_names = flat_map top_name

-- a size, where something has one, is that of a symbol
abbrev pub asks_symbol : List PlainDecl → Option Name → List Demand
asks_symbol before None = []
asks_symbol before (Some symbol) = Known (is_symbol before symbol) ∷ []

-- a number of cells or a modulus: a number that may count, or a symbol
abbrev pub asks_amount : List PlainDecl → Amount → List Demand
asks_amount before (amount.Num number) = Counts number ∷ []
asks_amount before (amount.Named symbol) = Known (is_symbol before symbol) ∷ []
