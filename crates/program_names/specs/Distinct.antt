-- Names no two of which are the same; this project's own.
use Rattle.std.specs.Prelude.{Bool, true, not, ◌&&◌, List, [], ◌∷◌, ◌++◌}
use Rattle.elastic_ast.specs.Tree.{Name}
use Rattle.elastic_ast.specs.Typing.Scope.{among}

-- no name is among the given ones or stands twice
abbrev pub are_new : List Name → List Name → Bool
are_new before [] = true
are_new before (name ∷ names) = not (among before name) && are_new (before ++ name ∷ []) names

abbrev pub are_distinct : List Name → Bool
are_distinct names = are_new [] names
