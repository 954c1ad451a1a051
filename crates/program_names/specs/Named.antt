-- Things that are found by their names; this project's own.
use Rattle.std.specs.Prelude.{◌≡◌, ℕ, List, ◌++◌, map, find, position, Option, Vec}
use Rattle.std.specs.declared.alloc.Global.{Global}
use Rattle.elastic_ast.specs.Tree.{Name}
use Rattle.elastic_ast.specs.Typing.Scope.{same, among}

-- the first thing of a name
abbrev pub first_named : {T : Type 0} → (T → Name) → List T → Name → Option T
first_named name_of things name = find (λ thing. same name (name_of thing)) things

-- where a name stands
abbrev pub place_of : List Name → Name → Option ℕ
place_of names name = position (same name) names

-- a thing is found by its name, where the names are those of the things and of some behind them
abbrev pub FindsNamed : {T : Type 0} → List Name → List T → Name → Option T → Type 0
FindsNamed {T} names things name result =
    (name_of : T → Name) (more : List T) → names ≡ map name_of (things ++ more) → result ≡ first_named name_of things name

-- the names of two lists are the same, in whatever order
abbrev pub HasSameNames : List Name → List Name → Type 0
HasSameNames names others = (name : Name) → among others name ≡ among names name

-- the names of a table
abbrev pub texts : List (Vec ℕ Global × Unit {0}) → List Name
texts entries = map (λ entry. entry.0.items) entries
