-- That a parser whose states can't come back has passed each of them once at most when it ends; this project's own.
use Rattle.std.specs.Prelude.{◌≡◌, ℕ, ◌≤◌, false, List, length, codes}
use Rattle.elastic_ast.specs.Tree.{Name, PlainDecl, PlainState}
use Rattle.elastic_ast.specs.Typing.Scope.{among}
use Rattle.elastic_ast.specs.Typing.ParserLoops.{state_names, LeadsToState}
use Rattle.elastic_ast.specs.Packets.Taken.{Parsed, parsed_from}

-- no state can reach itself, and none has the name of the refusal
pub record IsLoopFree (states : List PlainState) : Type 0 where
  pub no_loops : (state : ℕ) → LeadsToState states state state → ⊥
  pub reject : among (state_names states) (codes "reject") ≡ false

-- whoever lets the parser pass more states than there are gets no other answer
abbrev pub EndsInTime : Type 0
EndsInTime =
    (decls : List PlainDecl) (sizes : List ℕ) (states : List PlainState) (bytes : List ℕ) (name : Name) (parsed : Parsed) (most : ℕ) → IsLoopFree states
    → length states ≤ most
    → parsed_from most decls sizes states bytes name parsed ≡ parsed_from (length states) decls sizes states bytes name parsed
