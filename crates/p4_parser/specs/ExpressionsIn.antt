-- The expressions of a program, those that stand in an expression left out; this project's own. What stands in a set or in an
-- argument of a table is one number or one name.
use Rattle.std.specs.Prelude.{List, [], ◌∷◌, ◌++◌, flat_map}
use Rattle.elastic_ast.specs.Tree.{PlainExpr, PlainLocal, PlainNext, PlainState, PlainDecl, PlainProgram}
use Rattle.p4_statements.specs.ExpressionsIn.{expressions_of_all}

abbrev pub expressions_of_local : PlainLocal → List PlainExpr
expressions_of_local (PlainLocal.OfAction action) = expressions_of_all action.body
expressions_of_local (PlainLocal.OfTable table) = []

abbrev pub expressions_of_next : PlainNext → List PlainExpr
expressions_of_next (PlainNext.To state) = []
expressions_of_next (PlainNext.Select of cases) = of ∷ []

abbrev pub expressions_of_state : PlainState → List PlainExpr
expressions_of_state state = expressions_of_next state.next

abbrev pub expressions_of_decl : PlainDecl → List PlainExpr
expressions_of_decl (PlainDecl.Parser name states) = flat_map expressions_of_state states
expressions_of_decl (PlainDecl.Control name locals body) = flat_map expressions_of_local locals ++ expressions_of_all body
expressions_of_decl _ = []

abbrev pub expressions_in : PlainProgram → List PlainExpr
expressions_in = flat_map expressions_of_decl
