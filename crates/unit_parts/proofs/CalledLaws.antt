-- What a piece of work reads, assigns and has of operators is what it has by itself and what it calls has.
use Rattle.std.proofs.Common.{◌≡◌, ◌+◌, max, Bool, List, [], ◌∷◌, ◌++◌, append_assoc, Option, Some, None, refl, sym, ap, ◌∙◌, arith}
use Rattle.std.specs.Prelude.{map, flat_map}
use Rattle.std.proofs.lemmas.List.{append-nil}
use Rattle.elastic_ast.specs.declared.flat.Lit.{Lit}
use Rattle.elastic_ast.specs.declared.flat.Location.{Location}
use Rattle.elastic_ast.specs.Tree.{Name, PlainDecl, PlainExpr, PlainStmt, PlainTable}
use Rattle.elastic_ast.specs.Typing.LookUps.{action_of, table_of}
use Rattle.elastic_ast.specs.Units.PlainUnits.{PlainWork, Plain, Call, Apply, Pred}
use Rattle.elastic_ast.specs.Units.Reach.{exprs_read, plain_assigns, keys_read, entries_read, fallback_reads, action_reads, action_assigns, actions_read, table_reads, table_assigns, leaf_reads, leaf_assigns, work_reads, work_assigns, lits_read, each_once, piece_reads, piece_writes}
use Rattle.elastic_ast.specs.Units.Costs.{action_ops, most_ops, table_ops, leaf_ops, work_ops, guard_ops, piece_ops}
use Rattle.unit_parts.specs.Called.{callee_reads, callee_assigns, greatest_ops, leaf_own_reads, leaf_own_ops, own_reads, own_assigns, own_ops, leaf_called, called, table_called, actions_in, actions_called}

-- what is given by what a function gives
each_of : {A B C : Type 0} (gives : B → List C) (f : A → B) (xs : List A) → flat_map (λ x. gives (f x)) xs ≡ flat_map gives (map f xs)
each_of gives f [] = refl
each_of gives f (x ∷ xs) = ap (λ z. gives (f x) ++ z) (each_of gives f xs)

nothing_more : (xs : List Location) → xs ≡ xs ++ []
nothing_more xs = sym (append-nil xs)

module _ (decls : List PlainDecl) where
  table_parts : (table : Option PlainTable) → table_reads decls table ≡ callee_reads table (actions_in decls table)
  table_parts None = refl
  table_parts (Some table) =
      sym (append_assoc (keys_read table.keys) (entries_read table.entries ++ fallback_reads table.fallback) (actions_read decls table.actions))
      ∙ ap (λ z. (keys_read table.keys ++ (entries_read table.entries ++ fallback_reads table.fallback)) ++ z) (each_of action_reads (action_of decls) table.actions)

  table_written : (table : Option PlainTable) → table_assigns decls table ≡ callee_assigns (actions_in decls table)
  table_written None = refl
  table_written (Some table) = each_of action_assigns (action_of decls) table.actions

  most_parts : (names : List Name) → most_ops decls names ≡ greatest_ops (map (action_of decls) names)
  most_parts [] = refl
  most_parts (name ∷ names) = ap (λ z. max (action_ops (action_of decls name)) z) (most_parts names)

  table_counted : (table : Option PlainTable) → table_ops decls table ≡ greatest_ops (actions_in decls table)
  table_counted None = refl
  table_counted (Some table) = most_parts table.actions

  leaf_parts : (s : PlainStmt) → leaf_reads decls s ≡ leaf_own_reads s ++ callee_reads (table_called decls (leaf_called s)) (actions_called decls (leaf_called s))
  leaf_parts (PlainStmt.Call action index args) = ap (λ z. exprs_read args ++ z) (nothing_more (action_reads (action_of decls action)))
  leaf_parts (PlainStmt.Apply table) = table_parts (table_of decls table)
  leaf_parts (PlainStmt.Block stage body) = refl
  leaf_parts (PlainStmt.If condition body) = refl
  leaf_parts (PlainStmt.IfElse condition body other) = refl
  leaf_parts (PlainStmt.For index size body) = refl
  leaf_parts (PlainStmt.Assign to value) = nothing_more _
  leaf_parts (PlainStmt.Read to register cell) = nothing_more _
  leaf_parts (PlainStmt.Write register cell value) = nothing_more _
  leaf_parts (PlainStmt.Valid header on) = refl

  leaf_written : (s : PlainStmt) → leaf_assigns decls s ≡ plain_assigns s ++ callee_assigns (actions_called decls (leaf_called s))
  leaf_written (PlainStmt.Call action index args) = nothing_more (action_assigns (action_of decls action))
  leaf_written (PlainStmt.Apply table) = table_written (table_of decls table)
  leaf_written (PlainStmt.Block stage body) = refl
  leaf_written (PlainStmt.If condition body) = refl
  leaf_written (PlainStmt.IfElse condition body other) = refl
  leaf_written (PlainStmt.For index size body) = refl
  leaf_written (PlainStmt.Assign to value) = nothing_more _
  leaf_written (PlainStmt.Read to register cell) = nothing_more _
  leaf_written (PlainStmt.Write register cell value) = nothing_more _
  leaf_written (PlainStmt.Valid header on) = nothing_more _

  leaf_counted : (s : PlainStmt) → leaf_ops decls s ≡ leaf_own_ops s + greatest_ops (actions_called decls (leaf_called s))
  leaf_counted (PlainStmt.Call action index args) = omega arith
  leaf_counted (PlainStmt.Apply table) = let e = table_counted (table_of decls table) in omega (arith, e)
  leaf_counted (PlainStmt.Block stage body) = omega arith
  leaf_counted (PlainStmt.If condition body) = omega arith
  leaf_counted (PlainStmt.IfElse condition body other) = omega arith
  leaf_counted (PlainStmt.For index size body) = omega arith
  leaf_counted (PlainStmt.Assign to value) = omega arith
  leaf_counted (PlainStmt.Read to register cell) = omega arith
  leaf_counted (PlainStmt.Write register cell value) = omega arith
  leaf_counted (PlainStmt.Valid header on) = omega arith

  work_parts : (work : PlainWork) → work_reads decls work ≡ own_reads work ++ callee_reads (table_called decls (called work)) (actions_called decls (called work))
  work_parts (Plain s) = leaf_parts s
  work_parts (Call s) = leaf_parts s
  work_parts (Apply table) = table_parts (table_of decls table)
  work_parts (Pred number condition) = nothing_more _

  work_written : (own : Bool) (work : PlainWork) → work_assigns decls own work ≡ own_assigns own work ++ callee_assigns (actions_called decls (called work))
  work_written own (Plain s) = leaf_written s
  work_written own (Call s) = leaf_written s
  work_written own (Apply table) = table_written (table_of decls table)
  work_written own (Pred number condition) = refl

  work_counted : (work : PlainWork) → work_ops decls work ≡ own_ops work + greatest_ops (actions_called decls (called work))
  work_counted (Plain s) = leaf_counted s
  work_counted (Call s) = leaf_counted s
  work_counted (Apply table) = let e = table_counted (table_of decls table) in omega (arith, e)
  work_counted (Pred number condition) = omega arith

  pub reads_are : (lits : List Lit) (conds : List PlainExpr) (work : PlainWork)
      → each_once (lits_read lits ++ (exprs_read conds ++ (own_reads work ++ callee_reads (table_called decls (called work)) (actions_called decls (called work))))) ≡ piece_reads decls lits conds work
  reads_are lits conds work = ap (λ z. each_once (lits_read lits ++ (exprs_read conds ++ z))) (sym (work_parts work))

  pub writes_are : (own : Bool) (work : PlainWork) → each_once (own_assigns own work ++ callee_assigns (actions_called decls (called work))) ≡ piece_writes decls own work
  writes_are own work = ap each_once (sym (work_written own work))

  pub ops_are : (lits : List Lit) (conds : List PlainExpr) (work : PlainWork) → guard_ops lits conds + (own_ops work + greatest_ops (actions_called decls (called work))) ≡ piece_ops decls lits conds work
  ops_are lits conds work = ap (λ z. guard_ops lits conds + z) (sym (work_counted work))
