use Rattle.std.proofs.Common.{◌≡◌, drop, map}
use Rattle.std.specs.Prelude.{option_map}
use Rattle.elastic_ast.specs.Tree.{Name}
use Rattle.elastic_ast.specs.Seen.{seen_decl}
use Rattle.elastic_ast.specs.Typing.Scope.{or_else, found}
use Rattle.program_names.specs.FirstNamed.{entry_value}
use Rattle.register_uses.specs.HasUses.{array_shown, array_given}
use Rattle.register_uses.proofs.program.arrays_of.Given as goal

abbrev pub invariant-loop-decl : goal.invariant-loop-decl
invariant-loop-decl l =
    (name : Name) → or_else (option_map array_shown (entry_value l.arrays.entries name)) (found (array_given name) (map seen_decl (drop l.decl-index l.decls))) ≡ found (array_given name) (map seen_decl l.decls)
