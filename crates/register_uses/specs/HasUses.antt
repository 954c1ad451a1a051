-- What the tables of a program's registers say of its declarations; this project's own.
use Rattle.std.specs.Prelude.{◌≡◌, ℕ, Bool, List, Option, is_some, option_map}
use denote.Bor.{Bor}
use Rattle.elastic_ast.specs.declared.declarations.Decl.{Decl}
use Rattle.elastic_ast.specs.Tree.{Name, PlainDecl}
use Rattle.elastic_ast.specs.Seen.{seen_decl, seen_decls}
use Rattle.elastic_ast.specs.Typing.LookUps.{register_size_in}
use Rattle.elastic_ast.specs.Typing.NamedRegisters.{registers_in, named_registers}
use Rattle.register_uses.specs.Uses.{use_in_units}
use Rattle.program_names.specs.FirstNamed.{entry_value, HasFirst, EntersFirst}
use Rattle.register_uses.specs.Walks.{UseEntries, Adds}

abbrev pub ArrayEntries : Type 0
ArrayEntries = List (Bor (List ℕ) × Bool)

abbrev pub array_shown : Bool → Bool
array_shown array = array

-- whether a declaration of a register declares an array
abbrev pub array_given : Name → PlainDecl → Option Bool
array_given name decl = option_map is_some (register_size_in name decl)

abbrev pub EntersArray : ArrayEntries → ArrayEntries → Decl → Type 0
EntersArray old new decl = EntersFirst array_shown array_given old new (seen_decl decl)

abbrev pub HasArrays : List Decl → ArrayEntries → Type 0
HasArrays decls entries = HasFirst array_shown array_given entries (seen_decls decls)

abbrev pub AddsDecl : UseEntries → UseEntries → Decl → Type 0
AddsDecl old new decl = Adds old new (registers_in (seen_decl decl))

abbrev pub HasAllUses : List Decl → UseEntries → Type 0
HasAllUses decls uses = (register : Name) → entry_value uses register ≡ use_in_units (named_registers (seen_decls decls)) register

pub record HasUses (decls : List Decl) (arrays : ArrayEntries) (uses : UseEntries) : Type 0 where
  pub arrays_first : HasArrays decls arrays
  pub uses_all : HasAllUses decls uses
