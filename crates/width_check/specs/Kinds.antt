-- Which kinds of declarations, of those that may stand once in a program, stand among some declarations; this project's own.
use Rattle.std.specs.Prelude.{◌≡◌, Bool, true, not, ◌&&◌, List, Option, Some, None, option_map, unwrap_or}
use Rattle.elastic_ast.specs.Tree.{PlainDecl}
use Rattle.elastic_ast.specs.Typing.Asked.{DeclKind, decl_kind, has}
use Rattle.width_check.specs.declared.kinds.Kinds.{Kinds}

-- whether one kind is among them
abbrev pub flag : Kinds → DeclKind → Bool
flag kinds DeclKind.Utility = kinds.utility
flag kinds DeclKind.Headers = kinds.headers
flag kinds DeclKind.Metadata = kinds.metadata
flag kinds DeclKind.Parser = kinds.parser
flag kinds DeclKind.Control = kinds.control
flag kinds DeclKind.Deparser = kinds.deparser
flag kinds DeclKind.Main = kinds.main

-- with one kind more, if there is one
abbrev pub with_kind : Option DeclKind → Kinds → Kinds
with_kind None kinds = kinds
with_kind (Some DeclKind.Utility) kinds = record kinds { utility = true }
with_kind (Some DeclKind.Headers) kinds = record kinds { headers = true }
with_kind (Some DeclKind.Metadata) kinds = record kinds { metadata = true }
with_kind (Some DeclKind.Parser) kinds = record kinds { parser = true }
with_kind (Some DeclKind.Control) kinds = record kinds { control = true }
with_kind (Some DeclKind.Deparser) kinds = record kinds { deparser = true }
with_kind (Some DeclKind.Main) kinds = record kinds { main = true }

-- the kind of a declaration, if it may stand once, isn't among them
abbrev pub lacks_kind : Kinds → PlainDecl → Bool
lacks_kind kinds decl = unwrap_or (option_map (λ kind. not (flag kinds kind)) (decl_kind decl)) true

-- they are those of some declarations
abbrev pub AreKinds : Kinds → List PlainDecl → Type 0
AreKinds kinds decls = (kind : DeclKind) → flag kinds kind ≡ has kind decls

-- all is among them that `main` needs
abbrev pub has_all_parts : Kinds → Bool
has_all_parts kinds = kinds.headers && kinds.metadata && kinds.parser && kinds.control && kinds.deparser
