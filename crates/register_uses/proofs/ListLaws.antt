-- What the elements of a list give, one element more.
use Rattle.std.proofs.Common.{◌≡◌, ℕ, ◌+◌, ◌<◌, ◌≤◌, List, [], ◌∷◌, ◌++◌, take, length, get_or, refl, sym, ap, ◌∙◌}
use Rattle.std.specs.Prelude.{Bool, flat_map}
use Rattle.std.proofs.lemmas.List.{append-nil, take_more, take_all}
use Rattle.std.proofs.lemmas.Grind.{flat_map-append}
use Rattle.elastic_ast.specs.declared.declarations.Decl.{Decl}
use Rattle.elastic_ast.specs.declared.statements.Stmt.{Stmt}
use Rattle.elastic_ast.specs.Tree.{Name, PlainLocal}
use Rattle.elastic_ast.specs.Seen.{seen_decl, seen_decls, seen_stmt, seen_stmts}
use Rattle.elastic_ast.specs.Typing.NamedRegisters.{Naming, plain_registers, body_registers, unit_registers, units_registers, registers_in, named_registers}

pub given_more : {A B : Type 0} (gives : A → List B) (xs : List A) (i : ℕ) (x : A) → i < length xs → x ≡ get_or xs i x → flat_map gives (take (i + 1) xs) ≡ flat_map gives (take i xs) ++ gives x
given_more gives xs i x h e =
    ap (flat_map gives) (take_more xs i x h) ∙ flat_map-append gives (take i xs) (get_or xs i x ∷ [])
    ∙ ap (λ z. flat_map gives (take i xs) ++ (gives z ++ [])) (sym e) ∙ ap (λ z. flat_map gives (take i xs) ++ z) (append-nil (gives x))

pub given_all : {A B : Type 0} (gives : A → List B) (xs : List A) (i : ℕ) → length xs ≤ i → flat_map gives (take i xs) ≡ flat_map gives xs
given_all gives xs i h = ap (flat_map gives) (take_all i xs h)

-- what a statement of an action's body, a statement of a control's, and a declaration give
abbrev pub plain_given : Stmt → List Name
plain_given stmt = plain_registers (seen_stmt stmt)

abbrev pub units_given : List PlainLocal → Bool → Stmt → List Naming
units_given locals looped stmt = unit_registers locals looped (seen_stmt stmt)

abbrev pub decl_given : Decl → List Naming
decl_given decl = registers_in (seen_decl decl)

pub body_given : (stmts : List Stmt) → flat_map plain_given stmts ≡ body_registers (seen_stmts stmts)
body_given [] = refl
body_given (stmt ∷ stmts) = ap (λ z. plain_given stmt ++ z) (body_given stmts)

pub stmts_given : (locals : List PlainLocal) (looped : Bool) (stmts : List Stmt) → flat_map (units_given locals looped) stmts ≡ units_registers locals looped (seen_stmts stmts)
stmts_given locals looped [] = refl
stmts_given locals looped (stmt ∷ stmts) = ap (λ z. units_given locals looped stmt ++ z) (stmts_given locals looped stmts)

pub decls_given : (decls : List Decl) → flat_map decl_given decls ≡ named_registers (seen_decls decls)
decls_given [] = refl
decls_given (decl ∷ decls) = ap (λ z. decl_given decl ++ z) (decls_given decls)
