-- The words by which the forms of statements without statements in them are told apart, this project's own.
use Rattle.std.specs.Prelude.{◌≡◌, List, codes, drop}
use Rattle.p4_lexer.specs.declared.token.Kind.TheVariants as kind
use Rattle.spelling.specs.Words.{Word}
use Rattle.spelling.specs.Grammar.{Begins, IsNamed, IsSign}

-- where an index and the brackets of a call follow a name, this holds
abbrev pub IfIndexedCall : List Word → Type 0 → Type 0
IfIndexedCall ws Holds = Begins (IsSign (codes "[")) (drop 1 ws) → Begins (IsSign (codes "(")) (drop 4 ws) → Holds

-- the brackets of a call follow a name or its index
abbrev pub IsCallAhead : List Word → Type 0
IsCallAhead ws = (Begins (IsSign (codes "(")) (drop 1 ws) → ⊥) → IfIndexedCall ws ⊥ → ⊥

-- behind a name and a point `apply` is called
abbrev pub IsApplyAhead : List Word → Type 0
IsApplyAhead ws = Begins (IsNamed (codes "apply")) (drop 2 ws) × Begins (IsSign (codes "(")) (drop 3 ws)

-- an index follows a name, or the brackets of a call the name behind it
abbrev pub IsWriteAhead : List Word → Type 0
IsWriteAhead ws = (Begins (IsSign (codes "[")) (drop 1 ws) → ⊥) → (Begins (IsSign (codes "(")) (drop 3 ws) → ⊥) → ⊥

-- behind a header and a point a name is called
abbrev pub IsChangeAhead : List Word → Type 0
IsChangeAhead ws = Begins (IsSign (codes ".")) (drop 3 ws) × Begins (IsSign (codes "(")) (drop 5 ws)

-- where an index that is a name follows a name, this holds; and where `read` of a name is called
abbrev pub IfIndexedName : List Word → Type 0 → Type 0
IfIndexedName ws Holds = Begins (λ word. word.kind ≡ kind.Name) ws → Begins (IsSign (codes "[")) (drop 1 ws) → Begins (λ word. word.kind ≡ kind.Name) (drop 2 ws) → Holds

abbrev pub IfReadCall : List Word → Type 0 → Type 0
IfReadCall ws Holds = Begins (λ word. word.kind ≡ kind.Name) ws → Begins (IsSign (codes ".")) (drop 1 ws) → Begins (IsNamed (codes "read")) (drop 2 ws) → Begins (IsSign (codes "(")) (drop 3 ws) → Holds
