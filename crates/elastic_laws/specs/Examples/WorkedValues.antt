-- Small expressions outside of any program, for the equations that show what values are; this project's own.
use Rattle.std.specs.Prelude.{ℕ, [], ◌∷◌, Some, None, codes}
use Rattle.elastic_ast.specs.declared.statements.Amount.TheVariants as amount
use Rattle.elastic_ast.specs.Tree.{PlainDecl, PlainExpr}
use Rattle.elastic_ast.specs.Typing.Types.{Bits, Bare}
use Rattle.elastic_ast.specs.Meaning.Memory.{Memory, held}
use Rattle.elastic_ast.specs.Meaning.Values.{Setting, value}

-- nothing is remembered
abbrev pub blank : Memory
blank = held (λ place. (0, 0)) (λ name index. [])

-- one symbol `s` of the size 256, and the index 0
abbrev pub nowhere : Setting
nowhere = record { decls = PlainDecl.Symbol (codes "s") ∷ []; sizes = 256 ∷ []; params = []; args = []; index = Some 0 }

-- the value at a place that gives no width
abbrev pub value_outside : PlainExpr → ℕ
value_outside expression = value nowhere blank expression Bare

-- the value at a place of 8 bits
abbrev pub value_in_byte : PlainExpr → ℕ
value_in_byte expression = value nowhere blank expression (Bits 8)

abbrev pub wide : ℕ → ℕ → PlainExpr
wide width number = PlainExpr.Num (Some width) number

abbrev pub bare : ℕ → PlainExpr
bare number = PlainExpr.Num None number

abbrev pub byte : ℕ → PlainExpr
byte number = wide 8 number

-- `hash(i, x, s)` for the index `i`, a number `x` of 128 bits and the symbol `s`
abbrev pub hash_in_loop : PlainExpr
hash_in_loop = PlainExpr.Hash (amount.Named (codes "i")) (wide 128 0x161c8864680b583eb) (amount.Named (codes "s"))
