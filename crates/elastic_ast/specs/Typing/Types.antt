-- The type of an expression: bits of a width, bits that take their width from their place, a boolean, or none that is known,
-- where a rule is broken. Numbers without a width take it from the other operand or from their place (this project's own,
-- narrower than P4-16).
use Rattle.std.specs.Prelude.{ℕ, ◌+◌, ◌-◌, ◌==◌, nat_le, nat_lt, Bool, ◌&&◌, List, find, Option, Some, None, option_map, if◌then◌else◌}
use Rattle.elastic_ast.specs.Typing.LanguageLimits.{most_width, hash_width}
use Rattle.elastic_ast.specs.declared.statements.Lval.{Lval}
use Rattle.elastic_ast.specs.declared.statements.Lval.TheVariants as lval
use Rattle.elastic_ast.specs.declared.declarations.Param.{Param}
use Rattle.elastic_ast.specs.Tree.{Name, PlainDecl, PlainExpr}
use Rattle.elastic_ast.specs.Typing.Scope.{same, or_else, is_name_of}
use Rattle.elastic_ast.specs.Typing.LookUps.{declared_constant, header_fields, meta_fields, width_among, std_width}
use Rattle.elastic_ast.specs.OperatorSorts.{operator_of, Sort, Logic, Comparison, Shift, Joining, Arithmetic, sort_of}

pub data Ty : Type 0 where
  Bits : ℕ → Ty
  Bare : Ty
  Truth : Ty
  Unknown : Ty  -- what breaks a rule and so has no type: nothing more is asked of its type, and it gives no width

-- which names an expression may use: those of declarations, and those of the parameters of the action around it; the index
-- around it is none of them
pub record Names : Type 0 where
  pub before : List PlainDecl
  pub params : List Param
  pub index : Option Name

-- how many bits a value may have
abbrev pub is_width : ℕ → Bool
is_width width = nat_le 1 width && nat_le width most_width

-- bits of a number that is a width; another number breaks a rule where it stands
abbrev pub bits_of : ℕ → Ty
bits_of width = if is_width width then Bits width else Unknown

-- a type that has no width takes that of the other
abbrev pub taking : Ty → Ty → Ty
taking Bare giver = giver
taking type giver = type

-- the type of a number, with a width of its own or without
abbrev pub number_type : Option ℕ → Ty
number_type (Some width) = bits_of width
number_type None = Bare

-- the type of what is declared with a width, where it is declared
abbrev pub of_width : Option ℕ → Ty
of_width (Some width) = bits_of width
of_width None = Unknown

-- the width of bits, and 0 where there is none
abbrev pub width_of_type : Ty → ℕ
width_of_type (Bits width) = width
width_of_type type = 0

-- what two operands of one width give
abbrev pub common_type : Ty → Ty → Ty
common_type (Bits left) (Bits right) = if left == right then Bits left else Unknown
common_type (Bits left) Bare = Bits left
common_type Bare (Bits right) = Bits right
common_type Bare Bare = Bare
common_type left right = Unknown

-- two widths side by side, where that is a width
abbrev pub both_widths : Ty → Ty → Ty
both_widths (Bits high) (Bits low) = bits_of (high + low)
both_widths high low = Unknown

-- the one bit down to the other lie within so many bits
abbrev pub lie_within : ℕ → ℕ → ℕ → Bool
lie_within high low width = nat_le low high && nat_lt high width

-- from the one bit down to the other, where they lie within bits of a width
abbrev pub part_type : ℕ → ℕ → Ty → Ty
part_type high low (Bits width) = if lie_within high low width then Bits (high + 1 - low) else Unknown
part_type high low of = Unknown

-- what an operator of this sort gives for operands of two types
abbrev pub outcome : Sort → Ty → Ty → Ty
outcome Logic left right = Truth
outcome Comparison left right = Truth
outcome Shift left right = left
outcome Joining left right = both_widths left right
outcome Arithmetic left right = common_type left right

-- what the left operand takes its width from
abbrev pub left_giver : Sort → Ty → Ty → Ty
left_giver Comparison left right = right
left_giver Arithmetic left right = right
left_giver _ left right = Bare

-- what the right operand takes its width from
abbrev pub right_giver : Sort → Ty → Ty → Ty
right_giver Comparison left right = left
right_giver Arithmetic left right = left
right_giver Shift left right = left
right_giver _ left right = Bare

-- the type of what may be assigned to
abbrev pub lval_type : List PlainDecl → Lval → Ty
lval_type decls (lval.Header header field) = of_width (width_among (header_fields decls header) field)
lval_type decls (lval.Meta name index) = of_width (width_among (meta_fields decls) name)
lval_type decls (lval.Std name) = of_width (std_width name)

abbrev pub param_width : List Param → Name → Option ℕ
param_width params name = option_map (λ param. param.width) (find (λ param. same name param.name) params)

abbrev pub constant_width : List PlainDecl → Name → Option ℕ
constant_width decls name = option_map (λ constant. constant.0) (declared_constant decls name)

-- a parameter hides a constant, and so does the index around, which has no type
abbrev pub named_type : Names → Name → Ty
named_type names name =
    of_width (or_else (param_width names.params name) (if is_name_of names.index name then None else constant_width names.before name))

-- what a unary operator gives: `!` a boolean, `~` what it takes
abbrev pub turned_type : Sort → Ty → Ty
turned_type Logic of = Truth
turned_type _ of = of

-- the type that an expression has by itself
abbrev pub type_of : Names → PlainExpr → Ty
type_of names (PlainExpr.Num width value) = number_type width
type_of names (PlainExpr.Truth value) = Truth
type_of names (PlainExpr.Named name) = named_type names name
type_of names (PlainExpr.At place) = lval_type names.before place
type_of names (PlainExpr.IsValid header) = Truth
type_of names (PlainExpr.Unary op of) = turned_type (sort_of (operator_of op)) (type_of names of)
type_of names (PlainExpr.Binary op left right) = outcome (sort_of (operator_of op)) (type_of names left) (type_of names right)
type_of names (PlainExpr.Cast width of) = bits_of width
type_of names (PlainExpr.Slice of high low) = part_type high low (type_of names of)
type_of names (PlainExpr.Hash k of modulus) = Bits hash_width

-- the type that it has at a place that gives it a width
abbrev pub type_at : Names → PlainExpr → Ty → Ty
type_at names expression giver = taking (type_of names expression) giver
