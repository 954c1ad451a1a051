-- The parts of expressions and statements open no more brackets than their depth allows.
use Rattle.std.proofs.Common.{ℕ, true, false, Bool, List, Option, None, Some, codes, refl}
use Rattle.p4_lexer.specs.declared.token.Kind.TheVariants as kind
use Rattle.elastic_ast.specs.OperatorSorts.{Operator, Or, And, Equal, Differ, Less, AtMost, Greater, AtLeast, BitOr, BitXor, BitAnd, ShiftUp, ShiftDown, Plus, Minus, Join, Times, Turn, Negate, NoOperator}
use Rattle.elastic_ast.specs.declared.statements.Amount.{Amount}
use Rattle.elastic_ast.specs.declared.statements.Amount.TheVariants as amount
use Rattle.elastic_ast.specs.declared.statements.Lval.{Lval}
use Rattle.elastic_ast.specs.declared.statements.Lval.TheVariants as lval
use Rattle.elastic_ast.specs.declared.statements.RegRef.{RegRef}
use Rattle.spelling.specs.Grammar.{Empty, Named, Num, ◌⨟◌, Sign}
use Rattle.spelling.proofs.Balance.{Stays, stays_empty, stays_sign, stays_reserved, stays_named, stays_kind, stays_both, stays_where, stays_round, stays_square, stays_touching}
use Rattle.p4_expr.specs.Parts.{SpellsNumber, SpellsTruth, SpellsBits, SpellsAmount, SpellsIndex, SpellsHeader, SpellsNoArguments, SpellsLval, SpellsRegister, SpellsIsValid, SpellsBitRange, SpellsCast}
use Rattle.p4_expr.specs.Operators.{SpellsOperator, text_of}

pub number_stays : {depth : ℕ} (width : Option ℕ) (value : ℕ) → Stays depth (SpellsNumber width value)
number_stays width value = stays_where (stays_kind (kind.Number width value) refl)

pub num_stays : {depth : ℕ} (value : ℕ) → Stays depth (Num value)
num_stays value = stays_kind (kind.Number None value) refl

pub truth_stays : {depth : ℕ} (which : Bool) → Stays depth (SpellsTruth which)
truth_stays true = stays_reserved (codes "true")
truth_stays false = stays_reserved (codes "false")

pub bits_stays : {depth : ℕ} (width : ℕ) → Stays depth (SpellsBits width)
bits_stays width = stays_where (stays_both (stays_reserved (codes "bit")) (stays_both (stays_sign (codes "<") refl refl) (stays_both (num_stays width) (stays_sign (codes ">") refl refl))))

pub amount_stays : {depth : ℕ} (number : Amount) → Stays depth (SpellsAmount number)
amount_stays (amount.Num value) = stays_where (num_stays value)
amount_stays (amount.Named name) = stays_named name

pub index_stays : (depth : ℕ) (index : Option (List ℕ)) → Stays depth (SpellsIndex depth index)
index_stays depth None = stays_empty
index_stays depth (Some index) = stays_square depth (λ _. Named index) (λ _. stays_named index)

pub header_stays : {depth : ℕ} (header : List ℕ) → Stays depth (SpellsHeader header)
header_stays header = stays_both (stays_named (codes "hdr")) (stays_both (stays_sign (codes ".") refl refl) (stays_named header))

pub no_arguments_stays : (depth : ℕ) → Stays depth (SpellsNoArguments depth)
no_arguments_stays depth = stays_round depth (λ _. Empty) (λ _. stays_empty)

pub lval_stays : (depth : ℕ) (place : Lval) → Stays depth (SpellsLval depth place)
lval_stays depth (lval.Header header field) = stays_both (header_stays header) (stays_both (stays_sign (codes ".") refl refl) (stays_named field))
lval_stays depth (lval.Meta name index) = stays_both (stays_named (codes "meta")) (stays_both (stays_sign (codes ".") refl refl) (stays_both (stays_named name) (index_stays depth index)))
lval_stays depth (lval.Std name) = stays_both (stays_named (codes "std")) (stays_both (stays_sign (codes ".") refl refl) (stays_named name))

pub register_stays : (depth : ℕ) (register : RegRef) → Stays depth (SpellsRegister depth register)
register_stays depth register = stays_both (stays_named register.name) (index_stays depth register.index)

pub is_valid_stays : (depth : ℕ) (header : List ℕ) → Stays depth (SpellsIsValid depth header)
is_valid_stays depth header = stays_both (header_stays header) (stays_both (stays_sign (codes ".") refl refl) (stays_both (stays_named (codes "isValid")) (no_arguments_stays depth)))

pub bit_range_stays : (depth high low : ℕ) → Stays depth (SpellsBitRange depth high low)
bit_range_stays depth high low = stays_where (stays_square depth (λ _. Num high ⨟ Sign (codes ":") ⨟ Num low) (λ _. stays_both (num_stays high) (stays_both (stays_sign (codes ":") refl refl) (num_stays low))))

pub cast_stays : (depth width : ℕ) → Stays depth (SpellsCast depth width)
cast_stays depth width = stays_round depth (λ _. SpellsBits width) (λ _. bits_stays width)

pub operator_stays : {depth : ℕ} (operator : Operator) → Stays depth (SpellsOperator operator)
operator_stays ShiftDown ws h = stays_touching (codes ">") (codes ">") refl refl refl refl ws h
operator_stays NoOperator ws h = absurd h
operator_stays Or ws h = stays_sign (text_of Or) refl refl ws h
operator_stays And ws h = stays_sign (text_of And) refl refl ws h
operator_stays Equal ws h = stays_sign (text_of Equal) refl refl ws h
operator_stays Differ ws h = stays_sign (text_of Differ) refl refl ws h
operator_stays Less ws h = stays_sign (text_of Less) refl refl ws h
operator_stays AtMost ws h = stays_sign (text_of AtMost) refl refl ws h
operator_stays Greater ws h = stays_sign (text_of Greater) refl refl ws h
operator_stays AtLeast ws h = stays_sign (text_of AtLeast) refl refl ws h
operator_stays BitOr ws h = stays_sign (text_of BitOr) refl refl ws h
operator_stays BitXor ws h = stays_sign (text_of BitXor) refl refl ws h
operator_stays BitAnd ws h = stays_sign (text_of BitAnd) refl refl ws h
operator_stays ShiftUp ws h = stays_sign (text_of ShiftUp) refl refl ws h
operator_stays Plus ws h = stays_sign (text_of Plus) refl refl ws h
operator_stays Minus ws h = stays_sign (text_of Minus) refl refl ws h
operator_stays Join ws h = stays_sign (text_of Join) refl refl ws h
operator_stays Times ws h = stays_sign (text_of Times) refl refl ws h
operator_stays Turn ws h = stays_sign (text_of Turn) refl refl ws h
operator_stays Negate ws h = stays_sign (text_of Negate) refl refl ws h
