-- Expressions and their parts end no statement and open no block.
use Rattle.std.proofs.Common.{ℕ, true, false, Bool, List, ◌++◌, Option, None, Some, codes, refl, sym, subst}
use Rattle.p4_lexer.specs.declared.token.Kind.TheVariants as kind
use Rattle.elastic_ast.specs.OperatorSorts.{Operator, Or, And, Equal, Differ, Less, AtMost, Greater, AtLeast, BitOr, BitXor, BitAnd, ShiftUp, ShiftDown, Plus, Minus, Join, Times, Turn, Negate, NoOperator}
use Rattle.elastic_ast.specs.Tree.{PlainExpr}
use Rattle.elastic_ast.specs.declared.statements.Amount.{Amount}
use Rattle.elastic_ast.specs.declared.statements.Amount.TheVariants as amount
use Rattle.elastic_ast.specs.declared.statements.Lval.{Lval}
use Rattle.elastic_ast.specs.declared.statements.Lval.TheVariants as lval
use Rattle.elastic_ast.specs.declared.statements.RegRef.{RegRef}
use Rattle.spelling.specs.Words.{Word}
use Rattle.spelling.specs.Grammar.{Empty, Named, Num, ◌⨟◌, Sign}
use Rattle.spelling.specs.Bounds.{AreInLine}
use Rattle.spelling.proofs.Bounds.{InLine, both_in_line, is_in_line, in_empty, in_sign, in_reserved, in_named, in_kind, in_touching, in_both, in_where, in_round, in_square}
use Rattle.p4_expr.specs.Parts.{SpellsNumber, SpellsTruth, SpellsBits, SpellsAmount, SpellsIndex, SpellsHeader, SpellsNoArguments, SpellsLval, SpellsRegister, SpellsIsValid, SpellsBitRange, SpellsCast}
use Rattle.p4_expr.specs.Operators.{SpellsOperator, text_of}
use Rattle.p4_expr.specs.Expressions.{SpellsExpr, SpellsLevel, SpellsPrefixed, SpellsPrimary}

pub num_in_line : (value : ℕ) → InLine (Num value)
num_in_line value = in_kind (kind.Number None value) refl

pub number_in_line : (width : Option ℕ) (value : ℕ) → InLine (SpellsNumber width value)
number_in_line width value = in_where (in_kind (kind.Number width value) refl)

pub truth_in_line : (which : Bool) → InLine (SpellsTruth which)
truth_in_line true = in_reserved (codes "true")
truth_in_line false = in_reserved (codes "false")

pub dot_in_line : InLine (Sign (codes "."))
dot_in_line = in_sign (codes ".") refl refl refl

pub bits_in_line : (width : ℕ) → InLine (SpellsBits width)
bits_in_line width = in_where (in_both (in_reserved (codes "bit")) (in_both (in_sign (codes "<") refl refl refl) (in_both (num_in_line width) (in_sign (codes ">") refl refl refl))))

pub amount_in_line : (number : Amount) → InLine (SpellsAmount number)
amount_in_line (amount.Num value) = in_where (num_in_line value)
amount_in_line (amount.Named name) = in_named name

pub index_in_line : (depth : ℕ) (index : Option (List ℕ)) → InLine (SpellsIndex depth index)
index_in_line depth None = in_empty
index_in_line depth (Some index) = in_square depth (λ _. Named index) (λ _. in_named index)

pub header_in_line : (header : List ℕ) → InLine (SpellsHeader header)
header_in_line header = in_both (in_named (codes "hdr")) (in_both dot_in_line (in_named header))

pub lval_in_line : (depth : ℕ) (place : Lval) → InLine (SpellsLval depth place)
lval_in_line depth (lval.Header header field) = in_both (header_in_line header) (in_both dot_in_line (in_named field))
lval_in_line depth (lval.Meta name index) = in_both (in_named (codes "meta")) (in_both dot_in_line (in_both (in_named name) (index_in_line depth index)))
lval_in_line depth (lval.Std name) = in_both (in_named (codes "std")) (in_both dot_in_line (in_named name))

pub register_in_line : (depth : ℕ) (register : RegRef) → InLine (SpellsRegister depth register)
register_in_line depth register = in_both (in_named register.name) (index_in_line depth register.index)

no_arguments_in_line : (depth : ℕ) → InLine (SpellsNoArguments depth)
no_arguments_in_line depth = in_round depth (λ _. Empty) (λ _. in_empty)

pub is_valid_in_line : (depth : ℕ) (header : List ℕ) → InLine (SpellsIsValid depth header)
is_valid_in_line depth header = in_both (header_in_line header) (in_both dot_in_line (in_both (in_named (codes "isValid")) (no_arguments_in_line depth)))

pub bit_range_in_line : (depth high low : ℕ) → InLine (SpellsBitRange depth high low)
bit_range_in_line depth high low = in_where (in_square depth (λ _. Num high ⨟ Sign (codes ":") ⨟ Num low) (λ _. in_both (num_in_line high) (in_both (in_sign (codes ":") refl refl refl) (num_in_line low))))

pub cast_in_line : (depth width : ℕ) → InLine (SpellsCast depth width)
cast_in_line depth width = in_round depth (λ _. SpellsBits width) (λ _. bits_in_line width)

pub operator_in_line : (operator : Operator) → InLine (SpellsOperator operator)
operator_in_line ShiftDown ws h = in_touching (codes ">") (codes ">") (λ w. is_in_line (codes ">") w refl refl refl) (λ w. is_in_line (codes ">") w refl refl refl) ws h
operator_in_line NoOperator ws h = absurd h
operator_in_line Or ws h = in_sign (text_of Or) refl refl refl ws h
operator_in_line And ws h = in_sign (text_of And) refl refl refl ws h
operator_in_line Equal ws h = in_sign (text_of Equal) refl refl refl ws h
operator_in_line Differ ws h = in_sign (text_of Differ) refl refl refl ws h
operator_in_line Less ws h = in_sign (text_of Less) refl refl refl ws h
operator_in_line AtMost ws h = in_sign (text_of AtMost) refl refl refl ws h
operator_in_line Greater ws h = in_sign (text_of Greater) refl refl refl ws h
operator_in_line AtLeast ws h = in_sign (text_of AtLeast) refl refl refl ws h
operator_in_line BitOr ws h = in_sign (text_of BitOr) refl refl refl ws h
operator_in_line BitXor ws h = in_sign (text_of BitXor) refl refl refl ws h
operator_in_line BitAnd ws h = in_sign (text_of BitAnd) refl refl refl ws h
operator_in_line ShiftUp ws h = in_sign (text_of ShiftUp) refl refl refl ws h
operator_in_line Plus ws h = in_sign (text_of Plus) refl refl refl ws h
operator_in_line Minus ws h = in_sign (text_of Minus) refl refl refl ws h
operator_in_line Join ws h = in_sign (text_of Join) refl refl refl ws h
operator_in_line Times ws h = in_sign (text_of Times) refl refl refl ws h
operator_in_line Turn ws h = in_sign (text_of Turn) refl refl refl ws h
operator_in_line Negate ws h = in_sign (text_of Negate) refl refl refl ws h

three : (front inside back : List Word) → AreInLine front → AreInLine inside → AreInLine back → AreInLine (front ++ inside ++ back)
three front inside back p q r = both_in_line (front ++ inside) back (both_in_line front inside p q) r

mutual
  level_in_line : {depth level : ℕ} {e : PlainExpr} {ws : List Word} → SpellsLevel depth level e ws → AreInLine ws
  level_in_line (SpellsLevel.prefixed h) = prefixed_in_line h
  level_in_line (SpellsLevel.stronger h) = level_in_line h
  level_in_line (SpellsLevel.binary operator front sign back is first s second e) =
      subst AreInLine (sym e) (three front sign back (level_in_line first) (operator_in_line operator sign s) (level_in_line second))

  prefixed_in_line : {depth : ℕ} {e : PlainExpr} {ws : List Word} → SpellsPrefixed depth e ws → AreInLine ws
  prefixed_in_line (SpellsPrefixed.primary h) = primary_in_line h
  prefixed_in_line (SpellsPrefixed.unary operator front back is s h e) = subst AreInLine (sym e) (both_in_line front back (operator_in_line operator front s) (prefixed_in_line h))
  prefixed_in_line {depth = depth} (SpellsPrefixed.cast {width = width} front back c h e) = subst AreInLine (sym e) (both_in_line front back (cast_in_line depth width front c) (prefixed_in_line h))

  primary_in_line : {depth : ℕ} {e : PlainExpr} {ws : List Word} → SpellsPrimary depth e ws → AreInLine ws
  primary_in_line (SpellsPrimary.number {width = width} {value = value} {ws = ws} h) = number_in_line width value ws h
  primary_in_line (SpellsPrimary.name {text = text} {ws = ws} h) = in_named text ws h
  primary_in_line (SpellsPrimary.truth {which = which} {ws = ws} h) = truth_in_line which ws h
  primary_in_line {depth = depth} (SpellsPrimary.place {lval = lval} {ws = ws} h) = lval_in_line depth lval ws h
  primary_in_line {depth = depth} (SpellsPrimary.is_valid {header = header} {ws = ws} h) = is_valid_in_line depth header ws h
  primary_in_line (SpellsPrimary.bracketed opening inside closing o h c e) =
      subst AreInLine (sym e) (three opening inside closing (in_sign (codes "(") refl refl refl opening o) (level_in_line h) (in_sign (codes ")") refl refl refl closing c))
  primary_in_line (SpellsPrimary.hash {number = number} {modulus = modulus} name opening front inside back closing n o f h b c e) =
      let first = in_both (amount_in_line number) (in_sign (codes ",") refl refl refl) front f in
      let last = in_both (in_sign (codes ",") refl refl refl) (amount_in_line modulus) back b in
      let between = three front inside back first (level_in_line h) last in
      let opened = both_in_line name opening (in_named (codes "hash") name n) (in_sign (codes "(") refl refl refl opening o) in
      subst AreInLine (sym e) (three (name ++ opening) (front ++ inside ++ back) closing opened between (in_sign (codes ")") refl refl refl closing c))
  primary_in_line {depth = depth} (SpellsPrimary.slice {high = high} {low = low} front back first second e) =
      subst AreInLine (sym e) (both_in_line front back (primary_in_line first) (bit_range_in_line depth high low back second))

pub level_line : (depth level : ℕ) (e : PlainExpr) → InLine (SpellsLevel depth level e)
level_line depth level e ws h = level_in_line h

pub primary_line : (depth : ℕ) (e : PlainExpr) → InLine (SpellsPrimary depth e)
primary_line depth e ws h = primary_in_line h

pub expr_in_line : (depth : ℕ) (e : PlainExpr) → InLine (SpellsExpr depth e)
expr_in_line depth e ws h = level_in_line h
