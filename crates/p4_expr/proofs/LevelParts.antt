-- An expression of a level is one of the next stronger level, and the operators of the level with their right operands.
use Rattle.std.proofs.Common.{◌≡◌, ℕ, suc, List, ◌++◌, codes, refl, sym, subst, ◌∙◌, arith, append_assoc}
use Rattle.elastic_ast.specs.Tree.{PlainExpr}
use Rattle.elastic_ast.specs.OperatorSorts.{Operator, Turn, Negate, NoOperator}
use Rattle.spelling.specs.Words.{Word}
use Rattle.spelling.specs.Grammar.{◌⨟◌, Begins}
use Rattle.spelling.specs.Reading.{MayTake}
use Rattle.p4_expr.specs.Parts.{SpellsBits, SpellsCast}
use Rattle.spelling.proofs.Only.{begins_bracketed}
use Rattle.spelling.proofs.Taking.{all_taken}
use Rattle.p4_expr.specs.Operators.{IsOperator, SpellsOperator, level_of}
use Rattle.p4_expr.specs.Expressions.{SpellsLevel, SpellsPrefixed}
use Rattle.p4_expr.proofs.Slices.{primary_starts}
use Rattle.p4_expr.proofs.LeftGrown.{Grown, GrownAhead, first_alone, grown_ahead, grown_one}
use Rattle.p4_expr.proofs.Starts.{IsStart, begins_also, begins_front, sign_start}

-- an operator's code and its right operand
abbrev pub Step : Type 0
Step = ℕ × PlainExpr

-- an operator of a level and an expression of another
pub record SpellsStep (depth level below : ℕ) (step : Step) (ws : List Word) : Type 0 where
  pub operator : Operator
  pub is : IsOperator level step.0 operator
  pub spelled : (SpellsOperator operator ⨟ SpellsLevel depth below step.1) ws

-- put to the operand on its left
abbrev pub put_step : PlainExpr → Step → PlainExpr
put_step e step = PlainExpr.Binary step.0 e step.1

level_parts : {depth below : ℕ} {e : PlainExpr} {ws : List Word} → SpellsLevel depth (suc below) e ws → Grown put_step (SpellsLevel depth below) (SpellsStep depth (suc below) below) e ws
level_parts {e = e} {ws = ws} (SpellsLevel.stronger h) = first_alone e ws h
level_parts (SpellsLevel.binary {op = op} {left = left} {right = right} operator front sign back is h o r j) =
    grown_one left (op, right) (j ∙ append_assoc front sign back) (level_parts h) record { operator = operator; is = is; spelled = record { front = sign; back = back; joined = refl; first = o; second = r } }

-- the first operand, and what stands behind it
pub level_ahead : (depth level below : ℕ) (e : PlainExpr) {a c : List Word} → level ≡ suc below → MayTake (SpellsLevel depth level e) a c → GrownAhead put_step (SpellsLevel depth below) (SpellsStep depth level below) e a c
level_ahead depth level below e {a = a} {c = c} is m =
    subst (λ l. GrownAhead put_step (SpellsLevel depth below) (SpellsStep depth l below) e a c) (sym is) (grown_ahead (λ ws h. level_parts h) (subst (λ l. MayTake (SpellsLevel depth l e) a c) is m))

-- a start of an expression
prefix_start : (operator : Operator) (ws : List Word) → level_of operator ≡ 0 → SpellsOperator operator ws → Begins IsStart ws
prefix_start Turn ws at h = subst (Begins IsStart) (sym h.alone) (sign_start (codes "~") h.word refl h.is_this)
prefix_start Negate ws at h = subst (Begins IsStart) (sym h.alone) (sign_start (codes "!") h.word refl h.is_this)
prefix_start NoOperator ws at h = absurd h
prefix_start _ ws at h = absurd (omega (arith, at))

pub prefixed_starts : (depth : ℕ) (e : PlainExpr) (ws : List Word) → SpellsPrefixed depth e ws → Begins IsStart ws
prefixed_starts depth e ws (SpellsPrefixed.primary h) = begins_also ws (λ word p. p.start) (primary_starts depth e ws h)
prefixed_starts depth e ws (SpellsPrefixed.unary operator front back is o h j) =
    subst (Begins IsStart) (sym j) (begins_front IsStart front back (prefix_start operator front is.level_is o))
prefixed_starts depth e ws (SpellsPrefixed.cast {width = width} front back c h j) =
    subst (Begins IsStart) (sym j) (begins_front IsStart front back (begins_also front (λ word is. sign_start (codes "(") word refl is) (begins_bracketed (codes "(") (codes ")") depth (λ _. SpellsBits width) (all_taken (SpellsCast depth width) c))))

pub level_starts : {depth level : ℕ} {e : PlainExpr} {ws : List Word} → SpellsLevel depth level e ws → Begins IsStart ws
level_starts (SpellsLevel.prefixed {depth = depth} {e = e} {ws = ws} h) = prefixed_starts depth e ws h
level_starts (SpellsLevel.stronger h) = level_starts h
level_starts (SpellsLevel.binary _ front sign back is h o r j) = subst (Begins IsStart) (sym (j ∙ append_assoc front sign back)) (begins_front IsStart front (sign ++ back) (level_starts h))
