-- Reading the operators of a level one by one.
use Rattle.std.proofs.Common.{◌≡◌, ℕ, List, [], ◌∷◌, ◌++◌, codes, drop, sym, ap, subst, ◌∙◌}
use Rattle.elastic_ast.specs.OperatorSorts.{Operator, ShiftDown, NoOperator}
use Rattle.spelling.specs.Words.{Word}
use Rattle.spelling.specs.Grammar.{Grammar, ◌⨟◌, TwoTouching, Sign, IsSign, Begins, BeginTouching}
use Rattle.spelling.specs.Reading.{Takes, MayTake}
use Rattle.spelling.proofs.Only.{after_one, begins, split}
use Rattle.spelling.proofs.Taking.{may}
use Rattle.p4_expr.specs.Operators.{IsOperator, SpellsOperator}
use Rattle.p4_expr.specs.Expressions.{SpellsLevel}
use Rattle.p4_expr.specs.Standing.{Stands}
use Rattle.p4_expr.proofs.OperatorsAhead.{StandsAlone}
use Rattle.p4_expr.proofs.LevelParts.{SpellsStep, Step, level_starts}
use Rattle.p4_expr.proofs.Starts.{IsStart, begins_taken, never_both}

-- an operator that is spelled stands there
stands_two : {F G : Word → Type 0} {a c : List Word} → MayTake (TwoTouching F G) a c → BeginTouching F G a
stands_two {F = F} {G = G} {c = c} m =
    let s = m.spelled in
    let e = m.joined ∙ ap (λ ws. ws ++ c) s.both in
    subst (BeginTouching F G) (sym e) (s.is_first, s.is_second, s.touch)

pub stands_there : (operator : Operator) {a c : List Word} → MayTake (SpellsOperator operator) a c → Stands operator a
stands_there ShiftDown m = stands_two m
stands_there NoOperator m = absurd m.spelled
stands_there _ m = begins m

-- what follows two words that touch
two_end : {F G H I : Word → Type 0} {a b c : List Word} → MayTake (TwoTouching F G) a c → MayTake (TwoTouching H I) a b → b ≡ c
two_end {b = b} {c = c} m k =
    let e : _ ≡ m.spelled.one ∷ m.spelled.other ∷ c = m.joined ∙ ap (λ ws. ws ++ c) m.spelled.both in
    let f : _ ≡ k.spelled.one ∷ k.spelled.other ∷ b = k.joined ∙ ap (λ ws. ws ++ b) k.spelled.both in
    let g = sym f ∙ e in
    ap (drop 2) g

two_after : {F G H I : Word → Type 0} {Q : Grammar} {a b c : List Word} → MayTake (TwoTouching F G ⨟ Q) a c → Takes (TwoTouching H I) a b → MayTake Q b c
two_after {Q = Q} {c = c} m t =
    let s = split m in
    subst (λ ws. MayTake Q ws c) (sym (two_end s.first (may t))) s.second

pub after_operator : (operator : Operator) (Q : Grammar) (a b c : List Word) → Takes (SpellsOperator operator) a b → MayTake (SpellsOperator operator ⨟ Q) a c → MayTake Q b c
after_operator ShiftDown Q a b c t m = two_after m t
after_operator NoOperator Q a b c t m = absurd t.spelled
after_operator _ Q a b c t m = after_one m t

no_touch : (word : Word) (ws : List Word) → BeginTouching (IsSign (codes ">")) (IsSign (codes ">")) (word ∷ ws) → (Begins (IsSign (codes ">")) ws → ⊥) → ⊥
no_touch word [] touch none = touch
no_touch word (other ∷ ws) touch none = none touch.1

-- an operator before the start of an expression stands alone
second_word : (text : List ℕ) (P : Word → Type 0) (a b c : List Word) → MayTake (Sign text) a b → Begins P b → ((word : Word) → P word → IsSign (codes ">") word → ⊥) → BeginTouching (IsSign (codes ">")) (IsSign (codes ">")) a → ⊥
second_word text P a b c m start clash touch =
    let e : a ≡ m.spelled.word ∷ b = m.joined ∙ ap (λ ws. ws ++ b) m.spelled.alone in
    no_touch m.spelled.word b (subst (BeginTouching (IsSign (codes ">")) (IsSign (codes ">"))) e touch) (λ s. never_both b clash start s)

pub stands_alone : (operator : Operator) (P : Word → Type 0) {a b : List Word} → MayTake (SpellsOperator operator) a b → Begins P b → ((word : Word) → P word → IsSign (codes ">") word → ⊥) → StandsAlone operator a
stands_alone operator P {a = a} {b = b} m start clash =
    record {
      stands = stands_there operator m;
      alone = λ is touch. second_word (codes ">") P a b b (subst (λ o. MayTake (SpellsOperator o) a b) is m) start clash touch;
    }

-- the operator and the operand of a step
pub record StepAhead (depth level below : ℕ) (step : Step) (Q : Grammar) (a c : List Word) : Type 0 where
  pub operator : Operator
  pub is : IsOperator level step.0 operator
  pub between : List Word
  pub end : List Word
  pub sign : MayTake (SpellsOperator operator) a between
  pub operand : MayTake (SpellsLevel depth below step.1) between end
  pub behind : MayTake Q end c

pub step_ahead : (depth level below : ℕ) (step : Step) {Q : Grammar} {a c : List Word} → MayTake (SpellsStep depth level below step ⨟ Q) a c → StepAhead depth level below step Q a c
step_ahead depth level below step m =
    let s = split m in
    let f = s.first.spelled in
    let t = split record { front = s.first.front; joined = s.first.joined; spelled = f.spelled } in
    record { operator = f.operator; is = f.is; between = t.between; end = s.between; sign = t.first; operand = t.second; behind = s.second }

-- the operator stands alone
pub step_alone : (depth level below : ℕ) (step : Step) {Q : Grammar} {a c : List Word} (s : StepAhead depth level below step Q a c) → StandsAlone s.operator a
step_alone depth level below step s =
    stands_alone s.operator IsStart s.sign (begins_taken IsStart (SpellsLevel depth below step.1) (λ ws h. level_starts h) s.operand) (λ word start. start.no_angle)
