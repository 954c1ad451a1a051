-- The operators of a level that are still ahead of the reader.
use Rattle.std.proofs.Common.{◌≡◌, ℕ, suc, ◌+◌, ◌<◌, ◌≤◌, true, List, [], ◌∷◌, ◌++◌, codes, Ok, refl, sym, ap, subst, ◌∙◌, arith, append_assoc}
use Rattle.elastic_ast.specs.declared.statements.Expr.{Expr}
use Rattle.elastic_ast.specs.Seen.{seen_expr}
use Rattle.elastic_ast.specs.Tree.{PlainExpr}
use Rattle.p4_expr.specs.Readings.{ReadsLevel}
use Rattle.spelling.specs.declared.reader.Reader.{Reader}
use Rattle.elastic_ast.specs.OperatorSorts.{Operator, Or, And, Equal, Differ, Less, AtMost, Greater, AtLeast, BitOr, BitXor, BitAnd, ShiftUp, ShiftDown, Plus, Minus, Join, Times, NoOperator}
use Rattle.spelling.specs.Words.{Word}
use Rattle.spelling.specs.Grammar.{Grammar, ◌⨟◌, Each, IsSign, Begins}
use Rattle.spelling.specs.Reading.{Takes, MayTake, Ends, ahead}
use Rattle.spelling.proofs.Only.{ends_sign, is_none}
use Rattle.spelling.proofs.Taking.{may, may_both, takes_as, takes_both}
use Rattle.p4_expr.specs.Operators.{SpellsOperator, level_of, operators_in}
use Rattle.p4_expr.specs.Expressions.{SpellsLevel}
use Rattle.p4_expr.specs.GoesOn.{expression_signs}
use Rattle.p4_expr.specs.Standing.{EndsLevel, NoneStands, Passes, Stands}
use Rattle.p4_expr.proofs.OperatorsAhead.{first_text, same_code, same_operator, stands_text, touching_first}
use Rattle.p4_expr.proofs.LeftGrown.{GrownAhead, grown, grown_few}
use Rattle.p4_expr.proofs.LevelParts.{SpellsStep, Step, level_ahead, put_step}
use Rattle.p4_expr.proofs.Longest.{AllRead, Parts, StillAhead, all_read, goes_on, next_one, part_read}
use Rattle.p4_expr.proofs.LevelSteps.{after_operator, stands_there, step_ahead, step_alone}

abbrev openings : List (List ℕ)
openings = codes "[" ∷ codes "." ∷ codes "(" ∷ []

-- an operator is none of the signs with which a primary expression goes on
pub no_opening : (operator : Operator) → is_none (first_text operator) (codes "[" ∷ codes "." ∷ codes "(" ∷ []) ≡ true
no_opening NoOperator = refl
no_opening _ = refl

-- an operand of a level ends before an operator of the next weaker level
ends_before_step : (depth level below : ℕ) (step : Step) {Q : Grammar} {a c : List Word} → level ≡ suc below → MayTake (SpellsStep depth level below step ⨟ Q) a c → EndsLevel below a
ends_before_step depth level below step {a = a} is m =
    let f = step_ahead depth level below step m in
    let alone = step_alone depth level below step f in
    let at = f.is.level_is in
    let signs = ends_sign openings (first_text f.operator) a (no_opening f.operator) (stands_text f.operator a alone.stands) in
    record {
      operators = λ operator above within s. (let same = ap level_of (same_operator operator f.operator a (omega (arith, within, at, is)) s alone) in absurd (omega (arith, same, at, is, within)));
      slice = signs.0;
      place = signs.1.0;
      call = signs.1.1.0;
    }

pub step_parts : (depth level below : ℕ) → level ≡ suc below → Parts (SpellsStep depth level below) (EndsLevel below) (EndsLevel level)
step_parts depth level below is = record {
  whole = λ ws ends. record { operators = λ operator above within s. ends.operators operator above (omega (arith, within, is)) s; slice = ends.slice; place = ends.place; call = ends.call };
  before = λ step later a c m. ends_before_step depth level below step is m;
}

pub binary_count : (op : ℕ) (left right : PlainExpr) → operators_in (PlainExpr.Binary op left right) ≡ operators_in left + operators_in right + 1
unfolding operators_in
binary_count op left right = refl

step_adds : (e : PlainExpr) (step : Step) → operators_in e ≤ operators_in (put_step e step)
step_adds e step = omega (arith, binary_count step.0 e step.1)

-- behind an operator its right operand stands
pub record NextOperand (depth level below code : ℕ) (now e : PlainExpr) (b c : List Word) : Type 0 where
  pub right : PlainExpr
  pub later : List Step
  pub whole : e ≡ grown put_step (PlainExpr.Binary code now right) later
  pub ahead : MayTake (SpellsLevel depth below right ⨟ Each (SpellsStep depth level below) later) b c

pub passes_stands : {level code : ℕ} {a b : List Word} (p : Passes level code a b) → Stands p.operator a
passes_stands p = stands_there p.operator (may p.takes)

first_operand : (depth level below code : ℕ) (now e : PlainExpr) (step : Step) (later : List Step) {a b c : List Word} → e ≡ grown put_step now (step ∷ later) → MayTake (SpellsStep depth level below step ⨟ Each (SpellsStep depth level below) later) a c → Passes level code a b → NextOperand depth level below code now e b c
first_operand depth level below code now e step later {a = a} {b = b} {c = c} whole m p =
    let f = step_ahead depth level below step m in
    let same = same_operator p.operator f.operator a (omega (arith, p.is.level_is, f.is.level_is)) (passes_stands p) (step_alone depth level below step f) in
    let coded = same_code level code step.0 p.operator f.operator same p.is f.is in
    let behind = after_operator f.operator (SpellsLevel depth below step.1 ⨟ Each (SpellsStep depth level below) later) a b c (subst (λ o. Takes (SpellsOperator o) a b) same p.takes) (may_both f.sign (may_both f.operand f.behind)) in
    record { right = step.1; later = later; whole = whole ∙ ap (λ o. grown put_step (PlainExpr.Binary o now step.1) later) (sym coded); ahead = behind }

-- no operator of a level stands where one of the level ends
passed_end : {level code : ℕ} {a b c : List Word} → 0 < level → Passes level code a b → a ≡ c → EndsLevel level c → ⊥
passed_end above p same ends = ends.operators p.operator (omega (arith, above, p.is.level_is)) (omega (arith, p.is.level_is)) (subst (Stands p.operator) same (passes_stands p))

-- the operators after those that are read stand ahead, with their right operands
abbrev pub StepsLeft : (depth level below : ℕ) (now e : PlainExpr) (a c : List Word) → Type 0
StepsLeft depth level below now e a c = StillAhead put_step (SpellsStep depth level below) (EndsLevel level) now e a c

-- where an operator of the level was passed
pub next_operand : (depth level below code : ℕ) (now e : PlainExpr) {a b c : List Word} → StepsLeft depth level below now e a c → 0 < level → EndsLevel level c → Passes level code a b → NextOperand depth level below code now e b c
next_operand depth level below code now e still above ends p =
    let n = next_one still ends (passed_end above p) in
    first_operand depth level below code now e n.one n.later n.whole n.ahead p

pub operand_few : {depth level below : ℕ} {e : PlainExpr} {a c : List Word} (most : ℕ) (l : GrownAhead put_step (SpellsLevel depth below) (SpellsStep depth level below) e a c) → operators_in e ≤ most → operators_in l.first ≤ most
operand_few {e = e} most l used = grown_few put_step l.first e l.later most step_adds l.whole used

-- what is read with that operand has no more operators than the whole
pub operands_few : {depth level below code : ℕ} {now e : PlainExpr} {b c : List Word} (most : ℕ) (n : NextOperand depth level below code now e b c) → operators_in e ≤ most → operators_in now + operators_in n.right + 1 ≤ most
operands_few {code = code} {now = now} {e = e} most n used =
    omega (arith, grown_few put_step (PlainExpr.Binary code now n.right) e n.later most step_adds n.whole used, binary_count code now n.right)

-- the first operand, and the next one
pub first_read : {depth level below left fewer : ℕ} {before after : Reader} {e : Expr} → level ≡ suc below → ReadsLevel below (λ n. SpellsLevel n below) depth left before after (Ok (e, fewer)) → (more : ℕ) (x : PlainExpr) (rest : List Word) → MayTake (SpellsLevel more level x) (ahead before) rest → StepsLeft more level below (seen_expr e) x (ahead after) rest
first_read {level = level} {below = below} {e = e} is r more x rest m =
    let l = level_ahead more level below x is m in
    part_read (step_parts more level below is) (SpellsLevel more below) (λ y. y) l.first (seen_expr e) l.later refl l.whole l.ahead (r.longest more l.first) (r.only more l.first)

pub next_read : {depth level below code left fewer : ℕ} {mid after : Reader} {right : Expr} {now then : PlainExpr} {a : List Word} → level ≡ suc below → Passes level code a (ahead mid) → ReadsLevel below (λ n. SpellsLevel n below) depth left mid after (Ok (right, fewer)) → then ≡ PlainExpr.Binary code now (seen_expr right) → (more : ℕ) (x : PlainExpr) (rest : List Word) → StepsLeft more level below now x a rest → StepsLeft more level below then x (ahead after) rest
next_read {level = level} {below = below} {code = code} {right = right} {now = now} is p r made more x rest still =
    goes_on still (omega (arith, p.takes.fewer, r.taken.fewer)) (passed_end (omega (arith, is)) p) (λ step later whole m.
    let n = first_operand more level below code now x step later whole m p in
    part_read (step_parts more level below is) (SpellsLevel more below) (PlainExpr.Binary code now) n.right (seen_expr right) n.later made n.whole n.ahead (r.longest more n.right) (r.only more n.right))

-- where none stands, all are read
pub no_step : (depth level below : ℕ) {now e : PlainExpr} {a c : List Word} → StepsLeft depth level below now e a c → NoneStands level a → AllRead (EndsLevel level) now e a c
no_step depth level below still none =
    all_read still (λ step later m. let f = step_ahead depth level below step m in none f.operator f.is.level_is (step_alone depth level below step f).stands)

-- what was read of a level
pub takes_stronger : (depth level below : ℕ) (e : PlainExpr) {a b : List Word} → level ≡ suc below → Takes (SpellsLevel depth below e) a b → Takes (SpellsLevel depth level e) a b
takes_stronger depth level below e {a = a} {b = b} is t = subst (λ l. Takes (SpellsLevel depth l e) a b) (sym is) (takes_as (λ ws h. SpellsLevel.stronger h) t)

suc_binary : (depth below code : ℕ) (left right : PlainExpr) {a b c d : List Word} → Takes (SpellsLevel depth (suc below) left) a b → Passes (suc below) code b c → Takes (SpellsLevel depth below right) c d → Takes (SpellsLevel depth (suc below) (PlainExpr.Binary code left right)) a d
suc_binary depth below code left right t p u =
    let both = takes_both t (takes_both p.takes u) in
    let s = both.spelled in
    let r = s.second in
    record {
      front = both.front;
      joined = both.joined;
      spelled = SpellsLevel.binary p.operator s.front r.front r.back p.is s.first r.first r.second (s.joined ∙ ap (λ l. s.front ++ l) r.joined ∙ sym (append_assoc s.front r.front r.back));
      fewer = both.fewer;
    }

pub takes_binary : (depth level below code : ℕ) (left right : PlainExpr) {a b c d : List Word} → level ≡ suc below → Takes (SpellsLevel depth level left) a b → Passes level code b c → Takes (SpellsLevel depth below right) c d → Takes (SpellsLevel depth level (PlainExpr.Binary code left right)) a d
takes_binary depth level below code left right {a = a} {b = b} {c = c} {d = d} is t p u =
    subst (λ l. Takes (SpellsLevel depth l (PlainExpr.Binary code left right)) a d) (sym is) (suc_binary depth below code left right (subst (λ l. Takes (SpellsLevel depth l left) a b) is t) (subst (λ l. Passes l code b c) is p) u)

-- where an expression ends
ends_operator : (ws : List Word) → Ends expression_signs ws → (operator : Operator) → 0 < level_of operator → Stands operator ws → ⊥
ends_operator ws ends Or above s = ends.0 s
ends_operator ws ends And above s = ends.1.0 s
ends_operator ws ends Equal above s = ends.1.1.0 s
ends_operator ws ends Differ above s = ends.1.1.1.0 s
ends_operator ws ends Less above s = ends.1.1.1.1.0 s
ends_operator ws ends AtMost above s = ends.1.1.1.1.1.0 s
ends_operator ws ends Greater above s = ends.1.1.1.1.1.1.0 s
ends_operator ws ends AtLeast above s = ends.1.1.1.1.1.1.1.0 s
ends_operator ws ends BitOr above s = ends.1.1.1.1.1.1.1.1.0 s
ends_operator ws ends BitXor above s = ends.1.1.1.1.1.1.1.1.1.0 s
ends_operator ws ends BitAnd above s = ends.1.1.1.1.1.1.1.1.1.1.0 s
ends_operator ws ends ShiftUp above s = ends.1.1.1.1.1.1.1.1.1.1.1.0 s
ends_operator ws ends ShiftDown above s = ends.1.1.1.1.1.1.0 (touching_first _ _ ws s)
ends_operator ws ends Plus above s = ends.1.1.1.1.1.1.1.1.1.1.1.1.0 s
ends_operator ws ends Minus above s = ends.1.1.1.1.1.1.1.1.1.1.1.1.1.0 s
ends_operator ws ends Join above s = ends.1.1.1.1.1.1.1.1.1.1.1.1.1.1.0 s
ends_operator ws ends Times above s = ends.1.1.1.1.1.1.1.1.1.1.1.1.1.1.1.0 s
ends_operator ws ends _ above s = absurd (omega (arith, above))

pub ends_all : (ws : List Word) → Ends expression_signs ws → EndsLevel 10 ws
ends_all ws ends =
    record {
      operators = λ operator above within s. ends_operator ws ends operator above s;
      slice = ends.1.1.1.1.1.1.1.1.1.1.1.1.1.1.1.1.0;
      place = ends.1.1.1.1.1.1.1.1.1.1.1.1.1.1.1.1.1.0;
      call = ends.1.1.1.1.1.1.1.1.1.1.1.1.1.1.1.1.1.1.0;
    }

pub ends_before : (text : List ℕ) (ws : List Word) → is_none text expression_signs ≡ true → Begins (IsSign text) ws → EndsLevel 10 ws
ends_before text ws none b = ends_all ws (ends_sign expression_signs text ws none b)
