-- How what stands before a part of a statement and what of the part is begun make a statement that is begun.
use Rattle.std.proofs.Common.{◌≡◌, ℕ, zero, suc, ◌+◌, ◌-◌, ◌<◌, false, List, [], ◌++◌, Option, codes, refl, ap, sym, subst, ◌∙◌, append_assoc, append-nil, add-one, arith, inl, inr}
use Rattle.elastic_ast.specs.Tree.{Name, PlainExpr, PlainStmts}
use Rattle.spelling.specs.Words.{Word}
use Rattle.spelling.specs.Grammar.{◌⨟◌, Begins, IsSign, Reserved, Sign}
use Rattle.spelling.specs.Reading.{MayTake, Takes}
use Rattle.spelling.specs.Bounds.{Line, OpensNext, Stops}
use Rattle.spelling.proofs.Balance.{stays_both, stays_reserved}
use Rattle.spelling.proofs.Bounds.{opens_even, opens_sign}
use Rattle.spelling.proofs.Taking.{may, takes_both}
use Rattle.p4_expr.specs.Passing.{BoundPassed}
use Rattle.p4_expr.proofs.Bound.{bound_as, bound_past}
use Rattle.p4_statements.specs.Statements.{SpellsBranch, SpellsCondition, SpellsStage, SpellsStmts, SpellsTurns}
use Rattle.p4_statements.specs.Begun.{BlockAhead, BlockBegun, BranchAhead, BranchBegun, StmtBegun, StmtsBegun}
use Rattle.p4_statements.proofs.Forms.{one_less}
use Rattle.p4_statements.proofs.StatementsWithin.{branch_within, condition_stays, stage_stays, stmts_within, turns_stay}

pub in_stmt : {depth : ℕ} {a c : List Word} → BoundPassed (Line depth) 0 a c → BoundPassed (StmtBegun c depth) 0 a c
in_stmt p = bound_as (λ ws l. StmtBegun.line l) (omega arith) p

-- behind whole statements
pub in_stmts : {depth : ℕ} {stmts : PlainStmts} {a b c : List Word} → MayTake (SpellsStmts depth stmts) a b → BoundPassed (StmtBegun c depth) 0 b c → BoundPassed (StmtsBegun c depth) 0 a c
in_stmts {depth = depth} m p = bound_past 0 0 0 (omega arith) (opens_even depth (λ ws h. stmts_within h)) (λ front back f b. StmtsBegun.among front back f b refl) m p

-- in front of the bracket of a block, where none may be open
pub block_here : {depth : ℕ} {a b : List Word} → b ≡ a → OpensNext a × (depth ≡ 0) → BoundPassed (BlockBegun b depth) 0 a b
block_here {b = b} same h = inl record { front = []; joined = sym same; begun = subst (λ n. BlockBegun b n []) (sym h.1) BlockBegun.ahead; next = subst OpensNext (sym same) h.0 }

pub in_block : {depth inner : ℕ} {a b c : List Word} → depth ≡ inner + 1 → Takes (Sign (codes "{")) a b → BoundPassed (StmtsBegun c inner) 0 b c → BoundPassed (BlockBegun c depth) 0 a c
in_block {depth = depth} {inner = inner} {a = a} {c = c} e o p =
    subst (λ n. BoundPassed (BlockBegun c n) 0 a c) (sym (e ∙ add-one inner))
    (bound_past 1 0 0 (omega arith) (opens_sign (codes "{") refl) (λ front back f b. BlockBegun.inside front back f b refl) (may o) p)

-- a block with what stands before its bracket
block_begun : {after : List Word} {count : ℕ} (front back : List Word) → BlockAhead front → BlockBegun after count back → StmtBegun after count (front ++ back)
block_begun {after = after} front back f BlockBegun.ahead = subst (StmtBegun after 0) (sym (append-nil front)) (StmtBegun.ahead f)
block_begun front back f (BlockBegun.inside opening inside o b e) = StmtBegun.inside front opening inside f o b (ap (λ ws. front ++ ws) e ∙ sym (append_assoc front opening inside))

-- a branch with what stands before it
branch_begun : {after : List Word} {count : ℕ} (front back : List Word) → BranchAhead front → BranchBegun after count back → StmtBegun after count (front ++ back)
branch_begun front back f (BranchBegun.block b) = block_begun front back (BlockAhead.branch f) b
branch_begun front back f (BranchBegun.alone b none) = StmtBegun.alone front back f b none refl

pub after_stage : {depth : ℕ} (stage : Option ℕ) {a b c : List Word} → MayTake (SpellsStage depth stage) a b → BoundPassed (BlockBegun c depth) 0 b c → BoundPassed (StmtBegun c depth) 0 a c
after_stage {depth = depth} stage m p = bound_past 0 0 0 (omega arith) (opens_even depth (stage_stays depth stage)) (λ front back f b. block_begun front back (BlockAhead.block depth stage f) b) m p

pub after_turns : {depth : ℕ} (index size : Name) {a b c : List Word} → Takes (SpellsTurns depth index size) a b → BoundPassed (BlockBegun c depth) 0 b c → BoundPassed (StmtBegun c depth) 0 a c
after_turns {depth = depth} index size t p = bound_past 0 0 0 (omega arith) (opens_even depth (turns_stay depth index size)) (λ front back f b. block_begun front back (BlockAhead.turns depth index size f) b) (may t) p

pub after_condition : {depth : ℕ} (condition : PlainExpr) {a b c : List Word} → Takes (SpellsCondition depth condition) a b → BoundPassed (BranchBegun c depth) 0 b c → BoundPassed (StmtBegun c depth) 0 a c
after_condition {depth = depth} condition t p = bound_past 0 0 0 (omega arith) (opens_even depth (condition_stays depth condition)) (λ front back f b. branch_begun front back (BranchAhead.yes depth condition f) b) (may t) p

no_ahead : {depth : ℕ} (condition : PlainExpr) (stmts : PlainStmts) (ws : List Word) → (SpellsCondition depth condition ⨟ SpellsBranch depth false stmts ⨟ Reserved (codes "else")) ws → BranchAhead ws
no_ahead {depth = depth} condition stmts ws h =
    let s = h.second in
    BranchAhead.no depth condition stmts h.front s.front s.back h.first s.first s.second (h.joined ∙ ap (λ l. h.front ++ l) s.joined ∙ sym (append_assoc h.front s.front s.back))

pub after_else : {depth : ℕ} (condition : PlainExpr) (stmts : PlainStmts) {a b c d f : List Word} → Takes (SpellsCondition depth condition) a b → Takes (SpellsBranch depth false stmts) b c → Takes (Reserved (codes "else")) c d → BoundPassed (BranchBegun f depth) 0 d f → BoundPassed (StmtBegun f depth) 0 a f
after_else {depth = depth} condition stmts first then_branch between p =
    bound_past 0 0 0 (omega arith) (opens_even depth (stays_both (condition_stays depth condition) (stays_both (λ ws h. branch_within h) (stays_reserved (codes "else"))))) (λ front back f b. branch_begun front back (no_ahead condition stmts front f) b)
    (may (takes_both first (takes_both then_branch between))) p

-- where a condition stands, a bracket may be open
some_open : (depth : ℕ) (condition : PlainExpr) (ws : List Word) → SpellsCondition depth condition ws → 0 < depth
some_open zero condition ws h = absurd h.second
some_open (suc depth) condition ws h = omega arith

pub condition_open : {depth : ℕ} (condition : PlainExpr) {a b : List Word} → Takes (SpellsCondition depth condition) a b → 0 < depth
condition_open {depth = depth} condition t = some_open depth condition t.front t.spelled

pub in_braced : {depth : ℕ} {a c : List Word} → BoundPassed (BlockBegun c depth) 0 a c → BoundPassed (BranchBegun c depth) 0 a c
in_braced p = bound_as (λ ws b. BranchBegun.block b) (omega arith) p

-- a statement that is no block in brackets, which counts as a bracket
pub in_alone : {depth : ℕ} {a c : List Word} → (depth ≡ 0 → ⊥) → (Begins (IsSign (codes "{")) a → ⊥) → BoundPassed (StmtBegun c (depth - 1)) 0 a c → BoundPassed (BranchBegun c depth) 0 a c
in_alone {depth = depth} {a = a} {c = c} some none (inl s) =
    let begun = BranchBegun.alone s.begun (λ at. none (subst (Begins (IsSign (codes "{"))) (sym s.joined) at)) in
    inl (subst (λ n. Stops (BranchBegun c n) OpensNext a c) (sym (one_less depth some)) record { front = s.front; joined = s.joined; begun = begun; next = s.next })
in_alone some none (inr p) = inr p
