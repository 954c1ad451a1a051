-- How many brackets stand open behind statements that are begun.
use Rattle.std.proofs.Common.{◌≡◌, ℕ, suc, ◌+◌, ◌≤◌, false, List, [], ◌∷◌, ◌++◌, codes, refl, ap, sym, subst, ◌∙◌, append_assoc, arith}
use Rattle.spelling.specs.Words.{Word}
use Rattle.spelling.specs.Grammar.{Grammar, One, Begins, IsReserved, ◌⨟◌}
use Rattle.spelling.specs.Brackets.{open_behind}
use Rattle.spelling.specs.Bounds.{Opens}
use Rattle.spelling.proofs.Balance.{behind_both, open_sign, stays_reserved}
use Rattle.spelling.proofs.Bounds.{opens_both, opens_even, opens_sign}
use Rattle.spelling.proofs.Only.{begins_first}
use Rattle.spelling.proofs.Taking.{all_taken}
use Rattle.p4_statements.specs.Statements.{SpellsBranch, SpellsStmts}
use Rattle.p4_statements.specs.Begun.{BlockAhead, BranchAhead, StmtBegun, StmtsBegun}
use Rattle.p4_statements.proofs.StatementsWithin.{branch_within, condition_stays, stage_stays, stmts_within, turns_stay}

-- what stands before a branch or a block leaves no bracket open
branch_even : {ws : List Word} → BranchAhead ws → Opens 0 ws
branch_even {ws = ws} (BranchAhead.yes depth condition h) = opens_even depth (condition_stays depth condition) ws h
branch_even (BranchAhead.no depth condition stmts front first between a b c e) =
    subst (Opens 0) (sym e)
    (opens_both 0 0 (front ++ first) between (opens_both 0 0 front first (opens_even depth (condition_stays depth condition) front a) (opens_even {Of = SpellsBranch depth false stmts} depth (λ ws h. branch_within h) first b)) (opens_even depth (stays_reserved (codes "else")) between c))

block_even : {ws : List Word} → BlockAhead ws → Opens 0 ws
block_even {ws = ws} (BlockAhead.block depth stage h) = opens_even depth (stage_stays depth stage) ws h
block_even {ws = ws} (BlockAhead.turns depth index size h) = opens_even depth (turns_stay depth index size) ws h
block_even (BlockAhead.branch b) = branch_even b

behind_even : {front : List Word} (n : ℕ) (back : List Word) → Opens 0 front → open_behind n (front ++ back) ≡ open_behind n back
behind_even {front = front} n back o =
    let same : open_behind n front ≡ n = o.counted n ∙ omega arith in
    behind_both n front back ∙ ap (λ m. open_behind m back) same

mutual
  stmt_opens : {after : List Word} {count : ℕ} {ws : List Word} (n : ℕ) → StmtBegun after count ws → open_behind n ws ≤ n + count
  stmt_opens n (StmtBegun.line l) = let e = l.opened.counted n in omega (arith, e)
  stmt_opens n (StmtBegun.ahead {ws = ws} b) = let o = block_even b in let e = o.counted n in omega (arith, e)
  stmt_opens n (StmtBegun.inside {count = count} {ws = ws} front opening back b o s e) =
      let top = open_sign (codes "{") n opening refl o in
      let head : open_behind n (front ++ opening) ≡ n + 1 = behind_even n opening (block_even b) ∙ top in
      let rec = stmts_open (n + 1) s in
      let all : open_behind n ws ≡ open_behind (n + 1) back = ap (open_behind n) e ∙ behind_both n (front ++ opening) back ∙ ap (λ m. open_behind m back) head in
      omega (arith, all, rec)
  stmt_opens n (StmtBegun.alone {ws = ws} front back b s none e) =
      let rec = stmt_opens n s in
      let all : open_behind n ws ≡ open_behind n back = ap (open_behind n) e ∙ behind_even n back (branch_even b) in
      omega (arith, all, rec)

  stmts_open : {after : List Word} {count : ℕ} {ws : List Word} (n : ℕ) → StmtsBegun after count ws → open_behind n ws ≤ n + count
  stmts_open n (StmtsBegun.among {depth = depth} {stmts = stmts} {ws = ws} front back f s e) =
      let rec = stmt_opens n s in
      let all : open_behind n ws ≡ open_behind n back = ap (open_behind n) e ∙ behind_even n back (opens_even {Of = SpellsStmts depth stmts} depth (λ ws h. stmts_within h) front f) in
      omega (arith, all, rec)

pub begun_opens : {after : List Word} {count : ℕ} {ws : List Word} (before : ℕ) → StmtsBegun after count ws → open_behind before ws ≤ before + count
begun_opens n s = stmts_open n s

-- no `if` stands anywhere in these words
abbrev pub HasNoIf : List Word → Type 0
HasNoIf ws = (front back : List Word) → ws ≡ front ++ back → Begins (IsReserved (codes "if")) back → ⊥

later_none : (one other ws : List Word) → ws ≡ one ++ other → HasNoIf ws → HasNoIf other
later_none one other ws e none = λ front back is at. none (one ++ front) back (e ∙ ap (λ l. one ++ l) is ∙ sym (append_assoc one front back)) at

begins_more : (F : Word → Type 0) (front back : List Word) → Begins F front → Begins F (front ++ back)
begins_more F [] back h = absurd h
begins_more F (w ∷ front) back h = h

first_word : {F : Word → Type 0} {Q : Grammar} (ws : List Word) → (One F ⨟ Q) ws → Begins F ws
first_word {F = F} {Q = Q} ws h = begins_first (all_taken (One F ⨟ Q) h)

branch_if : {ws : List Word} → BranchAhead ws → Begins (IsReserved (codes "if")) ws
branch_if {ws = ws} (BranchAhead.yes depth condition h) = first_word ws h
branch_if (BranchAhead.no depth condition stmts front first between a b c e) = subst (Begins (IsReserved (codes "if"))) (sym e) (begins_more (IsReserved (codes "if")) (front ++ first) between (begins_more (IsReserved (codes "if")) front first (first_word front a)))

-- so no branch stands behind them
no_branch : (front back ws : List Word) → ws ≡ front ++ back → HasNoIf ws → BranchAhead front → ⊥
no_branch front back ws e none b = none [] ws refl (subst (Begins (IsReserved (codes "if"))) (sym e) (begins_more (IsReserved (codes "if")) front back (branch_if b)))

mutual
  stmt_counts : {after : List Word} {count : ℕ} {ws : List Word} → HasNoIf ws → StmtBegun after count ws → Opens count ws
  stmt_counts none (StmtBegun.line l) = l.opened
  stmt_counts none (StmtBegun.ahead b) = block_even b
  stmt_counts none (StmtBegun.inside {count = count} {ws = ws} front opening back b o s e) =
      let rest = stmts_count (later_none (front ++ opening) back ws e none) s in
      let head = opens_both 0 1 front opening (block_even b) (opens_sign (codes "{") refl opening o) in
      let all = opens_both 1 count (front ++ opening) back head rest in
      let same : 1 + count ≡ suc count = omega arith in
      subst (λ n. Opens n ws) same (subst (Opens (1 + count)) (sym e) all)
  stmt_counts none (StmtBegun.alone {ws = ws} front back b s other e) = absurd (no_branch front back ws e none b)

  stmts_count : {after : List Word} {count : ℕ} {ws : List Word} → HasNoIf ws → StmtsBegun after count ws → Opens count ws
  stmts_count none (StmtsBegun.among {count = count} {depth = depth} {stmts = stmts} {ws = ws} front back f s e) =
      let rest = stmt_counts (later_none front back ws e none) s in
      let all = opens_both 0 count front back (opens_even {Of = SpellsStmts depth stmts} depth (λ ws h. stmts_within h) front f) rest in
      let same : 0 + count ≡ count = omega arith in
      subst (λ n. Opens n ws) same (subst (Opens (0 + count)) (sym e) all)

pub begun_counts : {after : List Word} {count : ℕ} {ws : List Word} → HasNoIf ws → StmtsBegun after count ws → Opens count ws
begun_counts none s = stmts_count none s
