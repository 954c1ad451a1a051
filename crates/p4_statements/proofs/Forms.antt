-- The forms of statements, each told by its first word, as rows of words.
use Rattle.std.proofs.Common.{◌≡◌, ◌-◌, ℕ, zero, suc, arith, Bool, true, false, List, ◌++◌, Option, Some, None, codes, refl, sym, ap, ◌∙◌, ◌⊎◌, inl, inr, append_assoc, cond}
use Rattle.p4_lexer.specs.declared.token.Kind.TheVariants as kind
use Rattle.elastic_ast.specs.Tree.{Name, PlainExpr, PlainStmt, PlainStmts}
use Rattle.spelling.specs.Words.{Word}
use Rattle.spelling.specs.Grammar.{Grammar, ◌⨟◌, Begins, Bracketed, IsReserved, IsSign, Reserved, Sign, is_reserved, is_sign}
use Rattle.spelling.specs.Reading.{MayTake}
use Rattle.spelling.proofs.Only.{alone, begins_as, begins_both, begins_first, no_sign, not_sign, other_text, regroup, reserved_no_sign, split}
use Rattle.spelling.proofs.Peeling.{past_none}
use Rattle.p4_statements.specs.Statements.{SpellsApply, SpellsBranch, SpellsCall, SpellsCondition, SpellsPlain, SpellsStage, SpellsStmt, SpellsStmts, SpellsTurns, is_bare_block, block, without_else, with_else, repeated, called, applied, simple, in_brackets, alone as one_statement}
use Rattle.p4_statements.specs.Reading.{EndsStmt, SpellsSimple}
use Rattle.p4_statements.proofs.Ahead.{by_simple, plain_first, plain_simple}

-- four things in a row
four_in_row : {P Q R S : Grammar} {ws : List Word} (a b c d : List Word) → P a → Q b → R c → S d → ws ≡ a ++ b ++ c ++ d → (P ⨟ Q ⨟ R ⨟ S) ws
four_in_row a b c d p q r s e =
    record {
      front = a;
      back = b ++ (c ++ d);
      joined = e ∙ append_assoc (a ++ b) c d ∙ append_assoc a b (c ++ d);
      first = p;
      second = record { front = b; back = c ++ d; joined = refl; first = q; second = record { front = c; back = d; joined = refl; first = r; second = s } };
    }

words_of_four : {P Q R S : Grammar} {ws : List Word} (h : (P ⨟ Q ⨟ R ⨟ S) ws) → ws ≡ h.front ++ h.second.front ++ h.second.second.front ++ h.second.second.back
words_of_four h =
    let b = h.second in
    let s = b.second in
    h.joined ∙ ap (λ l. h.front ++ l) (b.joined ∙ ap (λ l. b.front ++ l) s.joined) ∙ sym (append_assoc h.front b.front (s.front ++ s.back)) ∙ sym (append_assoc (h.front ++ b.front) s.front s.back)

abbrev pub Braces : ℕ → PlainStmts → Grammar
Braces depth stmts = Bracketed (codes "{") (codes "}") depth (λ inner. SpellsStmts inner stmts)

-- each form from its parts
pub block_of : (depth : ℕ) (stage : Option ℕ) (body : PlainStmts) (ws : List Word) → (SpellsStage depth stage ⨟ Braces depth body) ws → SpellsStmt depth false (PlainStmt.Block stage body) ws
block_of zero stage body ws h = absurd h.second
block_of (suc depth) stage body ws h =
    let b = h.second in
    let s = b.second in
    block h.front b.front s.front s.back h.first b.first s.first s.second (words_of_four h)

pub for_of : (depth : ℕ) (index size : Name) (body : PlainStmts) (ws : List Word) → (SpellsTurns depth index size ⨟ Braces depth body) ws → SpellsStmt depth false (PlainStmt.For index size body) ws
for_of zero index size body ws h = absurd h.second
for_of (suc depth) index size body ws h =
    let b = h.second in
    let s = b.second in
    repeated h.front b.front s.front s.back h.first b.first s.first s.second (words_of_four h)

pub if_of : (depth : ℕ) (open_end : Bool) (condition : PlainExpr) (body : PlainStmts) (ws : List Word) → (SpellsCondition depth condition ⨟ SpellsBranch depth open_end body) ws → SpellsStmt depth true (PlainStmt.If condition body) ws
if_of depth open_end condition body ws h = without_else h.front h.back h.first h.second h.joined

pub else_of : (depth : ℕ) (open_end : Bool) (condition : PlainExpr) (body other : PlainStmts) (ws : List Word) → (SpellsCondition depth condition ⨟ SpellsBranch depth false body ⨟ Reserved (codes "else") ⨟ SpellsBranch depth open_end other) ws → SpellsStmt depth open_end (PlainStmt.IfElse condition body other) ws
else_of depth open_end condition body other ws h =
    let b = h.second in
    let s = b.second in
    with_else h.front b.front s.front s.back h.first b.first s.first s.second (words_of_four h)

pub simple_of : (depth : ℕ) (stmt : PlainStmt) (ws : List Word) → SpellsSimple depth stmt ws → SpellsStmt depth false stmt ws
simple_of depth (PlainStmt.Call action index args) ws h = called h
simple_of depth (PlainStmt.Apply table) ws h = applied h
simple_of depth stmt ws h = simple h

pub branch_of : (depth : ℕ) (stmts : PlainStmts) (ws : List Word) → Braces depth stmts ws → SpellsBranch depth false stmts ws
branch_of zero stmts ws h = absurd h
branch_of (suc depth) stmts ws h =
    let s = h.second in
    in_brackets h.front s.front s.back h.first s.first s.second (h.joined ∙ ap (λ l. h.front ++ l) s.joined ∙ sym (append_assoc h.front s.front s.back))

-- the parts of each form
pub record BlockParts (more : ℕ) (stmt : PlainStmt) (a c : List Word) : Type 0 where
  pub stage : Option ℕ
  pub body : PlainStmts
  pub is : stmt ≡ PlainStmt.Block stage body
  pub parts : MayTake (SpellsStage more stage ⨟ Braces more body) a c

pub record ForParts (more : ℕ) (stmt : PlainStmt) (a c : List Word) : Type 0 where
  pub index : Name
  pub size : Name
  pub body : PlainStmts
  pub is : stmt ≡ PlainStmt.For index size body
  pub parts : MayTake (SpellsTurns more index size ⨟ Braces more body) a c

pub record IfParts (more : ℕ) (open_end : Bool) (stmt : PlainStmt) (a c : List Word) : Type 0 where
  pub condition : PlainExpr
  pub body : PlainStmts
  pub branch_end : Bool
  pub is : stmt ≡ PlainStmt.If condition body
  pub opened : open_end ≡ true
  pub parts : MayTake (SpellsCondition more condition ⨟ SpellsBranch more branch_end body) a c

pub record ElseParts (more : ℕ) (open_end : Bool) (stmt : PlainStmt) (a c : List Word) : Type 0 where
  pub condition : PlainExpr
  pub body : PlainStmts
  pub other : PlainStmts
  pub is : stmt ≡ PlainStmt.IfElse condition body other
  pub parts : MayTake (SpellsCondition more condition ⨟ SpellsBranch more false body ⨟ Reserved (codes "else") ⨟ SpellsBranch more open_end other) a c

-- the form of a statement, with its first word
pub data Form (more : ℕ) (open_end : Bool) (stmt : PlainStmt) (a c : List Word) : Type 0 where
  a_block : BlockParts more stmt a c → Begins (IsSign (codes "{")) a ⊎ Begins (IsSign (codes "@")) a → Form more open_end stmt a c
  an_if : IfParts more open_end stmt a c → Begins (IsReserved (codes "if")) a → Form more open_end stmt a c
  an_else : ElseParts more open_end stmt a c → Begins (IsReserved (codes "if")) a → Form more open_end stmt a c
  a_for : ForParts more stmt a c → Begins (IsReserved (codes "for")) a → Form more open_end stmt a c
  a_simple : MayTake (SpellsSimple more stmt) a c → Begins (λ word. word.kind ≡ kind.Name) a → Form more open_end stmt a c

pub braces_begin : (more : ℕ) (body : PlainStmts) {a c : List Word} → MayTake (Braces more body) a c → Begins (IsSign (codes "{")) a
braces_begin zero body m = absurd m.spelled
braces_begin (suc more) body m = begins_first m

block_begins : (more : ℕ) (stage : Option ℕ) (body : PlainStmts) {a c : List Word} → MayTake (SpellsStage more stage ⨟ Braces more body) a c → Begins (IsSign (codes "{")) a ⊎ Begins (IsSign (codes "@")) a
block_begins more None body m = inl (braces_begin more body (past_none m))
block_begins more (Some stage) body m = let s = (split m).first in inr (begins_first record { front = s.front; joined = s.joined; spelled = s.spelled.1 })

form_of : (more : ℕ) (open_end : Bool) (stmt : PlainStmt) {a c : List Word} (ws : List Word) → a ≡ ws ++ c → SpellsStmt more open_end stmt ws → Form more open_end stmt a c
form_of (suc depth) open_end stmt {a = a} {c = c} ws e (block {stage = stage} {body = body} front opening inside closing st o i cl j) =
    let m : MayTake (SpellsStage (suc depth) stage ⨟ Braces (suc depth) body) a c = record { front = ws; joined = e; spelled = four_in_row front opening inside closing st o i cl j } in
    a_block record { stage = stage; body = body; is = refl; parts = m } (block_begins (suc depth) stage body m)
form_of more open_end stmt {a = a} {c = c} ws e (without_else {open_end = branch_end} {condition = condition} {then_stmts = body} front back cond b j) =
    let m : MayTake (SpellsCondition more condition ⨟ SpellsBranch more branch_end body) a c = record { front = ws; joined = e; spelled = record { front = front; back = back; joined = j; first = cond; second = b } } in
    an_if record { condition = condition; body = body; branch_end = branch_end; is = refl; opened = refl; parts = m } (begins_first (regroup m))
form_of more open_end stmt {a = a} {c = c} ws e (with_else {condition = condition} {then_stmts = body} {else_stmts = other} front first between second cond b els d j) =
    let m : MayTake (SpellsCondition more condition ⨟ SpellsBranch more false body ⨟ Reserved (codes "else") ⨟ SpellsBranch more open_end other) a c = record { front = ws; joined = e; spelled = four_in_row front first between second cond b els d j } in
    an_else record { condition = condition; body = body; other = other; is = refl; parts = m } (begins_first (regroup m))
form_of (suc depth) open_end stmt {a = a} {c = c} ws e (repeated {index = index} {size = size} {body = body} front opening inside closing t o i cl j) =
    let m : MayTake (SpellsTurns (suc depth) index size ⨟ Braces (suc depth) body) a c = record { front = ws; joined = e; spelled = four_in_row front opening inside closing t o i cl j } in
    a_for record { index = index; size = size; body = body; is = refl; parts = m } (begins_first (regroup m))
form_of more open_end stmt {a = a} {c = c} ws e (called {action = action} {index = index} {arguments = args} h) =
    let m : MayTake (SpellsCall more action index args) a c = record { front = ws; joined = e; spelled = h } in
    a_simple m (begins_as (λ word p. p.0) a (begins_first m))
form_of more open_end stmt {a = a} {c = c} ws e (applied {table = table} h) =
    let m : MayTake (SpellsApply more table) a c = record { front = ws; joined = e; spelled = h } in
    a_simple m (begins_as (λ word p. p.0) a (begins_first m))
form_of more open_end stmt {a = a} {c = c} ws e (simple h) =
    let m : MayTake (SpellsPlain more stmt) a c = record { front = ws; joined = e; spelled = h } in
    a_simple record { front = ws; joined = e; spelled = plain_simple more stmt ws h } (plain_first more stmt (alone m))

pub stmt_form : (more : ℕ) (open_end : Bool) (stmt : PlainStmt) {a c : List Word} → MayTake (SpellsStmt more open_end stmt) a c → Form more open_end stmt a c
stmt_form more open_end stmt m = form_of more open_end stmt m.front m.joined m.spelled

-- first words of one form are none of another
reserved_no_sign_there : (s t : List ℕ) (ws : List Word) → Begins (IsReserved s) ws → Begins (IsSign t) ws → ⊥
reserved_no_sign_there s t ws at sign = not_sign t ws (λ word h. reserved_no_sign word.kind h.0) at sign

name_no_sign : (t : List ℕ) (ws : List Word) → Begins (λ word. word.kind ≡ kind.Name) ws → Begins (IsSign t) ws → ⊥
name_no_sign t ws at sign = not_sign t ws (λ word h. ap is_sign h) at sign

name_no_reserved : (s : List ℕ) (ws : List Word) → Begins (λ word. word.kind ≡ kind.Name) ws → Begins (IsReserved s) ws → ⊥
name_no_reserved s ws at reserved =
    let b = begins_both ws at reserved in
    let e : is_reserved b.0.kind ≡ true = b.2.0 in
    let f : b.0.kind ≡ kind.Name = b.1 in
    cc

no_brace : (ws : List Word) → (Begins (IsSign (codes "{")) ws → ⊥) → (Begins (IsSign (codes "@")) ws → ⊥) → Begins (IsSign (codes "{")) ws ⊎ Begins (IsSign (codes "@")) ws → ⊥
no_brace ws f g (inl h) = f h
no_brace ws f g (inr h) = g h

pub is_block : (more : ℕ) (open_end : Bool) (stmt : PlainStmt) {a c : List Word} → MayTake (SpellsStmt more open_end stmt) a c → Begins (IsSign (codes "{")) a ⊎ Begins (IsSign (codes "@")) a → BlockParts more stmt a c
is_block more open_end stmt {a = a} m at =
    elim (stmt_form more open_end stmt m) [
      | a_block p _ ↦ p
      | an_if p w ↦ absurd (no_brace a (reserved_no_sign_there (codes "if") (codes "{") a w) (reserved_no_sign_there (codes "if") (codes "@") a w) at)
      | an_else p w ↦ absurd (no_brace a (reserved_no_sign_there (codes "if") (codes "{") a w) (reserved_no_sign_there (codes "if") (codes "@") a w) at)
      | a_for p w ↦ absurd (no_brace a (reserved_no_sign_there (codes "for") (codes "{") a w) (reserved_no_sign_there (codes "for") (codes "@") a w) at)
      | a_simple p w ↦ absurd (no_brace a (name_no_sign (codes "{") a w) (name_no_sign (codes "@") a w) at)
    ]

pub is_for : (more : ℕ) (open_end : Bool) (stmt : PlainStmt) {a c : List Word} → MayTake (SpellsStmt more open_end stmt) a c → Begins (IsReserved (codes "for")) a → ForParts more stmt a c
is_for more open_end stmt {a = a} m at =
    elim (stmt_form more open_end stmt m) [
      | a_block p w ↦ absurd (no_brace a (reserved_no_sign_there (codes "for") (codes "{") a at) (reserved_no_sign_there (codes "for") (codes "@") a at) w)
      | an_if p w ↦ absurd (other_text (codes "if") (codes "for") a refl (λ word h. h.1) (λ word h. h.1) w at)
      | an_else p w ↦ absurd (other_text (codes "if") (codes "for") a refl (λ word h. h.1) (λ word h. h.1) w at)
      | a_for p w ↦ p
      | a_simple p w ↦ absurd (name_no_reserved (codes "for") a w at)
    ]

pub is_if : (more : ℕ) (open_end : Bool) (stmt : PlainStmt) {a c : List Word} → MayTake (SpellsStmt more open_end stmt) a c → Begins (IsReserved (codes "if")) a → IfParts more open_end stmt a c ⊎ ElseParts more open_end stmt a c
is_if more open_end stmt {a = a} m at =
    elim (stmt_form more open_end stmt m) [
      | a_block p w ↦ absurd (no_brace a (reserved_no_sign_there (codes "if") (codes "{") a at) (reserved_no_sign_there (codes "if") (codes "@") a at) w)
      | an_if p w ↦ inl p
      | an_else p w ↦ inr p
      | a_for p w ↦ absurd (other_text (codes "for") (codes "if") a refl (λ word h. h.1) (λ word h. h.1) w at)
      | a_simple p w ↦ absurd (name_no_reserved (codes "if") a w at)
    ]

pub is_simple : (more : ℕ) (open_end : Bool) (stmt : PlainStmt) {a c : List Word} → MayTake (SpellsStmt more open_end stmt) a c → (Begins (IsSign (codes "{")) a → ⊥) → (Begins (IsSign (codes "@")) a → ⊥) → (Begins (IsReserved (codes "if")) a → ⊥) → (Begins (IsReserved (codes "for")) a → ⊥) → MayTake (SpellsSimple more stmt) a c
is_simple more open_end stmt {a = a} m no_open no_stage no_if no_for =
    elim (stmt_form more open_end stmt m) [
      | a_block p w ↦ absurd (no_brace a no_open no_stage w)
      | an_if p w ↦ absurd (no_if w)
      | an_else p w ↦ absurd (no_if w)
      | a_for p w ↦ absurd (no_for w)
      | a_simple p w ↦ p
    ]

-- no statement begins with a closing bracket, nor with `else`
pub stmt_no_closing : (more : ℕ) (open_end : Bool) (stmt : PlainStmt) {a c : List Word} → MayTake (SpellsStmt more open_end stmt) a c → Begins (IsSign (codes "}")) a → ⊥
stmt_no_closing more open_end stmt {a = a} m at =
    elim (stmt_form more open_end stmt m) [
      | a_block p w ↦ no_brace a (λ h. no_sign (codes "{") (codes "}") a refl h at) (λ h. no_sign (codes "@") (codes "}") a refl h at) w
      | an_if p w ↦ reserved_no_sign_there (codes "if") (codes "}") a w at
      | an_else p w ↦ reserved_no_sign_there (codes "if") (codes "}") a w at
      | a_for p w ↦ reserved_no_sign_there (codes "for") (codes "}") a w at
      | a_simple p w ↦ name_no_sign (codes "}") a w at
    ]

pub stmt_no_else : (more : ℕ) (open_end : Bool) (stmt : PlainStmt) {a c : List Word} → MayTake (SpellsStmt more open_end stmt) a c → Begins (IsReserved (codes "else")) a → ⊥
stmt_no_else more open_end stmt {a = a} m at =
    elim (stmt_form more open_end stmt m) [
      | a_block p w ↦ no_brace a (reserved_no_sign_there (codes "else") (codes "{") a at) (reserved_no_sign_there (codes "else") (codes "@") a at) w
      | an_if p w ↦ other_text (codes "if") (codes "else") a refl (λ word h. h.1) (λ word h. h.1) w at
      | an_else p w ↦ other_text (codes "if") (codes "else") a refl (λ word h. h.1) (λ word h. h.1) w at
      | a_for p w ↦ other_text (codes "for") (codes "else") a refl (λ word h. h.1) (λ word h. h.1) w at
      | a_simple p w ↦ name_no_reserved (codes "else") a w at
    ]

plain_bare : (depth : ℕ) (stmt : PlainStmt) (ws : List Word) → SpellsPlain depth stmt ws → is_bare_block stmt ≡ false
plain_bare depth (PlainStmt.Block stage body) ws h = absurd h
plain_bare depth _ ws h = refl

-- a block's first word says whether it has a stage
staged_bare : (more : ℕ) (stage : Option ℕ) (body : PlainStmts) {a c : List Word} → MayTake (SpellsStage more stage ⨟ Braces more body) a c → (Begins (IsSign (codes "{")) a → ⊥) → is_bare_block (PlainStmt.Block stage body) ≡ false
staged_bare more None body m none = absurd (none (braces_begin more body (past_none m)))
staged_bare more (Some stage) body m none = refl

bare_staged : (more : ℕ) (stage : Option ℕ) (body : PlainStmts) {a c : List Word} → MayTake (SpellsStage more stage ⨟ Braces more body) a c → is_bare_block (PlainStmt.Block stage body) ≡ false → Begins (IsSign (codes "{")) a → ⊥
bare_staged more None body m other at = absurd cc
bare_staged more (Some stage) body {a = a} m other at =
    let s = (split m).first in
    let stage_sign : Begins (IsSign (codes "@")) a = begins_first record { front = s.front; joined = s.joined; spelled = s.spelled.1 } in
    no_sign (codes "@") (codes "{") a refl stage_sign at

simple_bare : (depth : ℕ) (stmt : PlainStmt) {a c : List Word} → MayTake (SpellsSimple depth stmt) a c → is_bare_block stmt ≡ false
simple_bare depth stmt m = by_simple depth (λ s. is_bare_block s ≡ false) stmt m (λ action index args f. refl) (λ table f. refl) (λ plain f. plain_bare depth plain f.front f.spelled)

bare_of : (depth : ℕ) (open_end : Bool) (stmt : PlainStmt) {a c : List Word} → Form depth open_end stmt a c → (Begins (IsSign (codes "{")) a → ⊥) → is_bare_block stmt ≡ false
bare_of depth open_end stmt (a_block p w) none = ap is_bare_block p.is ∙ staged_bare depth p.stage p.body p.parts none
bare_of depth open_end stmt (an_if p w) none = ap is_bare_block p.is
bare_of depth open_end stmt (an_else p w) none = ap is_bare_block p.is
bare_of depth open_end stmt (a_for p w) none = ap is_bare_block p.is
bare_of depth open_end stmt (a_simple p w) none = simple_bare depth stmt p

no_brace_of : (depth : ℕ) (open_end : Bool) (stmt : PlainStmt) {a c : List Word} → Form depth open_end stmt a c → is_bare_block stmt ≡ false → Begins (IsSign (codes "{")) a → ⊥
no_brace_of depth open_end stmt (a_block p w) other at = bare_staged depth p.stage p.body p.parts (sym (ap is_bare_block p.is) ∙ other) at
no_brace_of depth open_end stmt {a = a} (an_if p w) other at = reserved_no_sign_there (codes "if") (codes "{") a w at
no_brace_of depth open_end stmt {a = a} (an_else p w) other at = reserved_no_sign_there (codes "if") (codes "{") a w at
no_brace_of depth open_end stmt {a = a} (a_for p w) other at = reserved_no_sign_there (codes "for") (codes "{") a w at
no_brace_of depth open_end stmt {a = a} (a_simple p w) other at = name_no_sign (codes "{") a w at

pub record AloneParts (more : ℕ) (open_end : Bool) (stmts : PlainStmts) (a c : List Word) : Type 0 where
  pub inner : ℕ
  pub stmt : PlainStmt
  pub deeper : more ≡ suc inner
  pub is : stmts ≡ PlainStmts.cons stmt PlainStmts.nil
  pub parts : MayTake (SpellsStmt inner open_end stmt) a c

braces_in : (more : ℕ) (open_end : Bool) (stmts : PlainStmts) {a c : List Word} (ws : List Word) → a ≡ ws ++ c → SpellsBranch more open_end stmts ws → Begins (IsSign (codes "{")) a → MayTake (Braces more stmts) a c
braces_in zero open_end stmts ws e h at = elim h [ ]
braces_in (suc depth) open_end stmts ws e (in_brackets opening inside closing o i cl j) at =
    record {
      front = ws;
      joined = e;
      spelled = record { front = opening; back = inside ++ closing; joined = j ∙ append_assoc opening inside closing; first = o; second = record { front = inside; back = closing; joined = refl; first = i; second = cl } };
    }
braces_in (suc depth) open_end stmts {a = a} {c = c} ws e (one_statement {stmt = stmt} other h) at =
    let m : MayTake (SpellsStmt depth open_end stmt) a c = record { front = ws; joined = e; spelled = h } in
    absurd (no_brace_of depth open_end stmt (stmt_form depth open_end stmt m) other at)

alone_in : (more : ℕ) (open_end : Bool) (stmts : PlainStmts) {a c : List Word} (ws : List Word) → a ≡ ws ++ c → SpellsBranch more open_end stmts ws → (Begins (IsSign (codes "{")) a → ⊥) → AloneParts more open_end stmts a c
alone_in zero open_end stmts ws e h none = elim h [ ]
alone_in (suc depth) open_end stmts {a = a} {c = c} ws e (in_brackets opening inside closing o i cl j) none =
    let m : MayTake (Sign (codes "{") ⨟ SpellsStmts depth stmts ⨟ Sign (codes "}")) a c = record {
      front = ws;
      joined = e;
      spelled = record { front = opening; back = inside ++ closing; joined = j ∙ append_assoc opening inside closing; first = o; second = record { front = inside; back = closing; joined = refl; first = i; second = cl } };
    } in
    absurd (none (begins_first m))
alone_in (suc depth) open_end stmts ws e (one_statement {stmt = stmt} other h) none =
    record { inner = depth; stmt = stmt; deeper = refl; is = refl; parts = record { front = ws; joined = e; spelled = h } }

-- a branch that stands in braces, and one that doesn't
pub braces_there : (more : ℕ) (open_end : Bool) (stmts : PlainStmts) {a c : List Word} → MayTake (SpellsBranch more open_end stmts) a c → Begins (IsSign (codes "{")) a → MayTake (Braces more stmts) a c
braces_there more open_end stmts m at = braces_in more open_end stmts m.front m.joined m.spelled at

pub alone_there : (more : ℕ) (open_end : Bool) (stmts : PlainStmts) {a c : List Word} → MayTake (SpellsBranch more open_end stmts) a c → (Begins (IsSign (codes "{")) a → ⊥) → AloneParts more open_end stmts a c
alone_there more open_end stmts m none = alone_in more open_end stmts m.front m.joined m.spelled none

-- what begins without a brace is no block without a stage
pub no_bare : (depth : ℕ) (open_end : Bool) (stmt : PlainStmt) {a c : List Word} → MayTake (SpellsStmt depth open_end stmt) a c → (Begins (IsSign (codes "{")) a → ⊥) → is_bare_block stmt ≡ false
no_bare depth open_end stmt m none = bare_of depth open_end stmt (stmt_form depth open_end stmt m) none

pub one_of : (depth : ℕ) (open_end : Bool) (stmt : PlainStmt) → is_bare_block stmt ≡ false → (ws : List Word) → SpellsStmt depth open_end stmt ws → SpellsBranch (suc depth) open_end (PlainStmts.cons stmt PlainStmts.nil) ws
one_of depth open_end stmt other ws h = one_statement other h

pub closed_end : (open_end : Bool) (ws : List Word) → EndsStmt open_end ws → Begins (IsReserved (codes "else")) ws → open_end ≡ false
closed_end true ws ends at = absurd (ends refl at)
closed_end false ws ends at = refl

pub one_less : (n : ℕ) → (n ≡ 0 → ⊥) → n ≡ suc (n - 1)
one_less n some = omega (arith, some)
