-- The pieces of statements keep their meaning: predicates tell the branches apart.
use Rattle.std.proofs.Common.{◌≡◌, ◌≢◌, ℕ, zero, suc, ◌+◌, ◌<◌, ◌≤◌, ◌==◌, ◌&&◌, nat_eq, Bool, true, false, List, [], ◌∷◌, Option, Some, None, is_some, refl, sym, ap, ◌∙◌, subst, arith, if◌then◌else◌}
use Rattle.std.proofs.lemmas.Bool.{true≢false, false_from_ne_true, and_right, eqb-true, eq-eqb}
use Rattle.std.proofs.lemmas.Slice.Eq.{bytes_eq-Decides}
use Rattle.elx_bits.specs.Words.{BitWord}
use Rattle.elastic_ast.specs.declared.flat.Lit.{Lit}
use Rattle.elastic_ast.specs.declared.flat.Location.TheVariants as location
use Rattle.elastic_ast.specs.Tree.{Name, PlainDecl, PlainExpr, PlainStmt, PlainStmts}
use Rattle.elastic_ast.specs.Typing.Scope.{same}
use Rattle.elastic_ast.specs.Typing.Scope as scope
use Rattle.elastic_ast.specs.Sizes.SizeSums.{symbols_of, size_of}
use Rattle.elastic_ast.specs.Containers.LocationPlaces.{index_at, index_code, flag_code, place}
use Rattle.elastic_ast.specs.Meaning.Memory.{Spot, At, Reg, Memory, Writes, written_or, over, put}
use Rattle.elastic_ast.specs.Meaning.Values.{bit, holds}
use Rattle.elastic_ast.specs.Meaning.Written.{outside, leaf_writes}
use Rattle.elastic_ast.specs.Meaning.StatementMeaning.{turns, statement_meaning, statements_meaning}
use Rattle.elastic_ast.specs.Units.PlainUnits.{PlainWork, Plain, Call, Apply, Pred}
use Rattle.elastic_ast.specs.Units.Cuts.{Piece, Cuts, Nil, One, Loop, append, tests, literal, lit_put, with_lit, single, branched, guarded, cut, cut_all}
use Rattle.elastic_ast.specs.Units.Work.{pred_place, lit_holds, lits_hold, conds_hold, work_writes, writes_if, does}
use Rattle.elastic_laws.specs.Typing.Unnested.{UnnestedStmt, Unnested}
use Rattle.elastic_laws.specs.Units.CutMeaning.{is_predicate, Same, run_cuts, PiecesKeepTheMeaning}
use Rattle.elastic_ast.proofs.Containers.PlaceLaws.{place_tells}
use Rattle.elastic_laws.proofs.Units.SamePieces.{same_refl, same_trans, same_over, leaf_same, holds_same, pred_at, leaf_pred}

-- the predicates that are written have number k or above
abbrev WritesFrom : ℕ → PlainWork → Type 0
WritesFrom k (Pred m c) = k ≤ m
WritesFrom k other = Unit {0}

abbrev From : ℕ → Cuts → Type 0
From k Nil = Unit {0}
From k (One u r) = WritesFrom k u.work × From k r
From k (Loop i y b r) = From k b × From k r

-- those below k stay
record Keeps (k : ℕ) (s t : Memory) : Type 0 where
  pred : (m : ℕ) (own : Bool) (j : Option ℕ) → m < k → t (pred_at m own j) ≡ s (pred_at m own j)

-- a write of one predicate isn't one of another
other_pred : (n m : ℕ) (o p : Bool) (i j : Option ℕ) → n ≢ m → same (place (location.Pred n o) i) (place (location.Pred m p) j) ≡ false
other_pred n m o p i j ne = go (same (place (location.Pred n o) i) (place (location.Pred m p) j)) refl
  where
    go : (b : Bool) → same (place (location.Pred n o) i) (place (location.Pred m p) j) ≡ b → same (place (location.Pred n o) i) (place (location.Pred m p) j) ≡ false
    go false e = e
    go true e =
        let told = place_tells (location.Pred n o) (location.Pred m p) i j ((bytes_eq-Decides (place (location.Pred n o) i) (place (location.Pred m p) j)).0 e) in
        let numbers : n ≡ m = number_of told.0 in
        absurd (ne numbers)
      where
        number_of : location.Pred n o ≡ location.Pred m p → n ≡ m
        number_of e = cc

work_keeps : (k : ℕ) (w : PlainWork) (decls : List PlainDecl) (sizes : List ℕ) (i : Option ℕ) (s : Memory) (m : ℕ) (own : Bool) (j : Option ℕ) → WritesFrom k w → m < k → work_writes w decls sizes i s (pred_at m own j) ≡ None
work_keeps k (Plain x) decls sizes i s m own j f h = leaf_pred x decls sizes i s m own j
work_keeps k (Call x) decls sizes i s m own j f h = leaf_pred x decls sizes i s m own j
work_keeps k (Apply n) decls sizes i s m own j f h = leaf_pred (PlainStmt.Apply n) decls sizes i s m own j
work_keeps k (Pred n c) decls sizes i s m own j f h =
    let ne : n ≢ m = omega arith in
    let v : BitWord = (1, bit (holds (outside decls sizes i) s c)) in
    ap (λ b. if b then Some v else None) (other_pred n m (is_some i) own (index_at (is_some i) i) j ne)

if_keeps : (b : Bool) (d : Writes) (l : Spot) → d l ≡ None → writes_if b d l ≡ None
if_keeps true d l h = h
if_keeps false d l h = refl

abbrev worked : Piece → List PlainDecl → List ℕ → Option ℕ → Memory → Memory
worked u decls sizes i s = over (does u.lits u.conds u.work decls sizes i s) s

piece_keeps : (k : ℕ) (u : Piece) (decls : List PlainDecl) (sizes : List ℕ) (i : Option ℕ) (s : Memory) → WritesFrom k u.work → Keeps k s (worked u decls sizes i s)
piece_keeps k u decls sizes i s f =
    record { pred = λ m own j h. ap (λ o. written_or o (s (pred_at m own j))) (if_keeps (lits_hold u.lits i s && conds_hold u.conds decls sizes i s) (work_writes u.work decls sizes i s) (pred_at m own j) (work_keeps k u.work decls sizes i s m own j f h)) }

turns_keep : (k n : ℕ) (f : ℕ → Memory → Memory) → ((j : ℕ) (t : Memory) → Keeps k t (f j t)) → (s : Memory) → Keeps k s (turns n f s)
turns_keep k zero f h s = record { pred = λ m own j l. refl }
turns_keep k (suc n) f h s = record { pred = λ m own j l. (h n (turns n f s)).pred m own j l ∙ (turns_keep k n f h s).pred m own j l }

-- no loop in a loop among the pieces, and no loop at all where they stand in one
abbrev pub Flat : Bool → Cuts → Type 0
Flat own Nil = Unit {0}
Flat own (One u r) = Flat own r
Flat own (Loop i y b r) = (own ≡ false) × Flat true b × Flat own r

Flat-append : (own : Bool) (a b : Cuts) → Flat own a → Flat own b → Flat own (append a b)
Flat-append own Nil b ha hb = hb
Flat-append own (One u r) b ha hb = Flat-append own r b ha hb
Flat-append own (Loop i y c r) b ha hb = (ha.0, ha.1, Flat-append own r b ha.2 hb)

Flat-with_lit : (own : Bool) (l : Lit) (a : Cuts) → Flat own a → Flat own (with_lit l a)
Flat-with_lit own l Nil h = tt
Flat-with_lit own l (One u r) h = Flat-with_lit own l r h
Flat-with_lit own l (Loop i y c r) h = (h.0, Flat-with_lit true l c h.1, Flat-with_lit own l r h.2)

Flat-branched : (c : PlainExpr) (own : Bool) (k : ℕ) (g : Option ℕ) (a b : Cuts) → Flat own a → Flat own b → Flat own (branched c own k g a b)
Flat-branched c own k g a b ha hb =
    Flat-append own (with_lit (literal k own true) a) (with_lit (literal k own false) b) (Flat-with_lit own (literal k own true) a ha) (Flat-with_lit own (literal k own false) b hb)

Flat-guarded : (o : Option Piece) (c : PlainExpr) (own : Bool) (k : ℕ) (g : Option ℕ) (a : Cuts) → Flat own a → Flat own (guarded o c own k g a)
Flat-guarded (Some u) c own k g a h = tt
Flat-guarded None c own k g a h = Flat-branched c own k g a Nil h tt

mutual
  flat : (x : PlainStmt) (own : Bool) (k : ℕ) (g : Option ℕ) → UnnestedStmt x own → Flat own (cut x own k g)
  flat (PlainStmt.Block o b) own k g h = flat_all b own k (scope.or_else o g) h
  flat (PlainStmt.If c b) own k g h = Flat-guarded (single (cut_all b own k g)) c own k g (cut_all b own (suc k) g) (flat_all b own (suc k) g h)
  flat (PlainStmt.IfElse c b d) own k g h =
      Flat-branched c own k g (cut_all b own (suc k) g) (cut_all d own (suc k + tests (cut_all b own (suc k) g)) g) (flat_all b own (suc k) g h.0) (flat_all d own (suc k + tests (cut_all b own (suc k) g)) g h.1)
  flat (PlainStmt.For i y b) own k g h = (h.0, flat_all b true k g h.1, tt)
  flat other own k g h = tt

  pub flat_all : (b : PlainStmts) (own : Bool) (k : ℕ) (g : Option ℕ) → Unnested b own → Flat own (cut_all b own k g)
  flat_all PlainStmts.nil own k g h = tt
  flat_all (PlainStmts.cons x r) own k g h =
      Flat-append own (cut x own k g) (cut_all r own (k + tests (cut x own k g)) g) (flat x own k g h.0) (flat_all r own (k + tests (cut x own k g)) g h.1)

-- the numbers
work_from : (j k : ℕ) (w : PlainWork) → j ≤ k → WritesFrom k w → WritesFrom j w
work_from j k (Pred m c) h f = omega arith
work_from j k other h f = tt

From-lower : (j k : ℕ) (a : Cuts) → j ≤ k → From k a → From j a
From-lower j k Nil h f = tt
From-lower j k (One u r) h f = (work_from j k u.work h f.0, From-lower j k r h f.1)
From-lower j k (Loop i y b r) h f = (From-lower j k b h f.0, From-lower j k r h f.1)

From-append : (k : ℕ) (a b : Cuts) → From k a → From k b → From k (append a b)
From-append k Nil b f g = g
From-append k (One u r) b f g = (f.0, From-append k r b f.1 g)
From-append k (Loop i y c r) b f g = (f.0, From-append k r b f.1 g)

lit_put_from : (k : ℕ) (l : Lit) (w : PlainWork) (u : Piece) → WritesFrom k u.work → WritesFrom k (lit_put l w u).work
lit_put_from k l (Plain x) u f = f
lit_put_from k l (Call x) u f = f
lit_put_from k l (Apply n) u f = f
lit_put_from k l (Pred m c) u f = f

From-with_lit : (k : ℕ) (l : Lit) (a : Cuts) → From k a → From k (with_lit l a)
From-with_lit k l Nil f = tt
From-with_lit k l (One u r) f = (lit_put_from k l u.work u f.0, From-with_lit k l r f.1)
From-with_lit k l (Loop i y b r) f = (From-with_lit k l b f.0, From-with_lit k l r f.1)

-- what `single` finds is all there is
single_is : (cs : Cuts) (u : Piece) → single cs ≡ Some u → cs ≡ One u Nil
single_is (One u Nil) v h = cc
single_is (One u (One v r)) w h = cc
single_is (One u (Loop i y b r)) w h = cc
single_is Nil w h = cc
single_is (Loop i y b r) w h = cc

From-branched : (c : PlainExpr) (own : Bool) (k : ℕ) (g : Option ℕ) (a b : Cuts) → From k a → From k b → From k (branched c own k g a b)
From-branched c own k g a b f h =
    let le : k ≤ k = omega arith in
    (le, From-append k (with_lit (literal k own true) a) (with_lit (literal k own false) b) (From-with_lit k (literal k own true) a f) (From-with_lit k (literal k own false) b h))

From-guarded : (o : Option Piece) (c : PlainExpr) (own : Bool) (k : ℕ) (g : Option ℕ) (a : Cuts) → ((u : Piece) → o ≡ Some u → WritesFrom k u.work) → From k a → From k (guarded o c own k g a)
From-guarded (Some u) c own k g a h f = (h u refl, tt)
From-guarded None c own k g a h f = From-branched c own k g a Nil f tt

mutual
  from_stmt : (x : PlainStmt) (own : Bool) (k : ℕ) (g : Option ℕ) → From k (cut x own k g)
  from_stmt (PlainStmt.Block o b) own k g = from_all b own k (scope.or_else o g)
  from_stmt (PlainStmt.If c b) own k g =
      From-guarded (single (cut_all b own k g)) c own k g (cut_all b own (suc k) g) (λ u h. (subst (From k) (single_is (cut_all b own k g) u h) (from_all b own k g)).0) (From-lower k (suc k) (cut_all b own (suc k) g) (omega arith) (from_all b own (suc k) g))
  from_stmt (PlainStmt.IfElse c b d) own k g =
      let k' : ℕ = suc k + tests (cut_all b own (suc k) g) in
      From-branched c own k g (cut_all b own (suc k) g) (cut_all d own k' g) (From-lower k (suc k) (cut_all b own (suc k) g) (omega arith) (from_all b own (suc k) g)) (From-lower k k' (cut_all d own k' g) (omega arith) (from_all d own k' g))
  from_stmt (PlainStmt.For i y b) own k g = (from_all b true k g, tt)
  from_stmt other own k g = (tt, tt)

  from_all : (b : PlainStmts) (own : Bool) (k : ℕ) (g : Option ℕ) → From k (cut_all b own k g)
  from_all PlainStmts.nil own k g = tt
  from_all (PlainStmts.cons x r) own k g =
      From-append k (cut x own k g) (cut_all r own (k + tests (cut x own k g)) g) (from_stmt x own k g) (From-lower k (k + tests (cut x own k g)) (cut_all r own (k + tests (cut x own k g)) g) (omega arith) (from_all r own (k + tests (cut x own k g)) g))

-- a literal that holds, and one that doesn't
put_on : (l : Lit) (w : PlainWork) (u : Piece) (decls : List PlainDecl) (sizes : List ℕ) (i : Option ℕ) (s : Memory) → lit_holds l i s ≡ true → worked (lit_put l w u) decls sizes i s ≡ worked u decls sizes i s
put_on l (Pred m c) u decls sizes i s h = refl
put_on l other u decls sizes i s h = ap (λ b. over (writes_if ((b && lits_hold u.lits i s) && conds_hold u.conds decls sizes i s) (work_writes u.work decls sizes i s)) s) h

-- a write of a predicate is seen at predicates alone
apart_from_pred : (place : List ℕ) (rest : List ℕ) → is_predicate (At place) ≡ false → same (4 ∷ rest) place ≡ false
apart_from_pred [] rest h = refl
apart_from_pred (kind ∷ more) rest h = go (nat_eq 4 kind) refl
  where
    go : (b : Bool) → nat_eq 4 kind ≡ b → (nat_eq 4 kind && same rest more) ≡ false
    go false e = ap (λ b. b && same rest more) e
    go true e =
        let four : 4 ≡ kind = eqb-true 4 kind e in
        let is : (kind == 4) ≡ true = eq-eqb kind 4 (sym four) in
        cc

pred_write : (k : ℕ) (own : Bool) (i : Option ℕ) (v : BitWord) (s : Memory) → Same (over (put (pred_place k own i) v) s) s
pred_write k own i v s = record { elsewhere = there }
  where
    there : (l : Spot) → is_predicate l ≡ false → over (put (pred_place k own i) v) s l ≡ s l
    there (At at) h =
        ap (λ b. written_or (if b then Some v else None) (s (At at))) (apart_from_pred at (index_code (index_at own i) ∷ flag_code own ∷ k ∷ []) h)
    there (Reg n j) h = refl

test_writes : (b : Bool) (m : ℕ) (c : PlainExpr) (decls : List PlainDecl) (sizes : List ℕ) (i : Option ℕ) (s : Memory) → Same (over (writes_if b (work_writes (Pred m c) decls sizes i s)) s) s
test_writes true m c decls sizes i s = pred_write m (is_some i) i (1, bit (holds (outside decls sizes i) s c)) s
test_writes false m c decls sizes i s = same_refl s

skipped : (l : Lit) (u : Piece) (decls : List PlainDecl) (sizes : List ℕ) (i : Option ℕ) (s : Memory) → lit_holds l i s ≡ false → Same (over (writes_if ((lit_holds l i s && lits_hold u.lits i s) && conds_hold u.conds decls sizes i s) (work_writes u.work decls sizes i s)) s) s
skipped l u decls sizes i s h =
    subst (λ b. Same (over (writes_if ((b && lits_hold u.lits i s) && conds_hold u.conds decls sizes i s) (work_writes u.work decls sizes i s)) s) s) (sym h) (same_refl s)

put_off : (l : Lit) (w : PlainWork) (u : Piece) (decls : List PlainDecl) (sizes : List ℕ) (i : Option ℕ) (s : Memory) → u.work ≡ w → lit_holds l i s ≡ false → Same (worked (lit_put l w u) decls sizes i s) s
put_off l (Pred m c) u decls sizes i s e h =
    subst (λ w. Same (over (writes_if (lits_hold u.lits i s && conds_hold u.conds decls sizes i s) (work_writes w decls sizes i s)) s) s) (sym e) (test_writes (lits_hold u.lits i s && conds_hold u.conds decls sizes i s) m c decls sizes i s)
put_off l other u decls sizes i s e h = skipped l u decls sizes i s h

lit_kept : (l : Lit) (i : Option ℕ) (s t : Memory) (b : Bool) → Keeps (suc l.number) s t → lit_holds l i s ≡ b → lit_holds l i t ≡ b
lit_kept l i s t b k h = ap (λ v. v.1 == bit l.on) (k.pred l.number l.own (index_at l.own i) (omega arith)) ∙ h

lit_moved : (l : Lit) (i j : Option ℕ) (s : Memory) → l.own ≡ false → lit_holds l i s ≡ lit_holds l j s
lit_moved l i j s e = ap (λ o. (s (At (place (location.Pred l.number l.own) (index_at o i)))).1 == bit l.on) e ∙ sym (ap (λ o. (s (At (place (location.Pred l.number l.own) (index_at o j)))).1 == bit l.on) e)

turns_on : (l : Lit) (i : Option ℕ) (f g : ℕ → Memory → Memory) → ((j : ℕ) (t : Memory) → lit_holds l i t ≡ true → f j t ≡ g j t) → ((j : ℕ) (t : Memory) → Keeps (suc l.number) t (g j t)) → (n : ℕ) (s : Memory) → lit_holds l i s ≡ true → (turns n f s ≡ turns n g s) × (lit_holds l i (turns n g s) ≡ true)
turns_on l i f g alike keep zero s h = (refl, h)
turns_on l i f g alike keep (suc n) s h =
    let r = turns_on l i f g alike keep n s h in
    (ap (f n) r.0 ∙ alike n (turns n g s) r.1, lit_kept l i (turns n g s) (g n (turns n g s)) true (keep n (turns n g s)) r.1)

turns_off : (l : Lit) (i : Option ℕ) (f : ℕ → Memory → Memory) → ((j : ℕ) (t : Memory) → lit_holds l i t ≡ false → Same (f j t) t) → ((j : ℕ) (t : Memory) → Keeps (suc l.number) t (f j t)) → (n : ℕ) (s : Memory) → lit_holds l i s ≡ false → Same (turns n f s) s × (lit_holds l i (turns n f s) ≡ false)
turns_off l i f alike keep zero s h = (same_refl s, h)
turns_off l i f alike keep (suc n) s h =
    let r = turns_off l i f alike keep n s h in
    (same_trans (f n (turns n f s)) (turns n f s) s (alike n (turns n f s) r.1) r.0, lit_kept l i (turns n f s) (f n (turns n f s)) false (keep n (turns n f s)) r.1)

turns_same : (n : ℕ) (f g : ℕ → Memory → Memory) → ((j : ℕ) (s t : Memory) → Same s t → Same (f j s) (g j t)) → (s t : Memory) → Same s t → Same (turns n f s) (turns n g t)
turns_same zero f g h s t a = a
turns_same (suc n) f g h s t a = h n (turns n f s) (turns n g t) (turns_same n f g h s t a)

module _ (decls : List PlainDecl) (sizes : List ℕ) where
  abbrev size_at : Name → ℕ
  size_at y = size_of (symbols_of decls) sizes y

  run_keeps : (cs : Cuts) (k : ℕ) (i : Option ℕ) (s : Memory) → From k cs → Keeps k s (run_cuts cs decls sizes i s)
  run_keeps Nil k i s f = record { pred = λ m own j l. refl }
  run_keeps (One u r) k i s f =
      let t = worked u decls sizes i s in
      record { pred = λ m own j l. (run_keeps r k i t f.1).pred m own j l ∙ (piece_keeps k u decls sizes i s f.0).pred m own j l }
  run_keeps (Loop n y b r) k i s f =
      let t = turns (size_at y) (λ j u. run_cuts b decls sizes (Some j) u) s in
      record { pred = λ m own j l. (run_keeps r k i t f.1).pred m own j l ∙ (turns_keep k (size_at y) (λ j u. run_cuts b decls sizes (Some j) u) (λ j u. run_keeps b k (Some j) u f.0) s).pred m own j l }

  run_append : (a b : Cuts) (i : Option ℕ) (s : Memory) → run_cuts (append a b) decls sizes i s ≡ run_cuts b decls sizes i (run_cuts a decls sizes i s)
  run_append Nil b i s = refl
  run_append (One u r) b i s = run_append r b i (worked u decls sizes i s)
  run_append (Loop n y c r) b i s = run_append r b i (turns (size_at y) (λ j u. run_cuts c decls sizes (Some j) u) s)

  with_on : (cs : Cuts) (l : Lit) → From (suc l.number) cs → (l.own ≡ true → Flat true cs) → (i : Option ℕ) (s : Memory) → lit_holds l i s ≡ true → run_cuts (with_lit l cs) decls sizes i s ≡ run_cuts cs decls sizes i s
  with_on Nil l f nl i s h = refl
  with_on (One u r) l f nl i s h =
      let t : Memory = worked u decls sizes i s in
      ap (λ d. run_cuts (with_lit l r) decls sizes i d) (put_on l u.work u decls sizes i s h)
      ∙ with_on r l f.1 nl i t (lit_kept l i s t true (piece_keeps (suc l.number) u decls sizes i s f.0) h)
  with_on (Loop n y b r) l f nl i s h =
      let own : l.own ≡ false = false_from_ne_true l.own (λ e. true≢false (nl e).0) in
      let none : l.own ≡ true → Flat true b = λ e. absurd (true≢false (nl e).0) in
      let none' : l.own ≡ true → Flat true r = λ e. absurd (true≢false (nl e).0) in
      let all = turns_on l i (λ j t. run_cuts (with_lit l b) decls sizes (Some j) t) (λ j t. run_cuts b decls sizes (Some j) t) (λ j t k. with_on b l f.0 none (Some j) t (lit_moved l (Some j) i t own ∙ k)) (λ j t. run_keeps b (suc l.number) (Some j) t f.0) (size_at y) s h in
      ap (run_cuts (with_lit l r) decls sizes i) all.0
      ∙ with_on r l f.1 none' i (turns (size_at y) (λ j t. run_cuts b decls sizes (Some j) t) s) all.1

  with_off : (cs : Cuts) (l : Lit) → From (suc l.number) cs → (l.own ≡ true → Flat true cs) → (i : Option ℕ) (s : Memory) → lit_holds l i s ≡ false → Same (run_cuts (with_lit l cs) decls sizes i s) s
  with_off Nil l f nl i s h = same_refl s
  with_off (One u r) l f nl i s h =
      let t : Memory = worked (lit_put l u.work u) decls sizes i s in
      same_trans (run_cuts (with_lit l r) decls sizes i t) t s
      (with_off r l f.1 nl i t (lit_kept l i s t false (piece_keeps (suc l.number) (lit_put l u.work u) decls sizes i s (lit_put_from (suc l.number) l u.work u f.0)) h))
      (put_off l u.work u decls sizes i s refl h)
  with_off (Loop n y b r) l f nl i s h =
      let own : l.own ≡ false = false_from_ne_true l.own (λ e. true≢false (nl e).0) in
      let none : l.own ≡ true → Flat true b = λ e. absurd (true≢false (nl e).0) in
      let none' : l.own ≡ true → Flat true r = λ e. absurd (true≢false (nl e).0) in
      let g : ℕ → Memory → Memory = λ j t. run_cuts (with_lit l b) decls sizes (Some j) t in
      let all = turns_off l i g (λ j t k. with_off b l f.0 none (Some j) t (lit_moved l (Some j) i t own ∙ k)) (λ j t. run_keeps (with_lit l b) (suc l.number) (Some j) t (From-with_lit (suc l.number) l b f.0)) (size_at y) s h in
      same_trans (run_cuts (with_lit l r) decls sizes i (turns (size_at y) g s)) (turns (size_at y) g s) s (with_off r l f.1 none' i (turns (size_at y) g s) all.1) all.0

  -- the one piece of a body takes the condition
  one_same : (u : Piece) (c : PlainExpr) (i : Option ℕ) (s t done : Memory) → Same s t → Same (run_cuts (One u Nil) decls sizes i s) done → Same (run_cuts (One (record u { conds = c ∷ u.conds }) Nil) decls sizes i s) (if holds (outside decls sizes i) t c then done else t)
  one_same u c i s t done a first = go (holds (outside decls sizes i) s c) refl
    where
      same_cond : holds (outside decls sizes i) s c ≡ holds (outside decls sizes i) t c
      same_cond = holds_same c decls sizes i s t a

      result : Bool → Memory
      result v = over (writes_if (lits_hold u.lits i s && (v && conds_hold u.conds decls sizes i s)) (work_writes u.work decls sizes i s)) s

      go : (v : Bool) → holds (outside decls sizes i) s c ≡ v → Same (result (holds (outside decls sizes i) s c)) (if holds (outside decls sizes i) t c then done else t)
      go true e = subst (λ v. Same (result v) (if holds (outside decls sizes i) t c then done else t)) (sym e) (subst (λ v. Same (result true) (if v then done else t)) (sym e ∙ same_cond) first)
      go false e =
          let off : (lits_hold u.lits i s && false) ≡ false = and_right (lits_hold u.lits i s) false refl in
          let skip : Same (result false) t = subst (λ v. Same (over (writes_if v (work_writes u.work decls sizes i s)) s) t) (sym off) a in
          subst (λ v. Same (result v) (if holds (outside decls sizes i) t c then done else t)) (sym e) (subst (λ v. Same (result false) (if v then done else t)) (sym e ∙ same_cond) skip)

  -- a condition that is kept, and the pieces of both branches
  two_same : (c : PlainExpr) (i : Option ℕ) (k : ℕ) (stage : Option ℕ) (a b : Cuts) (s t : Memory) (f g : Memory → Memory) → Same s t → From (suc k) a → From (suc k) b → (is_some i ≡ true → Flat true a) → (is_some i ≡ true → Flat true b) → ((u v : Memory) → Same u v → Same (run_cuts a decls sizes i u) (f v)) → ((u v : Memory) → Same u v → Same (run_cuts b decls sizes i u) (g v)) → Same (run_cuts (branched c (is_some i) k stage a b) decls sizes i s) (if holds (outside decls sizes i) t c then f t else g t)
  two_same c i k stage a b s t f g alike fa fb na nb first second =
      subst (λ m. Same m (if holds (outside decls sizes i) t c then f t else g t)) (sym (run_append (with_lit on a) (with_lit off b) i tested)) (go (holds (outside decls sizes i) s c) refl)
    where
      on : Lit
      on = literal k (is_some i) true

      off : Lit
      off = literal k (is_some i) false

      here : List ℕ
      here = pred_place k (is_some i) i

      word : Bool → BitWord
      word v = (1, bit v)

      tested : Memory
      tested = over (put here (word (holds (outside decls sizes i) s c))) s

      tested_same : Same tested s
      tested_same = pred_write k (is_some i) i (word (holds (outside decls sizes i) s c)) s

      tested_pred : (v : Bool) → holds (outside decls sizes i) s c ≡ v → (tested (At here)).1 ≡ bit v
      tested_pred v e = ap (λ b. (written_or (if b then Some (word (holds (outside decls sizes i) s c)) else None) (s (At here))).1) ((bytes_eq-Decides here here).1 refl) ∙ ap bit e

      mid : Memory
      mid = run_cuts (with_lit on a) decls sizes i tested

      kept : Keeps (suc k) tested mid
      kept = run_keeps (with_lit on a) (suc k) i tested (From-with_lit (suc k) on a fa)

      same_cond : holds (outside decls sizes i) s c ≡ holds (outside decls sizes i) t c
      same_cond = holds_same c decls sizes i s t alike

      go : (v : Bool) → holds (outside decls sizes i) s c ≡ v → Same (run_cuts (with_lit off b) decls sizes i (run_cuts (with_lit on a) decls sizes i tested)) (if holds (outside decls sizes i) t c then f t else g t)
      go true e =
          let is_on : lit_holds on i tested ≡ true = ap (λ v. v == 1) (tested_pred true e) in
          let not_off : lit_holds off i mid ≡ false = lit_kept off i tested mid false kept (ap (λ v. v == 0) (tested_pred true e)) in
          let done : Same mid (f t) = subst (λ m. Same m (f t)) (sym (with_on a on fa na i tested is_on)) (first tested t (same_trans tested s t tested_same alike)) in
          subst (λ v. Same (run_cuts (with_lit off b) decls sizes i mid) (if v then f t else g t)) (sym e ∙ same_cond) (same_trans (run_cuts (with_lit off b) decls sizes i mid) mid (f t) (with_off b off fb nb i mid not_off) done)
      go false e =
          let not_on : lit_holds on i tested ≡ false = ap (λ v. v == 1) (tested_pred false e) in
          let is_off : lit_holds off i mid ≡ true = lit_kept off i tested mid true kept (ap (λ v. v == 0) (tested_pred false e)) in
          let skip : Same mid t = same_trans mid tested t (with_off a on fa na i tested not_on) (same_trans tested s t tested_same alike) in
          subst (λ v. Same (run_cuts (with_lit off b) decls sizes i mid) (if v then f t else g t)) (sym e ∙ same_cond) (subst (λ m. Same m (g t)) (sym (with_on b off fb nb i mid is_off)) (second mid t skip))

  if_same : (o : Option Piece) (cs : Cuts) (c : PlainExpr) (i : Option ℕ) (k : ℕ) (stage : Option ℕ) (a : Cuts) (s t : Memory) (f : Memory → Memory) → single cs ≡ o → Same s t → Same (run_cuts cs decls sizes i s) (f t) → From (suc k) a → (is_some i ≡ true → Flat true a) → ((u v : Memory) → Same u v → Same (run_cuts a decls sizes i u) (f v)) → Same (run_cuts (guarded o c (is_some i) k stage a) decls sizes i s) (if holds (outside decls sizes i) t c then f t else t)
  if_same (Some u) cs c i k stage a s t f h alike one fa na first =
      one_same u c i s t (f t) alike (subst (λ l. Same (run_cuts l decls sizes i s) (f t)) (single_is cs u h) one)
  if_same None cs c i k stage a s t f h alike one fa na first =
      two_same c i k stage a Nil s t f (λ v. v) alike fa tt na (λ e. tt) first (λ u v e. e)

  mutual
    stmt_same : (x : PlainStmt) (i : Option ℕ) (k : ℕ) (stage : Option ℕ) (s t : Memory) → UnnestedStmt x (is_some i) → Same s t → Same (run_cuts (cut x (is_some i) k stage) decls sizes i s) (statement_meaning x decls sizes i t)
    stmt_same (PlainStmt.Block o b) i k stage s t u a = all_same b i k (scope.or_else o stage) s t u a
    stmt_same (PlainStmt.If c b) i k stage s t u a =
        if_same (single (cut_all b (is_some i) k stage)) (cut_all b (is_some i) k stage) c i k stage (cut_all b (is_some i) (suc k) stage) s t (statements_meaning b decls sizes i) refl a (all_same b i k stage s t u a) (from_all b (is_some i) (suc k) stage)
        (λ h. subst (λ w. Flat true (cut_all b w (suc k) stage)) (sym h) (flat_all b true (suc k) stage (subst (Unnested b) h u)))
        (λ m n h. all_same b i (suc k) stage m n u h)
    stmt_same (PlainStmt.IfElse c b d) i k stage s t u a =
        let k' : ℕ = suc k + tests (cut_all b (is_some i) (suc k) stage) in
        two_same c i k stage (cut_all b (is_some i) (suc k) stage) (cut_all d (is_some i) k' stage) s t (statements_meaning b decls sizes i) (statements_meaning d decls sizes i) a (from_all b (is_some i) (suc k) stage) (From-lower (suc k) k' (cut_all d (is_some i) k' stage) (omega arith) (from_all d (is_some i) k' stage))
        (λ h. subst (λ w. Flat true (cut_all b w (suc k) stage)) (sym h) (flat_all b true (suc k) stage (subst (Unnested b) h u.0)))
        (λ h. subst (λ w. Flat true (cut_all d w k' stage)) (sym h) (flat_all d true k' stage (subst (Unnested d) h u.1)))
        (λ m n h. all_same b i (suc k) stage m n u.0 h)
        (λ m n h. all_same d i k' stage m n u.1 h)
    stmt_same (PlainStmt.For n y b) i k stage s t u a = turns_same (size_at y) (λ j m. run_cuts (cut_all b true k stage) decls sizes (Some j) m) (λ j m. statements_meaning b decls sizes (Some j) m) (λ j m n h. all_same b (Some j) k stage m n u.1 h) s t a
    stmt_same (PlainStmt.Assign to e) i k stage s t u a = same_over (leaf_writes (PlainStmt.Assign to e) decls sizes i s) (leaf_writes (PlainStmt.Assign to e) decls sizes i t) s t (leaf_same (PlainStmt.Assign to e) decls sizes i s t a) a
    stmt_same (PlainStmt.Read to r c) i k stage s t u a = same_over (leaf_writes (PlainStmt.Read to r c) decls sizes i s) (leaf_writes (PlainStmt.Read to r c) decls sizes i t) s t (leaf_same (PlainStmt.Read to r c) decls sizes i s t a) a
    stmt_same (PlainStmt.Write r c v) i k stage s t u a = same_over (leaf_writes (PlainStmt.Write r c v) decls sizes i s) (leaf_writes (PlainStmt.Write r c v) decls sizes i t) s t (leaf_same (PlainStmt.Write r c v) decls sizes i s t a) a
    stmt_same (PlainStmt.Valid n on) i k stage s t u a = same_over (leaf_writes (PlainStmt.Valid n on) decls sizes i s) (leaf_writes (PlainStmt.Valid n on) decls sizes i t) s t (leaf_same (PlainStmt.Valid n on) decls sizes i s t a) a
    stmt_same (PlainStmt.Call n j es) i k stage s t u a = same_over (leaf_writes (PlainStmt.Call n j es) decls sizes i s) (leaf_writes (PlainStmt.Call n j es) decls sizes i t) s t (leaf_same (PlainStmt.Call n j es) decls sizes i s t a) a
    stmt_same (PlainStmt.Apply n) i k stage s t u a = same_over (leaf_writes (PlainStmt.Apply n) decls sizes i s) (leaf_writes (PlainStmt.Apply n) decls sizes i t) s t (leaf_same (PlainStmt.Apply n) decls sizes i s t a) a

    pub all_same : (b : PlainStmts) (i : Option ℕ) (k : ℕ) (stage : Option ℕ) (s t : Memory) → Unnested b (is_some i) → Same s t → Same (run_cuts (cut_all b (is_some i) k stage) decls sizes i s) (statements_meaning b decls sizes i t)
    all_same PlainStmts.nil i k stage s t u a = a
    all_same (PlainStmts.cons x r) i k stage s t u a =
        let k' : ℕ = k + tests (cut x (is_some i) k stage) in
        subst (λ m. Same m (statements_meaning r decls sizes i (statement_meaning x decls sizes i t))) (sym (run_append (cut x (is_some i) k stage) (cut_all r (is_some i) k' stage) i s)) (all_same r i k' stage (run_cuts (cut x (is_some i) k stage) decls sizes i s) (statement_meaning x decls sizes i t) u.1 (stmt_same x i k stage s t u.0 a))

pub pieces_keep_the_meaning : PiecesKeepTheMeaning
pieces_keep_the_meaning decls sizes body index number stage u s t a = all_same decls sizes body index number stage s t u a
