-- The predicates of a loop: where a piece of a loop has a literal of an own predicate, a piece of the loop keeps its condition.
use Rattle.std.proofs.Common.{◌≡◌, ℕ, suc, ◌+◌, ◌==◌, Bool, true, false, ◌||◌, List, [], ◌∷◌, ◌++◌, map, Option, None, refl, sym, ap, ap₂, subst, ◌∙◌, true≢false, append_assoc, arith}
use Rattle.std.specs.List.{list_any}
use Rattle.std.proofs.lemmas.Bool.{or_left, or_right}
use Rattle.std.proofs.lemmas.Bool.Decides.{nat_tests}
use Rattle.std.proofs.lemmas.List.{append-nil}
use Rattle.std.proofs.lemmas.List.Folds.{list_any-append}
use Rattle.elastic_ast.specs.declared.flat.Lit.{Lit}
use Rattle.elastic_ast.specs.Tree.{PlainExpr, PlainStmt, PlainStmts, PlainDecl}
use Rattle.elastic_ast.specs.Typing.Scope.{or_else}
use Rattle.elastic_ast.specs.Packets.MainParts.{body_of}
use Rattle.elastic_ast.specs.Units.PlainUnits.{PlainWork, Plain, Call, Apply, Pred}
use Rattle.elastic_ast.specs.Units.Cuts.{Piece, Cuts, Nil, One, Loop, append, tests, literal, lit_put, with_lit, untested, single, branched, guarded, cut, cut_all}
use Rattle.elastic_ast.specs.Units.UnitsOf.{inner_pieces, cuts_of}
use Rattle.elastic_laws.proofs.Units.EachUnit.{AllBy, all_more, all_both}
use Rattle.unit_flow.specs.OwnLocations.{keeps}

-- one of the pieces keeps the condition of a predicate
abbrev pub keep : List Piece → ℕ → Bool
keep pieces number = list_any (λ (piece : Piece). keeps number piece.work) pieces

-- a literal of an own predicate is of one that these pieces keep
abbrev pub IsKept : List Piece → Lit → Type 0
IsKept pieces lit = lit.own ≡ true → keep pieces lit.number ≡ true

abbrev pub LitsKept : List Piece → Piece → Type 0
LitsKept pieces piece = AllBy (IsKept pieces) piece.lits

-- of the pieces in a loop
abbrev pub InnerKept : Cuts → Type 0
InnerKept cuts = AllBy (LitsKept (inner_pieces cuts)) (inner_pieces cuts)

-- outside of loops no literal is own
abbrev pub OuterKept : Cuts → Type 0
OuterKept Nil = Unit {0}
OuterKept (One piece rest) = LitsKept [] piece × OuterKept rest
OuterKept (Loop index size inner rest) = InnerKept inner × OuterKept rest

-- what these keep, the others keep too
abbrev KeepToo : List Piece → List Piece → Type 0
KeepToo pieces others = (number : ℕ) → keep pieces number ≡ true → keep others number ≡ true

kept_too : (pieces others xs : List Piece) → KeepToo pieces others → AllBy (LitsKept pieces) xs → AllBy (LitsKept others) xs
kept_too pieces others xs too h =
    all_more (LitsKept pieces) (LitsKept others) (λ piece lits. all_more (IsKept pieces) (IsKept others) (λ lit is own. too lit.number (is own)) piece.lits lits) xs h

too_left : (xs ys : List Piece) → KeepToo xs (xs ++ ys)
too_left xs ys number h = list_any-append (λ (piece : Piece). keeps number piece.work) xs ys ∙ or_left (keep xs number) (keep ys number) h

too_right : (xs ys : List Piece) → KeepToo ys (xs ++ ys)
too_right xs ys number h = list_any-append (λ (piece : Piece). keeps number piece.work) xs ys ∙ or_right (keep xs number) (keep ys number) h

both_kept : (xs ys : List Piece) → AllBy (LitsKept xs) xs → AllBy (LitsKept ys) ys → AllBy (LitsKept (xs ++ ys)) (xs ++ ys)
both_kept xs ys h g = all_both (LitsKept (xs ++ ys)) xs ys (kept_too xs (xs ++ ys) xs (too_left xs ys) h) (kept_too ys (xs ++ ys) ys (too_right xs ys) g)

inner_append : (cuts others : Cuts) → inner_pieces (append cuts others) ≡ inner_pieces cuts ++ inner_pieces others
inner_append Nil others = refl
inner_append (One piece rest) others = ap (λ z. piece ∷ z) (inner_append rest others)
inner_append (Loop index size inner rest) others =
    ap (λ z. inner_pieces inner ++ z) (inner_append rest others) ∙ sym (append_assoc (inner_pieces inner) (inner_pieces rest) (inner_pieces others))

append_inner : (cuts others : Cuts) → InnerKept cuts → InnerKept others → InnerKept (append cuts others)
append_inner cuts others h g =
    subst (λ z. AllBy (LitsKept z) z) (sym (inner_append cuts others)) (both_kept (inner_pieces cuts) (inner_pieces others) h g)

abbrev put : Lit → Piece → Piece
put lit piece = lit_put lit piece.work piece

map_both : (f : Piece → Piece) (xs ys : List Piece) → map f (xs ++ ys) ≡ map f xs ++ map f ys
map_both f [] ys = refl
map_both f (x ∷ xs) ys = ap (λ z. f x ∷ z) (map_both f xs ys)

inner_lit : (lit : Lit) (cuts : Cuts) → inner_pieces (with_lit lit cuts) ≡ map (put lit) (inner_pieces cuts)
inner_lit lit Nil = refl
inner_lit lit (One piece rest) = ap (λ z. put lit piece ∷ z) (inner_lit lit rest)
inner_lit lit (Loop index size inner rest) = ap₂ (λ a b. a ++ b) (inner_lit lit inner) (inner_lit lit rest) ∙ sym (map_both (put lit) (inner_pieces inner) (inner_pieces rest))

-- a literal changes no work
work_put : (lit : Lit) (piece : Piece) (work : PlainWork) → (lit_put lit work piece).work ≡ piece.work
work_put lit piece (Plain statement) = refl
work_put lit piece (Call statement) = refl
work_put lit piece (Apply table) = refl
work_put lit piece (Pred number condition) = refl

keep_put : (lit : Lit) (pieces : List Piece) (number : ℕ) → keep (map (put lit) pieces) number ≡ keep pieces number
keep_put lit [] number = refl
keep_put lit (piece ∷ pieces) number = ap₂ (λ a b. a || b) (ap (keeps number) (work_put lit piece piece.work)) (keep_put lit pieces number)

lits_put : (all : List Piece) (lit : Lit) → IsKept all lit → (piece : Piece) (work : PlainWork) → LitsKept all piece → LitsKept all (lit_put lit work piece)
lits_put all lit is piece (Plain statement) h = (is, h)
lits_put all lit is piece (Call statement) h = (is, h)
lits_put all lit is piece (Apply table) h = (is, h)
lits_put all lit is piece (Pred number condition) h = h

all_put : (all : List Piece) (lit : Lit) → IsKept all lit → (pieces : List Piece) → AllBy (LitsKept all) pieces → AllBy (LitsKept all) (map (put lit) pieces)
all_put all lit is [] h = tt
all_put all lit is (piece ∷ pieces) h = (lits_put all lit is piece piece.work h.0, all_put all lit is pieces h.1)

itself : (number : ℕ) → (number == number) ≡ true
itself number = grind (arith, nat_tests)

-- the branches of a condition that is kept
module _ (condition : PlainExpr) (own : Bool) (number : ℕ) (stage : Option ℕ) (first other : Cuts) where
  abbrev kept : Piece
  kept = untested (Pred number condition) stage

  abbrev yes_lit : Lit
  yes_lit = literal number own true

  abbrev no_lit : Lit
  no_lit = literal number own false

  abbrev first_pieces : List Piece
  first_pieces = map (put yes_lit) (inner_pieces first)

  abbrev other_pieces : List Piece
  other_pieces = map (put no_lit) (inner_pieces other)

  abbrev all_pieces : List Piece
  all_pieces = kept ∷ (first_pieces ++ other_pieces)

  own_kept : keep all_pieces number ≡ true
  own_kept = or_left (number == number) (keep (first_pieces ++ other_pieces) number) (itself number)

  too_one : KeepToo (inner_pieces first) all_pieces
  too_one n e = or_right (keeps n (Pred number condition)) (keep (first_pieces ++ other_pieces) n) (too_left first_pieces other_pieces n (keep_put yes_lit (inner_pieces first) n ∙ e))

  too_two : KeepToo (inner_pieces other) all_pieces
  too_two n e = or_right (keeps n (Pred number condition)) (keep (first_pieces ++ other_pieces) n) (too_right first_pieces other_pieces n (keep_put no_lit (inner_pieces other) n ∙ e))

  branched_inner : InnerKept first → InnerKept other → InnerKept (branched condition own number stage first other)
  branched_inner h g =
      subst (λ z. AllBy (LitsKept (kept ∷ z)) (kept ∷ z)) (sym (inner_append (with_lit yes_lit first) (with_lit no_lit other) ∙ ap₂ (λ a b. a ++ b) (inner_lit yes_lit first) (inner_lit no_lit other))) (
        tt,
        all_both (LitsKept all_pieces) first_pieces other_pieces
            (all_put all_pieces yes_lit (λ e. own_kept) (inner_pieces first) (kept_too (inner_pieces first) all_pieces (inner_pieces first) too_one h))
            (all_put all_pieces no_lit (λ e. own_kept) (inner_pieces other) (kept_too (inner_pieces other) all_pieces (inner_pieces other) too_two g)),
      )

guarded_inner : (tried body : Cuts) (condition : PlainExpr) (own : Bool) (number : ℕ) (stage : Option ℕ) → InnerKept tried → InnerKept body → InnerKept (guarded (single tried) condition own number stage body)
guarded_inner Nil body condition own number stage t h = branched_inner condition own number stage body Nil h tt
guarded_inner (One piece Nil) body condition own number stage t h = t
guarded_inner (One piece (One other rest)) body condition own number stage t h = branched_inner condition own number stage body Nil h tt
guarded_inner (One piece (Loop index size inner rest)) body condition own number stage t h = branched_inner condition own number stage body Nil h tt
guarded_inner (Loop index size inner rest) body condition own number stage t h = branched_inner condition own number stage body Nil h tt

mutual
  inner_kept : (x : PlainStmt) (own : Bool) (number : ℕ) (stage : Option ℕ) → InnerKept (cut x own number stage)
  inner_kept (PlainStmt.Block own_stage xs) own number stage = all_inner_kept xs own number (or_else own_stage stage)
  inner_kept (PlainStmt.If condition xs) own number stage =
      guarded_inner (cut_all xs own number stage) (cut_all xs own (suc number) stage) condition own number stage (all_inner_kept xs own number stage) (all_inner_kept xs own (suc number) stage)
  inner_kept (PlainStmt.IfElse condition xs ys) own number stage =
      branched_inner condition own number stage (cut_all xs own (suc number) stage) (cut_all ys own (suc number + tests (cut_all xs own (suc number) stage)) stage)
      (all_inner_kept xs own (suc number) stage) (all_inner_kept ys own (suc number + tests (cut_all xs own (suc number) stage)) stage)
  inner_kept (PlainStmt.For index size xs) own number stage =
      subst (λ z. AllBy (LitsKept z) z) (sym (append-nil (inner_pieces (cut_all xs true number stage)))) (all_inner_kept xs true number stage)
  inner_kept other own number stage = (tt, tt)

  all_inner_kept : (xs : PlainStmts) (own : Bool) (number : ℕ) (stage : Option ℕ) → InnerKept (cut_all xs own number stage)
  all_inner_kept PlainStmts.nil own number stage = tt
  all_inner_kept (PlainStmts.cons x xs) own number stage =
      append_inner (cut x own number stage) (cut_all xs own (number + tests (cut x own number stage)) stage) (inner_kept x own number stage)
      (all_inner_kept xs own (number + tests (cut x own number stage)) stage)

-- outside of loops
append_outer : (cuts others : Cuts) → OuterKept cuts → OuterKept others → OuterKept (append cuts others)
append_outer Nil others h g = g
append_outer (One piece rest) others h g = (h.0, append_outer rest others h.1 g)
append_outer (Loop index size inner rest) others h g = (h.0, append_outer rest others h.1 g)

module _ (number : ℕ) (on : Bool) where
  abbrev plain_lit : Lit
  plain_lit = literal number false on

  not_own : (all : List Piece) → IsKept all plain_lit
  not_own all e = absurd (true≢false (sym e))

  inner_plain : (cuts : Cuts) → InnerKept cuts → InnerKept (with_lit plain_lit cuts)
  inner_plain cuts h =
      let pieces = map (put plain_lit) (inner_pieces cuts) in
      subst (λ z. AllBy (LitsKept z) z) (sym (inner_lit plain_lit cuts))
      (all_put pieces plain_lit (not_own pieces) (inner_pieces cuts) (kept_too (inner_pieces cuts) pieces (inner_pieces cuts) (λ n e. keep_put plain_lit (inner_pieces cuts) n ∙ e) h))

  lit_outer : (cuts : Cuts) → OuterKept cuts → OuterKept (with_lit plain_lit cuts)
  lit_outer Nil h = tt
  lit_outer (One piece rest) h = (lits_put [] plain_lit (not_own []) piece piece.work h.0, lit_outer rest h.1)
  lit_outer (Loop index size inner rest) h = (inner_plain inner h.0, lit_outer rest h.1)

branched_outer : (condition : PlainExpr) (number : ℕ) (stage : Option ℕ) (first other : Cuts) → OuterKept first → OuterKept other → OuterKept (branched condition false number stage first other)
branched_outer condition number stage first other h g =
    (tt, append_outer (with_lit (literal number false true) first) (with_lit (literal number false false) other) (lit_outer number true first h) (lit_outer number false other g))

guarded_outer : (tried body : Cuts) (condition : PlainExpr) (number : ℕ) (stage : Option ℕ) → OuterKept tried → OuterKept body → OuterKept (guarded (single tried) condition false number stage body)
guarded_outer Nil body condition number stage t h = branched_outer condition number stage body Nil h tt
guarded_outer (One piece Nil) body condition number stage t h = t
guarded_outer (One piece (One other rest)) body condition number stage t h = branched_outer condition number stage body Nil h tt
guarded_outer (One piece (Loop index size inner rest)) body condition number stage t h = branched_outer condition number stage body Nil h tt
guarded_outer (Loop index size inner rest) body condition number stage t h = branched_outer condition number stage body Nil h tt

mutual
  outer_kept : (x : PlainStmt) (number : ℕ) (stage : Option ℕ) → OuterKept (cut x false number stage)
  outer_kept (PlainStmt.Block own_stage xs) number stage = all_outer_kept xs number (or_else own_stage stage)
  outer_kept (PlainStmt.If condition xs) number stage =
      guarded_outer (cut_all xs false number stage) (cut_all xs false (suc number) stage) condition number stage (all_outer_kept xs number stage) (all_outer_kept xs (suc number) stage)
  outer_kept (PlainStmt.IfElse condition xs ys) number stage =
      branched_outer condition number stage (cut_all xs false (suc number) stage) (cut_all ys false (suc number + tests (cut_all xs false (suc number) stage)) stage)
      (all_outer_kept xs (suc number) stage) (all_outer_kept ys (suc number + tests (cut_all xs false (suc number) stage)) stage)
  outer_kept (PlainStmt.For index size xs) number stage = (all_inner_kept xs true number stage, tt)
  outer_kept other number stage = (tt, tt)

  all_outer_kept : (xs : PlainStmts) (number : ℕ) (stage : Option ℕ) → OuterKept (cut_all xs false number stage)
  all_outer_kept PlainStmts.nil number stage = tt
  all_outer_kept (PlainStmts.cons x xs) number stage =
      append_outer (cut x false number stage) (cut_all xs false (number + tests (cut x false number stage)) stage) (outer_kept x number stage)
      (all_outer_kept xs (number + tests (cut x false number stage)) stage)

pub pieces_kept : (decls : List PlainDecl) → OuterKept (cuts_of decls)
pieces_kept decls = all_outer_kept (body_of decls) 0 None
