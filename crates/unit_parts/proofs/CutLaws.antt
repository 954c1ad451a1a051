-- How a walk over a body passes what stands in it.
use Rattle.std.proofs.Common.{◌≡◌, ℕ, suc, ◌+◌, ◌<◌, ◌≤◌, Bool, true, false, List, [], ◌∷◌, ◌++◌, append_assoc, drop, length, get_or, Option, Some, None, is_some, refl, sym, ap, ap₂, subst, ◌∙◌, arith}
use Rattle.std.specs.Prelude.{map, option_map}
use Rattle.std.proofs.lemmas.List.{append-nil, map-append, at_drop_all}
use Rattle.elastic_ast.specs.declared.flat.Lit.{Lit}
use Rattle.elastic_ast.specs.declared.statements.Stmt.{Stmt}
use Rattle.elastic_ast.specs.Tree.{Name, PlainExpr, PlainStmt, PlainStmts}
use Rattle.elastic_ast.specs.Seen.{seen_stmt, seen_stmts}
use Rattle.elastic_ast.specs.Units.PlainUnits.{PlainWork, Plain, Call, Apply, Pred}
use Rattle.elastic_ast.specs.Units.Cuts.{Piece, Cuts, Nil, One, Loop, append, tests_in, tests, literal, lit_put, with_lit, single, alone, untested, branched, guarded, cut, cut_all}
use Rattle.elastic_ast.specs.Units.UnitsOf.{Around}
use Rattle.unit_parts.specs.declared.cutting.Walk.{Walk}
use Rattle.unit_parts.specs.declared.cutting.Place.{Place}
use Rattle.unit_parts.specs.Spread.{PieceAround, standing, around_at, within, outside, spread, outer_loops, loops_in, lits_for, tested, put_under}
use Rattle.unit_parts.specs.SeenPieces.{seen_loop, seen_conds, seen_pieces, HasCut, cut_at, cut_all_at}
use Rattle.unit_parts.specs.Cutting.{AddsPiece, loop_entered, EntersLoop, IsUnder, IsGuarded}
use Rattle.program_names.proofs.Items.{drop_step}
use Rattle.elastic_laws.specs.Units.PieceCounts.{count_all, is_single}
use Rattle.elastic_laws.proofs.Units.PieceCountLaws.{one_is_counted}

-- two after each other

pub tests-append : (a b : Cuts) → tests (append a b) ≡ tests a + tests b
tests-append Nil b = omega arith
tests-append (One piece rest) b = let e = tests-append rest b in omega (arith, e)
tests-append (Loop index size inner rest) b = let e = tests-append rest b in omega (arith, e)

outer_loops-append : (a b : Cuts) → outer_loops (append a b) ≡ outer_loops a + outer_loops b
outer_loops-append Nil b = omega arith
outer_loops-append (One piece rest) b = outer_loops-append rest b
outer_loops-append (Loop index size inner rest) b = let e = outer_loops-append rest b in omega (arith, e)

loops-append : (around : Option Around) (a b : Cuts) → loops_in around (append a b) ≡ loops_in around a + loops_in around b
loops-append None a b = outer_loops-append a b
loops-append (Some around) a b = omega arith

within-append : (around : Around) (a b : Cuts) → within around (append a b) ≡ within around a ++ within around b
within-append around Nil b = refl
within-append around (One piece rest) b = ap (λ z. standing (Some around) piece ∷ z) (within-append around rest b)
within-append around (Loop index size inner rest) b =
    ap (λ z. within around inner ++ z) (within-append around rest b) ∙ sym (append_assoc (within around inner) (within around rest) (within around b))

outside-append : (loop more : ℕ) (a b : Cuts) → more ≡ loop + outer_loops a → outside loop (append a b) ≡ outside loop a ++ outside more b
outside-append loop more Nil b e = let same : loop ≡ more = omega (arith, e) in ap (λ z. outside z b) same
outside-append loop more (One piece rest) b e = ap (λ z. standing None piece ∷ z) (outside-append loop more rest b e)
outside-append loop more (Loop index size inner rest) b e =
    ap (λ z. within (around_at loop index size) inner ++ z) (outside-append (loop + 1) more rest b (omega (arith, e)))
    ∙ sym (append_assoc (within (around_at loop index size) inner) (outside (loop + 1) rest) (outside more b))

spread-append : (around : Option Around) (loop more : ℕ) (a b : Cuts) → more ≡ loop + loops_in around a → spread around loop (append a b) ≡ spread around loop a ++ spread around more b
spread-append None loop more a b e = outside-append loop more a b e
spread-append (Some around) loop more a b e = within-append around a b

pub has_both : (old mid new : Walk) (place : Place) (a b : Cuts) → HasCut old mid place a → HasCut mid new place b → HasCut old new place (append a b)
has_both old mid new place a b first second = record {
  pieces =
      second.pieces
      ∙ ap (λ z. z ++ map put (spread around mid.loops b)) first.pieces
      ∙ append_assoc (seen_pieces old.pieces.items) (map put (spread around old.loops a)) (map put (spread around mid.loops b))
      ∙ ap (λ z. seen_pieces old.pieces.items ++ z)
      (sym (map-append put (spread around old.loops a) (spread around mid.loops b)) ∙ ap (map put) (sym (spread-append around old.loops mid.loops a b first.loops)));
  number = let e = first.number in let f = second.number in let t = tests-append a b in omega (arith, e, f, t);
  loops = let e = first.loops in let f = second.loops in let t = loops-append around a b in omega (arith, e, f, t);
}
  where
    around : Option Around
    around = option_map seen_loop place.around

    put : PieceAround → PieceAround
    put = put_under place.lits.now (seen_conds place.conds.now)

no_loops : (around : Option Around) → loops_in around Nil ≡ 0
no_loops None = refl
no_loops (Some around) = refl

nothing_spread : (around : Option Around) (loop : ℕ) → spread around loop Nil ≡ []
nothing_spread None loop = refl
nothing_spread (Some around) loop = refl

pub has_none : (walk : Walk) (place : Place) → HasCut walk walk place Nil
has_none walk place = record {
  pieces =
      sym (ap (λ z. seen_pieces walk.pieces.items ++ map (put_under place.lits.now (seen_conds place.conds.now)) z) (nothing_spread (option_map seen_loop place.around) walk.loops)
      ∙ append-nil (seen_pieces walk.pieces.items));
  number = omega arith;
  loops = let e = no_loops (option_map seen_loop place.around) in omega (arith, e);
}

-- one piece

one_spread : (around : Option Around) (loop : ℕ) (piece : Piece) → spread around loop (One piece Nil) ≡ standing around piece ∷ []
one_spread None loop piece = refl
one_spread (Some around) loop piece = refl

one_loops : (around : Option Around) (piece : Piece) → loops_in around (One piece Nil) ≡ 0
one_loops None piece = refl
one_loops (Some around) piece = refl

pub has_one : (old new : Walk) (place : Place) (work : PlainWork) → AddsPiece old.pieces.items new.pieces.items place work → new.number ≡ old.number + tests_in work → new.loops ≡ old.loops → HasCut old new place (alone work place.stage)
has_one old new place work pieces number loops = record {
  pieces =
      pieces
      ∙ sym (ap (λ z. seen_pieces old.pieces.items ++ map (put_under place.lits.now (seen_conds place.conds.now)) z) (one_spread (option_map seen_loop place.around) old.loops (untested work place.stage)));
  number = omega (arith, number);
  loops = let e = one_loops (option_map seen_loop place.around) (untested work place.stage) in omega (arith, loops, e);
}

-- under a literal

module _ (lits : List Lit) (conds : List PlainExpr) (lit : Lit) where
  tested-lit : (ls : List Lit) (cs : List PlainExpr) (work : PlainWork) (stage : Option ℕ)
      → tested lits conds (lit_put lit work (record { lits = ls; conds = cs; work = work; stage = stage })) ≡ tested (lits ++ lit ∷ []) conds (record { lits = ls; conds = cs; work = work; stage = stage })
  tested-lit ls cs (Plain s) stage = ap (λ (z : List Lit). let p : Piece = record { lits = z; conds = conds ++ cs; work = Plain s; stage = stage } in p) (sym (append_assoc lits (lit ∷ []) ls))
  tested-lit ls cs (Call s) stage = ap (λ (z : List Lit). let p : Piece = record { lits = z; conds = conds ++ cs; work = Call s; stage = stage } in p) (sym (append_assoc lits (lit ∷ []) ls))
  tested-lit ls cs (Apply t) stage = ap (λ (z : List Lit). let p : Piece = record { lits = z; conds = conds ++ cs; work = Apply t; stage = stage } in p) (sym (append_assoc lits (lit ∷ []) ls))
  tested-lit ls cs (Pred n c) stage = refl

  within-lit : (around : Around) (a : Cuts) → map (put_under lits conds) (within around (with_lit lit a)) ≡ map (put_under (lits ++ lit ∷ []) conds) (within around a)
  within-lit around Nil = refl
  within-lit around (One piece rest) = ap₂ (λ x y. standing (Some around) x ∷ y) (tested-lit piece.lits piece.conds piece.work piece.stage) (within-lit around rest)
  within-lit around (Loop index size inner rest) =
      map-append (put_under lits conds) (within around (with_lit lit inner)) (within around (with_lit lit rest))
      ∙ ap₂ (λ x y. x ++ y) (within-lit around inner) (within-lit around rest)
      ∙ sym (map-append (put_under (lits ++ lit ∷ []) conds) (within around inner) (within around rest))

  outside-lit : (loop : ℕ) (a : Cuts) → map (put_under lits conds) (outside loop (with_lit lit a)) ≡ map (put_under (lits ++ lit ∷ []) conds) (outside loop a)
  outside-lit loop Nil = refl
  outside-lit loop (One piece rest) = ap₂ (λ x y. standing None x ∷ y) (tested-lit piece.lits piece.conds piece.work piece.stage) (outside-lit loop rest)
  outside-lit loop (Loop index size inner rest) =
      map-append (put_under lits conds) (within (around_at loop index size) (with_lit lit inner)) (outside (loop + 1) (with_lit lit rest))
      ∙ ap₂ (λ x y. x ++ y) (within-lit (around_at loop index size) inner) (outside-lit (loop + 1) rest)
      ∙ sym (map-append (put_under (lits ++ lit ∷ []) conds) (within (around_at loop index size) inner) (outside (loop + 1) rest))

  spread-lit : (around : Option Around) (loop : ℕ) (a : Cuts) → map (put_under lits conds) (spread around loop (with_lit lit a)) ≡ map (put_under (lits ++ lit ∷ []) conds) (spread around loop a)
  spread-lit None loop a = outside-lit loop a
  spread-lit (Some around) loop a = within-lit around a

tests_in-lit : (lit : Lit) (ls : List Lit) (cs : List PlainExpr) (work : PlainWork) (stage : Option ℕ)
    → tests_in (lit_put lit work (record { lits = ls; conds = cs; work = work; stage = stage })).work ≡ tests_in work
tests_in-lit lit ls cs (Plain s) stage = refl
tests_in-lit lit ls cs (Call s) stage = refl
tests_in-lit lit ls cs (Apply t) stage = refl
tests_in-lit lit ls cs (Pred n c) stage = refl

pub tests-lit : (lit : Lit) (a : Cuts) → tests (with_lit lit a) ≡ tests a
tests-lit lit Nil = refl
tests-lit lit (One piece rest) = ap₂ (λ x y. x + y) (tests_in-lit lit piece.lits piece.conds piece.work piece.stage) (tests-lit lit rest)
tests-lit lit (Loop index size inner rest) = ap₂ (λ x y. x + y) (tests-lit lit inner) (tests-lit lit rest)

outer_loops-lit : (lit : Lit) (a : Cuts) → outer_loops (with_lit lit a) ≡ outer_loops a
outer_loops-lit lit Nil = refl
outer_loops-lit lit (One piece rest) = outer_loops-lit lit rest
outer_loops-lit lit (Loop index size inner rest) = ap (λ z. 1 + z) (outer_loops-lit lit rest)

loops-lit : (around : Option Around) (lit : Lit) (a : Cuts) → loops_in around (with_lit lit a) ≡ loops_in around a
loops-lit None lit a = outer_loops-lit lit a
loops-lit (Some around) lit a = refl

pub has_lit : (old new : Walk) (place inner : Place) (lit : Lit) (a : Cuts) → IsUnder place inner lit → HasCut old new inner a → HasCut old new place (with_lit lit a)
has_lit old new place inner lit a under cuts = record {
  pieces =
      cuts.pieces
      ∙ ap (λ z. seen_pieces old.pieces.items ++ map (put_under inner.lits.now (seen_conds inner.conds.now)) (spread (option_map seen_loop z) old.loops a)) under.around
      ∙ ap₂ (λ x y. seen_pieces old.pieces.items ++ map (put_under x (seen_conds y)) (spread (option_map seen_loop place.around) old.loops a)) under.lits under.conds
      ∙ ap (λ z. seen_pieces old.pieces.items ++ z) (sym (spread-lit place.lits.now (seen_conds place.conds.now) lit (option_map seen_loop place.around) old.loops a));
  number = cuts.number ∙ ap (λ z. old.number + z) (sym (tests-lit lit a));
  loops = cuts.loops ∙ ap (λ z. old.loops + loops_in (option_map seen_loop z) a) under.around ∙ ap (λ z. old.loops + z) (sym (loops-lit (option_map seen_loop place.around) lit a));
}

-- an `if`

-- what stands under a literal, at the numbers that a walk has come to
at_inner : (walk : Walk) (place inner : Place) (lit : Lit) (ss : PlainStmts) (number : ℕ) → IsUnder place inner lit → walk.number ≡ number → cut_all_at walk inner ss ≡ cut_all ss (is_some place.around) number place.stage
at_inner walk place inner lit ss number under e =
    ap (λ z. cut_all ss (is_some z) walk.number inner.stage) under.around ∙ ap₂ (λ x y. cut_all ss (is_some place.around) x y) e under.stage

pub has_branch : (old new : Walk) (place inner : Place) (lit : Lit) (ss : PlainStmts) (number : ℕ) → IsUnder place inner lit → old.number ≡ number → HasCut old new inner (cut_all_at old inner ss)
    → HasCut old new place (with_lit lit (cut_all ss (is_some place.around) number place.stage))
has_branch old new place inner lit ss number under e cuts =
    has_lit old new place inner lit (cut_all ss (is_some place.around) number place.stage) under (subst (HasCut old new inner) (at_inner old place inner lit ss number under e) cuts)

pub has_if_else : (old mid next new : Walk) (place one two : Place) (condition : PlainExpr) (body else_body : PlainStmts) → HasCut old mid place (alone (Pred old.number condition) place.stage)
    → IsUnder place one (literal old.number (is_some place.around) true) → HasCut mid next one (cut_all_at mid one body)
    → IsUnder place two (literal old.number (is_some place.around) false) → HasCut next new two (cut_all_at next two else_body) → HasCut old new place (cut_at old place (PlainStmt.IfElse condition body else_body))
has_if_else old mid next new place one two condition body else_body kept under first under' other =
    let own = is_some place.around in
    let stage = place.stage in
    let behind : mid.number ≡ suc old.number = let e = kept.number in omega (arith, e) in
    let pieces = cut_all body own (suc old.number) stage in
    let on = has_branch mid next place one (literal old.number own true) body (suc old.number) under behind first in
    let further : next.number ≡ suc old.number + tests pieces = let e = on.number in let t = tests-lit (literal old.number own true) pieces in omega (arith, e, t, behind) in
    let off = has_branch next new place two (literal old.number own false) else_body (suc old.number + tests pieces) under' further other in
    has_both old mid new place (alone (Pred old.number condition) stage) (append (with_lit (literal old.number own true) pieces) (with_lit (literal old.number own false) (cut_all else_body own (suc old.number + tests pieces) stage))) kept
    (has_both mid next new place (with_lit (literal old.number own true) pieces) (with_lit (literal old.number own false) (cut_all else_body own (suc old.number + tests pieces) stage)) on off)

kept_whole : (body : Cuts) (condition : PlainExpr) (own : Bool) (number : ℕ) (stage : Option ℕ) (others : Cuts) → is_some (single body) ≡ false → guarded (single body) condition own number stage others ≡ branched condition own number stage others Nil
kept_whole Nil condition own number stage others several = refl
kept_whole (One piece Nil) condition own number stage others several = cc
kept_whole (One piece (One other rest)) condition own number stage others several = refl
kept_whole (One piece (Loop index size inner rest)) condition own number stage others several = refl
kept_whole (Loop index size inner rest) condition own number stage others several = refl

pub has_if_kept : (old mid new : Walk) (place one : Place) (condition : PlainExpr) (body : PlainStmts) → is_single (count_all body) ≡ false → HasCut old mid place (alone (Pred old.number condition) place.stage)
    → IsUnder place one (literal old.number (is_some place.around) true) → HasCut mid new one (cut_all_at mid one body) → HasCut old new place (cut_at old place (PlainStmt.If condition body))
has_if_kept old mid new place one condition body several kept under first =
    let own = is_some place.around in
    let stage = place.stage in
    let behind : mid.number ≡ suc old.number = let e = kept.number in omega (arith, e) in
    let pieces = cut_all body own (suc old.number) stage in
    let on = has_branch mid new place one (literal old.number own true) body (suc old.number) under behind first in
    subst (HasCut old new place) (sym (kept_whole (cut_all body own old.number stage) condition own old.number stage pieces (one_is_counted body own old.number stage ∙ several)))
    (has_both old mid new place (alone (Pred old.number condition) stage) (append (with_lit (literal old.number own true) pieces) Nil) kept
    (has_both mid new new place (with_lit (literal old.number own true) pieces) Nil on (has_none new place)))

guard_put : (lits : List Lit) (conds more : List PlainExpr) (condition : PlainExpr) (around : Option Around) (loop : ℕ) (piece : Piece) → more ≡ conds ++ condition ∷ []
    → map (put_under lits more) (spread around loop (One piece Nil)) ≡ map (put_under lits conds) (spread around loop (One (record piece { conds = condition ∷ piece.conds }) Nil))
guard_put lits conds more condition around loop piece e =
    ap (map (put_under lits more)) (one_spread around loop piece)
    ∙ ap (λ (z : List PlainExpr). let p : Piece = record { lits = lits_for piece.work lits ++ piece.lits; conds = z; work = piece.work; stage = piece.stage } in standing around p ∷ []) (ap (λ z. z ++ piece.conds) e ∙ append_assoc conds (condition ∷ []) piece.conds)
    ∙ sym (ap (map (put_under lits conds)) (one_spread around loop (record piece { conds = condition ∷ piece.conds })))

has_guarded : (old new : Walk) (place inner : Place) (condition : PlainExpr) (piece : Piece) → IsGuarded place inner condition → HasCut old new inner (One piece Nil)
    → HasCut old new place (One (record piece { conds = condition ∷ piece.conds }) Nil)
has_guarded old new place inner condition piece under cuts = record {
  pieces =
      cuts.pieces
      ∙ ap (λ z. seen_pieces old.pieces.items ++ map (put_under inner.lits.now (seen_conds inner.conds.now)) (spread (option_map seen_loop z) old.loops (One piece Nil))) under.around
      ∙ ap (λ z. seen_pieces old.pieces.items ++ map (put_under z (seen_conds inner.conds.now)) (spread (option_map seen_loop place.around) old.loops (One piece Nil))) under.lits
      ∙ ap (λ z. seen_pieces old.pieces.items ++ z) (guard_put place.lits.now (seen_conds place.conds.now) (seen_conds inner.conds.now) condition (option_map seen_loop place.around) old.loops piece under.conds);
  number = cuts.number;
  loops =
      cuts.loops ∙ ap (λ z. old.loops + loops_in (option_map seen_loop z) (One piece Nil)) under.around
      ∙ ap (λ z. old.loops + z) (one_loops (option_map seen_loop place.around) piece ∙ sym (one_loops (option_map seen_loop place.around) (record piece { conds = condition ∷ piece.conds })));
}

has_single : (old new : Walk) (place inner : Place) (condition : PlainExpr) (body others : Cuts) (own : Bool) (number : ℕ) (stage : Option ℕ) → is_some (single body) ≡ true → IsGuarded place inner condition → HasCut old new inner body
    → HasCut old new place (guarded (single body) condition own number stage others)
has_single old new place inner condition Nil others own number stage e under cuts = cc
has_single old new place inner condition (One piece Nil) others own number stage e under cuts = has_guarded old new place inner condition piece under cuts
has_single old new place inner condition (One piece (One other rest)) others own number stage e under cuts = cc
has_single old new place inner condition (One piece (Loop index size body rest)) others own number stage e under cuts = cc
has_single old new place inner condition (Loop index size body rest) others own number stage e under cuts = cc

pub has_if_single : (old new : Walk) (place inner : Place) (condition : PlainExpr) (body : PlainStmts) → is_single (count_all body) ≡ true → IsGuarded place inner condition → HasCut old new inner (cut_all_at old inner body)
    → HasCut old new place (cut_at old place (PlainStmt.If condition body))
has_if_single old new place inner condition body e under cuts =
    let own = is_some place.around in
    let stage = place.stage in
    let here : cut_all_at old inner body ≡ cut_all body own old.number stage =
    ap (λ z. cut_all body (is_some z) old.number inner.stage) under.around ∙ ap (λ z. cut_all body own old.number z) under.stage in
    has_single old new place inner condition (cut_all body own old.number stage) (cut_all body own (suc old.number) stage) own old.number stage (one_is_counted body own old.number stage ∙ e) under
    (subst (HasCut old new inner) here cuts)

-- a loop

entered_spread : (around : Option Around) (loop : ℕ) (index size : Name) (a : Cuts) → within (loop_entered around loop index size) a ≡ spread around loop (Loop index size a Nil)
entered_spread None loop index size a = sym (append-nil (within (around_at loop index size) a))
entered_spread (Some around) loop index size a = sym (append-nil (within around a))

entered_loops : (around : Option Around) (index size : Name) (a : Cuts) → loops_in around (Loop index size Nil Nil) ≡ loops_in around (Loop index size a Nil)
entered_loops None index size a = refl
entered_loops (Some around) index size a = refl

pub has_loop : (old mid new : Walk) (place inner : Place) (index size : Name) (entered : Around) (body : PlainStmts) → EntersLoop old mid (option_map seen_loop place.around) index size entered
    → inner.lits.now ≡ place.lits.now → inner.conds.now ≡ place.conds.now → option_map seen_loop inner.around ≡ Some entered → is_some inner.around ≡ true → inner.stage ≡ place.stage
    → HasCut mid new inner (cut_all_at mid inner body) → HasCut old new place (cut_at old place (PlainStmt.For index size body))
has_loop old mid new place inner index size entered body enters lits conds around own stage cuts = record {
  pieces =
      inside.pieces
      ∙ ap₂ (λ x y. x ++ map (put_under inner.lits.now (seen_conds inner.conds.now)) (spread y mid.loops pieces)) (ap seen_pieces enters.pieces) around
      ∙ ap₂ (λ x y. seen_pieces old.pieces.items ++ map (put_under x (seen_conds y)) (within entered pieces)) lits conds
      ∙ ap (λ z. seen_pieces old.pieces.items ++ map (put_under place.lits.now (seen_conds place.conds.now)) z)
      (ap (λ z. within z pieces) enters.entered ∙ entered_spread (option_map seen_loop place.around) old.loops index size pieces);
  number = let e = inside.number in let f = enters.number in omega (arith, e, f);
  loops =
      inside.loops ∙ ap (λ z. mid.loops + loops_in z pieces) around ∙ add_nothing ∙ enters.loops
      ∙ ap (λ z. old.loops + z) (entered_loops (option_map seen_loop place.around) index size pieces);
}
  where
    pieces : Cuts
    pieces = cut_all body true old.number place.stage

    here : cut_all_at mid inner body ≡ pieces
    here = ap (λ z. cut_all body z mid.number inner.stage) own ∙ ap₂ (λ x y. cut_all body true x y) enters.number stage

    inside : HasCut mid new inner pieces
    inside = subst (HasCut mid new inner) here cuts

    add_nothing : mid.loops + 0 ≡ mid.loops
    add_nothing = omega arith

-- a list of statements

-- once the rest is passed, the whole is
abbrev pub Passes : Walk → Walk → Place → PlainStmts → PlainStmts → Type 0
Passes first now place rest all = (last : Walk) → HasCut now last place (cut_all_at now place rest) → HasCut first last place (cut_all_at first place all)

pub passes_on : (first old new : Walk) (place : Place) (xs : List Stmt) (i : ℕ) (x : Stmt) (all : PlainStmts) → i < length xs → x ≡ get_or xs i x → HasCut old new place (cut_at old place (seen_stmt x)) → Passes first old place (seen_stmts (drop i xs)) all
    → Passes first new place (seen_stmts (drop (i + 1) xs)) all
passes_on first old new place xs i x all h e cuts before last rest =
    let own = is_some place.around in
    let front = cut (seen_stmt x) own old.number place.stage in
    let back = subst (λ z. HasCut new last place (cut_all (seen_stmts (drop (i + 1) xs)) own z place.stage)) cuts.number rest in
    before last
    (subst (λ z. HasCut old last place (cut_all_at old place (seen_stmts z))) (sym (drop_step xs i x h e))
    (has_both old new last place front (cut_all (seen_stmts (drop (i + 1) xs)) own (old.number + tests front) place.stage) cuts back))

pub passes_all : (first now : Walk) (place : Place) (xs : List Stmt) (i : ℕ) (all : PlainStmts) → length xs ≤ i → Passes first now place (seen_stmts (drop i xs)) all → HasCut first now place (cut_all_at first place all)
passes_all first now place xs i all past passes =
    passes now (subst (HasCut now now place) (sym (at_drop_all (λ ys. cut_all_at now place (seen_stmts ys)) xs i past)) (has_none now place))
