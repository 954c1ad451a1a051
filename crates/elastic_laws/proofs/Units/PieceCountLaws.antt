-- How many pieces there are is told by the text.
use Rattle.std.proofs.Common.{◌≡◌, ℕ, suc, ◌+◌, Bool, true, false, Option, Some, None, is_some, refl, sym, ap, ap₂, ◌∙◌}
use Rattle.elastic_ast.specs.declared.flat.Lit.{Lit}
use Rattle.elastic_ast.specs.Tree.{PlainExpr, PlainStmt, PlainStmts}
use Rattle.elastic_ast.specs.Typing.Scope.{or_else}
use Rattle.elastic_ast.specs.Units.Cuts.{Piece, Cuts, Nil, One, Loop, append, tests, literal, with_lit, single, branched, guarded, cut, cut_all}
use Rattle.elastic_laws.specs.Units.PieceCounts.{HowMany, NoPiece, OnePiece, More, together, conditioned, count, count_all, is_single, OneIsCounted}

abbrev known : Cuts → HowMany
known Nil = NoPiece
known (One u r) = together OnePiece (known r)
known (Loop i y b r) = More

plus_none : (a : HowMany) → together a NoPiece ≡ a
plus_none NoPiece = refl
plus_none OnePiece = refl
plus_none More = refl

plus_plus : (a b c : HowMany) → together (together a b) c ≡ together a (together b c)
plus_plus NoPiece b c = refl
plus_plus OnePiece NoPiece c = refl
plus_plus OnePiece OnePiece NoPiece = refl
plus_plus OnePiece OnePiece OnePiece = refl
plus_plus OnePiece OnePiece More = refl
plus_plus OnePiece More c = refl
plus_plus More b c = refl

known_append : (a b : Cuts) → known (append a b) ≡ together (known a) (known b)
known_append Nil b = refl
known_append (One u r) b = ap (together OnePiece) (known_append r b) ∙ sym (plus_plus OnePiece (known r) (known b))
known_append (Loop i y c r) b = refl

known_lit : (l : Lit) (a : Cuts) → known (with_lit l a) ≡ known a
known_lit l Nil = refl
known_lit l (One u r) = ap (together OnePiece) (known_lit l r)
known_lit l (Loop i y b r) = refl

known_branched : (c : PlainExpr) (own : Bool) (k : ℕ) (g : Option ℕ) (a b : Cuts) → known (branched c own k g a b) ≡ together OnePiece (together (known a) (known b))
known_branched c own k g a b =
    ap (together OnePiece) (known_append (with_lit (literal k own true) a) (with_lit (literal k own false) b) ∙ ap₂ together (known_lit (literal k own true) a) (known_lit (literal k own false) b))

known_single : (cs : Cuts) → is_some (single cs) ≡ is_single (known cs)
known_single Nil = refl
known_single (One u Nil) = refl
known_single (One u (One v r)) = go (known r)
  where
    go : (a : HowMany) → false ≡ is_single (together OnePiece (together OnePiece a))
    go NoPiece = refl
    go OnePiece = refl
    go More = refl
known_single (One u (Loop i y b r)) = refl
known_single (Loop i y b r) = refl

known_guarded : (o : Option Piece) (m : HowMany) (c : PlainExpr) (own : Bool) (k : ℕ) (g : Option ℕ) (a : Cuts) → is_some o ≡ is_single m → known a ≡ m → known (guarded o c own k g a) ≡ conditioned m
known_guarded (Some u) OnePiece c own k g a e f = refl
known_guarded (Some u) NoPiece c own k g a e f = cc
known_guarded (Some u) More c own k g a e f = cc
known_guarded None OnePiece c own k g a e f = cc
known_guarded None NoPiece c own k g a e f = known_branched c own k g a Nil ∙ ap (λ m. together OnePiece (together m NoPiece)) f
known_guarded None More c own k g a e f = known_branched c own k g a Nil ∙ ap (λ m. together OnePiece (together m NoPiece)) f

mutual
  counted : (x : PlainStmt) (own : Bool) (k : ℕ) (g : Option ℕ) → known (cut x own k g) ≡ count x
  counted (PlainStmt.Block o b) own k g = counted_all b own k (or_else o g)
  counted (PlainStmt.If c b) own k g =
      known_guarded (single (cut_all b own k g)) (count_all b) c own k g (cut_all b own (suc k) g) (known_single (cut_all b own k g) ∙ ap is_single (counted_all b own k g)) (counted_all b own (suc k) g)
  counted (PlainStmt.IfElse c b d) own k g =
      let k' : ℕ = suc k + tests (cut_all b own (suc k) g) in
      known_branched c own k g (cut_all b own (suc k) g) (cut_all d own k' g) ∙ ap₂ (λ m n. together OnePiece (together m n)) (counted_all b own (suc k) g) (counted_all d own k' g)
  counted other own k g = refl

  counted_all : (b : PlainStmts) (own : Bool) (k : ℕ) (g : Option ℕ) → known (cut_all b own k g) ≡ count_all b
  counted_all PlainStmts.nil own k g = refl
  counted_all (PlainStmts.cons x r) own k g =
      known_append (cut x own k g) (cut_all r own (k + tests (cut x own k g)) g)
      ∙ ap₂ together (counted x own k g) (counted_all r own (k + tests (cut x own k g)) g)

pub one_is_counted : OneIsCounted
one_is_counted b own k g = known_single (cut_all b own k g) ∙ ap is_single (counted_all b own k g)
