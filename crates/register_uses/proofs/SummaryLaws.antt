-- What two lists of registers come down to together, and what a summary tells of its list.
use Rattle.std.proofs.Common.{◌≡◌, ◌≢◌, Bool, true, false, ◌||◌, List, [], ◌∷◌, ◌++◌, refl, sym, ap, ◌∙◌, true≢false}
use Rattle.std.proofs.Math.Bool.{or-false}
use Rattle.std.proofs.lemmas.Bool.{or_left, or_right}
use Rattle.std.specs.Prelude.{if◌then◌else◌}
use Rattle.elastic_ast.specs.Tree.{Name}
use Rattle.elastic_ast.specs.Typing.Scope.{same, among}
use Rattle.elastic_ast.proofs.Typing.SameNames.{same_self, same_told}
use Rattle.register_uses.specs.Summaries.{PlainSummary, both, summed}

only_both : (name other third : Name) (a b : Bool) → same name other ≡ a → same other third ≡ b
    → both (both (PlainSummary.Only name) (PlainSummary.Only other)) (PlainSummary.Only third) ≡ both (PlainSummary.Only name) (both (PlainSummary.Only other) (PlainSummary.Only third))
only_both name other third true true p q =
    ap (λ z. both (if z then PlainSummary.Only name else PlainSummary.Several) (PlainSummary.Only third)) p
    ∙ ap (λ z. if z then PlainSummary.Only name else PlainSummary.Several) (ap (λ z. same z third) (same_told name other p) ∙ q ∙ sym p)
    ∙ sym (ap (λ z. both (PlainSummary.Only name) (if z then PlainSummary.Only other else PlainSummary.Several)) q)
only_both name other third true false p q =
    ap (λ z. both (if z then PlainSummary.Only name else PlainSummary.Several) (PlainSummary.Only third)) p
    ∙ ap (λ z. if z then PlainSummary.Only name else PlainSummary.Several) (ap (λ z. same z third) (same_told name other p) ∙ q)
    ∙ sym (ap (λ z. both (PlainSummary.Only name) (if z then PlainSummary.Only other else PlainSummary.Several)) q)
only_both name other third false true p q =
    ap (λ z. both (if z then PlainSummary.Only name else PlainSummary.Several) (PlainSummary.Only third)) p
    ∙ sym (ap (λ z. if z then PlainSummary.Only name else PlainSummary.Several) p)
    ∙ sym (ap (λ z. both (PlainSummary.Only name) (if z then PlainSummary.Only other else PlainSummary.Several)) q)
only_both name other third false false p q =
    ap (λ z. both (if z then PlainSummary.Only name else PlainSummary.Several) (PlainSummary.Only third)) p
    ∙ sym (ap (λ z. both (PlainSummary.Only name) (if z then PlainSummary.Only other else PlainSummary.Several)) q)

pub both_nothing : (a : PlainSummary) → both a PlainSummary.Nothing ≡ a
both_nothing PlainSummary.Nothing = refl
both_nothing (PlainSummary.Only name) = refl
both_nothing PlainSummary.Several = refl

both_several : (a : PlainSummary) → both a PlainSummary.Several ≡ PlainSummary.Several
both_several PlainSummary.Nothing = refl
both_several (PlainSummary.Only name) = refl
both_several PlainSummary.Several = refl

pub both-assoc : (a b c : PlainSummary) → both (both a b) c ≡ both a (both b c)
both-assoc PlainSummary.Nothing b c = refl
both-assoc PlainSummary.Several b c = refl
both-assoc (PlainSummary.Only name) PlainSummary.Nothing c = refl
both-assoc (PlainSummary.Only name) PlainSummary.Several c = refl
both-assoc (PlainSummary.Only name) (PlainSummary.Only other) PlainSummary.Nothing = both_nothing (both (PlainSummary.Only name) (PlainSummary.Only other))
both-assoc (PlainSummary.Only name) (PlainSummary.Only other) PlainSummary.Several = both_several (both (PlainSummary.Only name) (PlainSummary.Only other))
both-assoc (PlainSummary.Only name) (PlainSummary.Only other) (PlainSummary.Only third) = only_both name other third (same name other) (same other third) refl refl

pub summed-append : (xs ys : List Name) → summed (xs ++ ys) ≡ both (summed xs) (summed ys)
summed-append [] ys = refl
summed-append (x ∷ xs) ys = ap (both (PlainSummary.Only x)) (summed-append xs ys) ∙ sym (both-assoc (PlainSummary.Only x) (summed xs) (summed ys))

-- one part more of a list that is summed up
pub sum_step : (xs rest all : List Name) (before new whole : PlainSummary) → new ≡ both before (summed xs) → all ≡ xs ++ rest → both before (summed all) ≡ whole → both new (summed rest) ≡ whole
sum_step xs rest all before new whole h e inv =
    ap (λ z. both z (summed rest)) h ∙ both-assoc before (summed xs) (summed rest) ∙ ap (both before) (sym (ap summed e ∙ summed-append xs rest)) ∙ inv

-- what a summary tells of the list
abbrev pub Tells : List Name → PlainSummary → Type 0
Tells names PlainSummary.Nothing = (register : Name) → among names register ≡ false
Tells names (PlainSummary.Only name) = (register : Name) → among names register ≡ same register name
Tells names PlainSummary.Several = (register : Name) → (second : Name) × (among names second ≡ true) × (second ≢ register)

or_same : (b : Bool) → (b || b) ≡ b
or_same true = refl
or_same false = refl

tells_more : (name : Name) (names : List Name) (s : PlainSummary) → Tells names s → Tells (name ∷ names) (both (PlainSummary.Only name) s)
tells_more name names PlainSummary.Nothing h = λ register. ap (λ z. same register name || z) (h register) ∙ or-false (same register name)
tells_more name names (PlainSummary.Only other) h = by (same name other) refl
  where
    apart : (register : Name) (b : Bool) → same name other ≡ false → same register name ≡ b → (second : Name) × (among (name ∷ names) second ≡ true) × (second ≢ register)
    apart register true e p = (
      other,
      or_right (same other name) (among names other) (h other ∙ same_self other),
      λ q. true≢false (sym (same_self name) ∙ ap (same name) (sym (same_told register name p) ∙ sym q) ∙ e),
    )
    apart register false e p = (name, or_left (same name name) (among names name) (same_self name), λ q. true≢false (sym (same_self name) ∙ ap (λ z. same z name) q ∙ p))

    by : (b : Bool) → same name other ≡ b → Tells (name ∷ names) (if b then PlainSummary.Only name else PlainSummary.Several)
    by true e = λ register. ap (λ z. same register name || z) (h register ∙ ap (same register) (sym (same_told name other e))) ∙ or_same (same register name)
    by false e = λ register. apart register (same register name) e refl
tells_more name names PlainSummary.Several h = λ register. ((h register).0, or_right (same (h register).0 name) (among names (h register).0) (h register).1, (h register).2)

pub tells : (names : List Name) → Tells names (summed names)
tells [] = λ register. refl
tells (name ∷ names) = tells_more name names (summed names) (tells names)
