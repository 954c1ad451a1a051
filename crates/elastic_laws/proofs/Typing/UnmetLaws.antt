-- All demands of a program that aren't met: a program breaks one rule alone where all of these are of the rule.
use Rattle.std.proofs.Common.{◌≡◌, ℕ, zero, suc, inl, inr, Bool, true, false, List, [], ◌∷◌, ◌++◌, take, Some, None, sym, ap, subst, ◌∙◌, true≢false, arith, append_assoc}
use Rattle.std.proofs.lemmas.List.{append-nil}
use Rattle.std.specs.Prelude.{if◌then◌else◌, slice_get, Contains}
use Rattle.elastic_ast.specs.declared.rule.Rule.{Rule}
use Rattle.elastic_ast.specs.Tree.{PlainDecl}
use Rattle.elastic_ast.specs.Typing.Demand.{Demand, met, rule_of}
unfoldable pub use Rattle.elastic_ast.specs.Typing.Demand.{fixed_names}
unfoldable pub use Rattle.elastic_ast.specs.Typing.LookUps.{std_fields}
use Rattle.elastic_ast.specs.Typing.Asked.{asked}
use Rattle.elastic_ast.specs.Typing.Typed.{BreaksWhole, Breaks, Typed, first_of}
unfoldable pub use Rattle.elastic_ast.specs.Typing.Typed.{broken_rule}
use Rattle.elastic_laws.specs.Examples.WorkedTyping.{BreaksOnly}
use Rattle.elastic_ast.proofs.Typing.TypedLaws.{walk_names, walk_passes}
use Rattle.elastic_laws.proofs.Typing.WholeLaws.{WholeBut, whole_but, whole_is_met, whole_met, meets_whole}

-- the rules of the demands that aren't met
abbrev pub unmet_of : Bool → List Demand → List Rule
unmet_of allow [] = []
unmet_of allow (q ∷ qs) = if met allow q then unmet_of allow qs else rule_of q ∷ unmet_of allow qs

abbrev pub unmet : Bool → List PlainDecl → List PlainDecl → List Rule
unmet allow before [] = []
unmet allow before (d ∷ ds) = unmet_of allow (asked before d) ++ unmet allow (before ++ d ∷ []) ds

abbrev pub EachIs : Rule → List Rule → Type 0
EachIs rule [] = Unit {0}
EachIs rule (r ∷ rs) = (r ≡ rule) × EachIs rule rs

each_front : (rule : Rule) (xs ys : List Rule) → EachIs rule (xs ++ ys) → EachIs rule xs
each_front rule [] ys h = tt
each_front rule (x ∷ xs) ys h = (h.0, each_front rule xs ys h.1)

each_back : (rule : Rule) (xs ys : List Rule) → EachIs rule (xs ++ ys) → EachIs rule ys
each_back rule [] ys h = h
each_back rule (x ∷ xs) ys h = each_back rule xs ys h.1

each_here : (rule : Rule) (b : Bool) (r : Rule) (rs : List Rule) → b ≡ false → EachIs rule (if b then rs else r ∷ rs) → r ≡ rule
each_here rule false r rs e h = h.0
each_here rule true r rs e h = absurd (true≢false e)

each_later : (rule : Rule) (b : Bool) (r : Rule) (rs : List Rule) → EachIs rule (if b then rs else r ∷ rs) → EachIs rule rs
each_later rule false r rs h = h.1
each_later rule true r rs h = h

each_unmet : (allow : Bool) (rule : Rule) (qs : List Demand) → EachIs rule (unmet_of allow qs) → (q : Demand) → Contains qs q → met allow q ≡ false → rule_of q ≡ rule
each_unmet allow rule [] h q c m = absurd (omega arith)
each_unmet allow rule (x ∷ xs) h q (zero, k, e) m = ap rule_of (sym e) ∙ each_here rule (met allow x) (rule_of x) (unmet_of allow xs) (ap (met allow) e ∙ m) h
each_unmet allow rule (x ∷ xs) h q (suc i, k, e) m = each_unmet allow rule xs (each_later rule (met allow x) (rule_of x) (unmet_of allow xs) h) q (i, omega arith, e) m

each_at : (allow : Bool) (rule : Rule) (before ds : List PlainDecl) → EachIs rule (unmet allow before ds) → (d : ℕ) (x : PlainDecl) → slice_get ds d ≡ Some x → EachIs rule (unmet_of allow (asked (before ++ take d ds) x))
each_at allow rule before [] h d x e = cc
each_at allow rule before (y ∷ ys) h zero x e =
    let s : y ≡ x = cc in
    subst (λ z. EachIs rule (unmet_of allow (asked z x))) (sym (append-nil before))
    (subst (λ z. EachIs rule (unmet_of allow (asked before z))) s (each_front rule (unmet_of allow (asked before y)) (unmet allow (before ++ y ∷ []) ys) h))
each_at allow rule before (y ∷ ys) h (suc d) x e =
    subst (λ z. EachIs rule (unmet_of allow (asked z x))) (append_assoc before (y ∷ []) (take d ys))
    (each_at allow rule (before ++ y ∷ []) ys (each_back rule (unmet_of allow (asked before y)) (unmet allow (before ++ y ∷ []) ys) h) d x e)

only : (ds : List PlainDecl) (rule : Rule) → EachIs rule (unmet false [] ds) → WholeBut ds rule → (other : Rule) (at : ℕ) → Breaks false ds other at → other ≡ rule
only ds rule h w other at (x, e, inl (q, there, of_rule, m)) = sym of_rule ∙ each_unmet false rule (asked (take at ds) x) (each_at false rule [] ds h at x e) q there m
only ds rule h w other at (x, e, inr broken) = whole_but ds rule w other at x e broken

-- a program that asks too much of one rule alone
pub breaks_only : (ds : List PlainDecl) (rule : Rule) (d : ℕ) → first_of (broken_rule false) 0 [] ds ≡ Some (rule, d) → EachIs rule (unmet false [] ds) → whole_met ds ≡ true → BreaksOnly ds rule d
breaks_only ds rule d first h whole = (walk_names false ds rule d first, only ds rule h (whole_is_met ds whole rule))

-- a program that breaks one rule of the whole program alone
pub whole_only : (ds : List PlainDecl) (rule : Rule) (d : ℕ) (x : PlainDecl) → slice_get ds d ≡ Some x → BreaksWhole ds rule x → EachIs rule (unmet false [] ds) → WholeBut ds rule → BreaksOnly ds rule d
whole_only ds rule d x e broken h w = ((x, e, inr broken), only ds rule h w)

-- a typed program
pub is_typed : (allow : Bool) (ds : List PlainDecl) → first_of (broken_rule allow) 0 [] ds ≡ None → whole_met ds ≡ true → Typed allow ds
is_typed allow ds h whole = walk_passes allow ds h (meets_whole ds whole)
