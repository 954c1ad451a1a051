-- What a declaration breaks, part by part, and where names with two underscores are allowed.
use Rattle.std.proofs.Common.{◌≡◌, ℕ, zero, suc, ◌<◌, inl, inr, Bool, true, false, List, [], ◌∷◌, length, get_or, Option, Some, None, refl, sym, ap, ◌∙◌, true≢false, arith}
use Rattle.std.specs.Prelude.{if◌then◌else◌, slice_get}
use Rattle.elastic_ast.specs.declared.declarations.Decl.{Decl}
use Rattle.elastic_ast.specs.declared.rule.Rule.{Rule}
use Rattle.elastic_ast.specs.declared.rule.Rule.TheVariants.{Twice}
use Rattle.elastic_ast.specs.Tree.{PlainDecl}
use Rattle.elastic_ast.specs.Seen.{seen_decl, seen_decls}
use Rattle.elastic_ast.specs.Typing.Scope.{or_else}
use Rattle.elastic_ast.specs.Typing.Demand.{Demand, First, Plain, met, rule_of, first_broken}
use Rattle.elastic_ast.specs.Typing.AskedOfNames.{asks_names, top_name, top_names}
use Rattle.elastic_ast.specs.Typing.Asked.{asks_decl, is_first}
use Rattle.elastic_ast.specs.Typing.Typed.{Typed, broken_rule}
use Rattle.elastic_ast.proofs.Typing.First.{first-append}

-- the rule that a declaration breaks beside its name
abbrev pub other_broken : Bool → Bool → Option Rule → Option Rule
other_broken allow first own = if first then own else Some Twice

pub broken_parts : (allow : Bool) (before : List PlainDecl) (d : PlainDecl) (first : Bool) → first ≡ is_first before d
    → broken_rule allow before d ≡ or_else (first_broken allow (asks_names (top_names before) (top_name d))) (other_broken allow first (first_broken allow (asks_decl before d)))
unfolding broken_rule
broken_parts allow before d first e =
    first-append allow (asks_names (top_names before) (top_name d)) (First (is_first before d) ∷ asks_decl before d)
    ∙ ap (λ b. or_else (first_broken allow (asks_names (top_names before) (top_name d))) (other_broken allow b (first_broken allow (asks_decl before d)))) (sym e)

-- the element of an index
pub got : {X : Type 0} (xs : List X) (i : ℕ) (x : X) → i < length xs → x ≡ get_or xs i x → slice_get xs i ≡ Some x
got [] i x h e = absurd (omega arith)
got (y ∷ ys) zero x h e = ap Some (sym e)
got (y ∷ ys) (suc i) x h e = got ys i x (omega arith) e

pub seen_at : (ds : List Decl) (i : ℕ) (d : Decl) → i < length ds → d ≡ get_or ds i d → slice_get (seen_decls ds) i ≡ Some (seen_decl d)
seen_at [] i d h e = absurd (omega arith)
seen_at (y ∷ ys) zero d h e = ap (λ z. Some (seen_decl z)) (sym e)
seen_at (y ∷ ys) (suc i) d h e = seen_at ys i d (omega arith) e

-- what is typed is typed where reserved names are allowed too
allowed : (q : Demand) → met false q ≡ true → met true q ≡ true
allowed (Plain n) h = refl
allowed (First k) h = h
allowed _ h = h

weaker : (a b : Bool) (r : Rule) (x y : Option Rule) → (a ≡ true → b ≡ true) → (x ≡ None → y ≡ None) → (if a then x else Some r) ≡ None → (if b then y else Some r) ≡ None
weaker true true r x y p q h = q h
weaker true false r x y p q h = absurd (true≢false (sym (p refl)))
weaker false b r x y p q h = cc

pub first_allowed : (qs : List Demand) → first_broken false qs ≡ None → first_broken true qs ≡ None
first_allowed [] h = refl
first_allowed (q ∷ qs) h = weaker (met false q) (met true q) (rule_of q) (first_broken false qs) (first_broken true qs) (allowed q) (first_allowed qs) h

-- what is typed is typed with such names
pub typed_allowed : (allow : Bool) (decls : List PlainDecl) → Typed allow decls → Typed true decls
typed_allowed allow decls typed rule number (decl, here, inl (demand, there, of_rule, unmet)) = typed rule number (decl, here, inl (demand, there, of_rule, refused allow (met allow demand) refl))
  where
    refused : (allow : Bool) (b : Bool) → met allow demand ≡ b → met allow demand ≡ false
    refused true b e = unmet
    refused false true e = absurd (true≢false (sym (allowed demand e) ∙ unmet))
    refused false false e = e
typed_allowed allow decls typed rule number (decl, here, inr broken) = typed rule number (decl, here, inr broken)
