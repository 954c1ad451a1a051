-- What a refusal names is broken there, and no rule is broken in what is typed.
use Rattle.std.proofs.Common.{◌≡◌, ℕ, ◌⊎◌, inl, inr, Bool, List, [], take, Option, Some, None, refl}
use Rattle.elastic_ast.specs.declared.rule.Rule.{Rule}
use Rattle.elastic_ast.specs.Tree.{PlainDecl}
use Rattle.elastic_ast.specs.Typing.Demand.{first_broken}
use Rattle.elastic_ast.specs.Typing.Asked.{asked}
use Rattle.elastic_ast.specs.Typing.Typed.{AsksTooMuch, BreaksWhole, Breaks, Typed, broken_rule, first_of}
use Rattle.elastic_ast.proofs.Typing.TypedLaws.{Unmet, first_unmet, walk_names}
use Rattle.width_check.specs.Broken.{BreaksFirst, BreaksWholeFirst}

-- the named rule is broken in the named declaration
pub breaks_of : (allow : Bool) (decls : List PlainDecl) (rule : Rule) (number : ℕ) → BreaksFirst allow decls rule number → Breaks allow decls rule number
unfolding broken_rule
breaks_of allow decls rule number b = (b.decl, b.here, by b.broken)
  where
    by : (first_broken allow (asked (take number decls) b.decl) ≡ Some rule) ⊎ ((first_broken allow (asked (take number decls) b.decl) ≡ None) × BreaksWholeFirst decls rule b.decl)
        → AsksTooMuch allow (take number decls) rule b.decl ⊎ BreaksWhole decls rule b.decl
    by (inl e) = let m : Unmet allow (asked (take number decls) b.decl) rule = first_unmet allow (asked (take number decls) b.decl) rule e in inl (m.demand, m.there, m.of_rule, m.unmet)
    by (inr w) = inr w.1.broken

-- the walk over the declarations of what is typed names none
pub typed_walk : (allow : Bool) (decls : List PlainDecl) → Typed allow decls → first_of (broken_rule allow) 0 [] decls ≡ None
typed_walk allow decls typed = by (first_of (broken_rule allow) 0 [] decls) refl
  where
    by : (o : Option (Rule × ℕ)) → first_of (broken_rule allow) 0 [] decls ≡ o → first_of (broken_rule allow) 0 [] decls ≡ None
    by None e = e
    by (Some found) e = absurd (typed found.0 found.1 (walk_names allow decls found.0 found.1 e))
