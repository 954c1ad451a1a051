-- What a walk over the declarations knows behind one more of them.
use Rattle.std.proofs.lemmas.Option.{slice_get_within}
use Rattle.std.proofs.Common.{◌≡◌, ℕ, ◌+◌, true, List, [], ◌∷◌, ◌++◌, Some, sym, ap, subst, ◌∙◌, arith}
use Rattle.std.specs.Prelude.{slice_get}
use Rattle.elastic_ast.specs.declared.declarations.Decl.{Decl}
use Rattle.elastic_ast.specs.Tree.{PlainDecl}
use Rattle.elastic_ast.specs.Seen.{seen_decl}
use Rattle.elastic_ast.specs.Typing.Asked.{decl_kind}
use Rattle.elastic_ast.specs.Typing.AskedOfNames.{top_name, top_names}
use Rattle.program_names.specs.Distinct.{are_new, are_distinct}
use Rattle.program_names.specs.TopNames.{AreNames, HasNext, KeepsNames}
use Rattle.program_names.specs.declared.names.Names.{Names}
use Rattle.width_check.specs.declared.kinds.Kinds.{Kinds}
use Rattle.width_check.specs.Kinds.{with_kind}
use Rattle.expr_types.specs.Scoped.{before_of}
use Rattle.width_check.specs.Walked.{HasPassed}
use Rattle.width_check.proofs.KindLaws.{kinds_step}
use Rattle.expr_types.proofs.ScopeLaws.{take_next, distinct_next}

pub next_passed : (place : List Decl × ℕ) (decl : Decl) (kinds more : Kinds) (old new : Names) → slice_get place.0 place.1 ≡ Some decl → are_new (top_names (before_of place)) (top_name (seen_decl decl)) ≡ true → HasNext old new decl → more ≡ with_kind (decl_kind (seen_decl decl)) kinds
    → HasPassed place kinds old → HasPassed (place.0, place.1 + 1) more new
next_passed place decl kinds more old new here fresh next is known = record {
  named = record {
    are = subst (λ (z : List PlainDecl). AreNames new z) (sym taken) (next (before_of place) known.named.are);
    distinct = ap (λ z. are_distinct (top_names z)) taken ∙ distinct_next (before_of place) (seen_decl decl) fresh known.named.distinct;
    within = let h = slice_get_within place.0 place.1 decl here in omega (arith, h);
  };
  once = kinds_step kinds more (before_of place) (seen_decl decl) (before_of (place.0, place.1 + 1)) is taken known.once;
}
  where
    taken : before_of (place.0, place.1 + 1) ≡ before_of place ++ seen_decl decl ∷ []
    taken = take_next place.0 place.1 decl here

-- for want of memory it stays
pub kept_passed : (place : List Decl × ℕ) (kinds : Kinds) (old new : Names) → KeepsNames old new → HasPassed place kinds old → HasPassed place kinds new
kept_passed place kinds old new keeps known = record {
  named = record { are = keeps (before_of place) known.named.are; distinct = known.named.distinct; within = known.named.within };
  once = known.once;
}
