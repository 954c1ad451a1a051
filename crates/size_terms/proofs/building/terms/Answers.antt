use Rattle.std.proofs.Common.{rules, ◌<◌, ℕ, List, length, sym, ap, subst, ◌∙◌}
use Rattle.std.specs.Prelude.{All}
use Rattle.elastic_ast.specs.Seen.{seen_decls}
use Rattle.elastic_ast.specs.Tree.{Name}
use Rattle.size_terms.specs.Ones.{ones_of}
use Rattle.size_terms.proofs.BuildLaws.{rows_given}
use Rattle.size_terms.proofs.CountedLaws.{says_assumes, ones_within}
use Rattle.size_terms.proofs.building.terms.Goals as goal

pub returns-clause-rows : goal.returns-clause-rows
returns-clause-rows c =
    rows_given c.as_slice-decls.result.now c.args.checked.now c.as_slice.result.now c.in_ok-parts.parts.rows (c.as_slice-decls.ensures ∙ c.program.ensures.here) (c.as_slice.ensures ∙ c.in_ok-symbols.ensures) c.in_ok-parts.ensures.rows

pub returns-clause-assumes : goal.returns-clause-assumes
returns-clause-assumes c =
    says_assumes (seen_decls c.args.checked.now) _ c.program.ensures.sound (returns-clause-rows c) (c.in_ok-parts.ensures.ones ∙ ap (λ z. ones_of (seen_decls z)) (c.as_slice-decls.ensures ∙ c.program.ensures.here))

pub returns-clause-short : goal.returns-clause-short
returns-clause-short c = record {
  rows = search rules;
  utility = search rules;
  ones =
      subst (λ (z : List ℕ). All (λ place. place < length c.in_ok-symbols.symbols) z) (sym c.in_ok-parts.ensures.ones)
      (subst (λ (z : List Name). All (λ place. place < length z) (ones_of (seen_decls c.as_slice-decls.result.now))) (sym c.in_ok-symbols.ensures) (ones_within (seen_decls c.as_slice-decls.result.now)));
  tables = search rules;
  few = search rules;
}
