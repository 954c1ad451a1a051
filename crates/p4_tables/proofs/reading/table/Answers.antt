use Rattle.std.proofs.Common.{ap, codes, sym, ◌∙◌}
use Rattle.spelling.proofs.Only.{after_one, named_same, wants_name, wants_one}
use Rattle.spelling.proofs.Balance.{stays_both, stays_named, stays_reserved}
use Rattle.spelling.proofs.Taking.{may, takes_both}
use Rattle.p4_tables.proofs.TableSpelling.{table_words, takes_table}
use Rattle.spelling.proofs.ByParts.{part_deep, refused_within}
use Rattle.spelling.proofs.Bounds.{refused_deep}
use Rattle.p4_tables.specs.Tables.{table_with}
use Rattle.spelling.proofs.Limits.{want_or}
use Rattle.p4_tables.specs.Seen.{seen_parts}
use Rattle.p4_tables.proofs.reading.table.Goals as goal

pub returns-in_err-parts : goal.returns-in_err-parts
returns-in_err-parts c =
    refused_within _ c.from_residual-in_err-parts.ensures.1
    (λ more table rest m. c.in_err-parts.ensures.only more m.spelled.properties rest (after_one (after_one (table_words more table m) c.in_ok-reserved.ensures.taken) c.in_ok-name.ensures.taken))
    (part_deep _ _ (stays_both (stays_reserved (codes "table")) (stays_named c.in_ok-name.name)) (may (takes_both c.in_ok-reserved.ensures.taken c.in_ok-name.ensures.taken)) c.in_err-parts.ensures.deep)

pub returns-in_err-name : goal.returns-in_err-name
returns-in_err-name c =
    refused_within _ c.from_residual-in_err-name.ensures.1
    (λ more table rest m. want_or _ _ (wants_name _ _ (after_one (table_words more table m) c.in_ok-reserved.ensures.taken) c.in_err-name.ensures.refused))
    (refused_deep _ _ _ _ c.in_err-name.ensures.refused)

pub returns-in_err-reserved : goal.returns-in_err-reserved
returns-in_err-reserved c =
    refused_within _ c.from_residual.ensures.1 (λ more table rest m. want_or _ _ (wants_one _ _ (table_words more table m) c.in_err-reserved.ensures.refused)) (refused_deep _ _ _ _ c.in_err-reserved.ensures.refused)

pub returns : goal.returns
returns c =
    record {
      taken = takes_table c.args.depth c.in_ok-name.name (seen_parts c.in_ok-parts.parts) _ c.table_of.ensures
          (takes_both c.in_ok-reserved.ensures.taken (takes_both c.in_ok-name.ensures.taken c.in_ok-parts.ensures.taken));
      only = λ more table rest m.
          let m1 = after_one (table_words more table m) c.in_ok-reserved.ensures.taken in
          let r = c.in_ok-parts.ensures.only more m.spelled.properties rest (after_one m1 c.in_ok-name.ensures.taken) in
          (c.table_of.ensures ∙ ap (table_with c.in_ok-name.name) r.0 ∙ ap (λ name. table_with name m.spelled.properties) (named_same m1 c.in_ok-name.ensures.taken) ∙ sym m.spelled.has_them, r.1);
      deep = tt;
    }
