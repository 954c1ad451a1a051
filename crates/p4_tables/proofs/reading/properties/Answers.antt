use Rattle.spelling.proofs.Refusals.{refused_up_to}
use Rattle.spelling.proofs.ByParts.{part_deep}
use Rattle.spelling.specs.Readers.{ClosesNext}
use Rattle.std.proofs.Common.{[], ◌∷◌, ◌≢◌, All, ap, refl, subst, sym, ◌∙◌}
use Rattle.std.proofs.lemmas.List.{map-append}
use Rattle.std.proofs.lemmas.List.Quantifiers.{all_pairs_push}
use Rattle.spelling.proofs.Only.{after, not_there, wants, fact_of, of_where}
use Rattle.spelling.proofs.Taking.{may, each_more, may_empty}
use Rattle.spelling.proofs.Whole.{left_more, none_left, one_left, left_all}
use Rattle.p4_tables.specs.Seen.{seen_part, seen_parts}
use Rattle.p4_tables.specs.Tables.{SpellsProperty, kind_of}
use Rattle.p4_tables.proofs.TableSpelling.{apart_before, property_no_end, may_where, no_pairs}
use Rattle.spelling.proofs.Balance.{stays_each}
use Rattle.p4_tables.proofs.TablesWithin.{property_stays}
use Rattle.p4_tables.proofs.reading.properties.Goals as goal

pub parts-init : goal.parts-init
parts-init c = rw c.new-parts.ensures record { taken = may_where no_pairs may_empty; only = λ more all rest m at. left_all (SpellsProperty more) (of_where m) }

pub parts-preserved : goal.parts-preserved
parts-preserved c =
    let grown = ap seen_parts c.in_ok-keep.ensures.ok ∙ map-append seen_part c.parts.parts (c.in_ok-part.part ∷ []) in
    let taken = c.parts.invariant.taken in
    let others = subst (λ parts. All (λ one. kind_of one ≢ kind_of (seen_part c.in_ok-part.part)) (seen_parts parts)) c.as_slice.ensures c.in_ok-part.ensures.other in
    record {
      taken = rw grown (may_where (all_pairs_push (λ one other. kind_of one ≢ kind_of other) (seen_parts c.parts.parts) (seen_part c.in_ok-part.part) (fact_of taken) others) (each_more (SpellsProperty c.args.depth) (seen_parts c.parts.parts) (seen_part c.in_ok-part.part) (of_where taken) (may c.in_ok-part.ensures.taken)));
      only = λ more all rest m at.
          let n = one_left (c.parts.invariant.only more all rest m at) (λ e. not_there c.parts-test.ensures.1 (subst ClosesNext (sym e) at)) in
          let apart = apart_before (seen_parts c.parts.parts) n.one n.later all n.whole (fact_of m) in
          let r = after n.ahead (λ b f s. c.in_ok-part.ensures.only more n.one b f (subst (λ parts. All (λ one. kind_of one ≢ kind_of n.one) (seen_parts parts)) (sym c.as_slice.ensures) apart)) in
          left_more n grown r.0 r.1;
    }

pub returns-in_err-part : goal.returns-in_err-part
returns-in_err-part c =
    refused_up_to _ c.from_residual.ensures.1
    (λ more all rest m at.
    let n = one_left (c.parts.invariant.only more all rest m at) (λ e. not_there c.parts-test.ensures.1 (subst ClosesNext (sym e) at)) in
    let apart = apart_before (seen_parts c.parts.parts) n.one n.later all n.whole (fact_of m) in
    wants n.ahead (λ b f s. c.in_err-part.ensures.only more n.one b f (subst (λ parts. All (λ one. kind_of one ≢ kind_of n.one) (seen_parts parts)) (sym c.as_slice.ensures) apart)))
    (part_deep _ _ (stays_each (SpellsProperty c.args.depth) (property_stays c.args.depth) (seen_parts c.parts.parts)) (of_where c.parts.invariant.taken) c.in_err-part.ensures.deep)

pub returns : goal.returns
returns c =
    record {
      taken = c.parts.invariant.taken;
      only = λ more all rest m at. none_left (c.parts.invariant.only more all rest m at) (λ property later f. property_no_end more property f (c.parts-test.ensures.0 refl));
      deep = tt;
    }
