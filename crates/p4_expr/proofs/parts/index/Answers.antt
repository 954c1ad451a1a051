use Rattle.std.proofs.Common.{ap, refl, sym, ◌∙◌, Some}
use Rattle.spelling.proofs.Taking.{may, may_empty}
use Rattle.p4_expr.proofs.IndexEnds.{index_past, read_exactly, refused_to_index}
use Rattle.p4_expr.proofs.PartSpelling.{index_missing, index_there}
use Rattle.p4_expr.proofs.parts.index.Goals as goal

pub returns-then-not-is_at_index : goal.returns-then-not-is_at_index
returns-then-not-is_at_index c =
    read_exactly _ may_empty (λ more index rest m. index_missing more index m (c.if-not-is_at_index.ensures.none refl))

pub returns-in_err-name : goal.returns-in_err-name
returns-in_err-name c =
    refused_to_index _ c.from_residual.ensures.1
    (λ more index rest m ends.
    let s = index_there more index m ends (c.if-not-is_at_index.ensures.at refl) (c.if-not-is_at_index.ensures.not_number refl) in
    c.in_err-name.ensures.only more s.name rest s.ahead)
    c.in_err-name.ensures.deep

pub returns : goal.returns
returns c =
    record {
      taken = may c.in_ok-name.ensures.taken;
      only = λ more index rest m ends.
          let s = index_there more index m ends (c.if-not-is_at_index.ensures.at refl) (c.if-not-is_at_index.ensures.not_number refl) in
          let r = c.in_ok-name.ensures.only more s.name rest s.ahead in
          (ap Some r.0 ∙ sym s.is, r.1);
      longest = λ more index rest m. index_past more index m c.in_ok-name.ensures.taken.fewer (λ name n. (c.in_ok-name.ensures.only more name rest n).1);
      deep = tt;
    }
