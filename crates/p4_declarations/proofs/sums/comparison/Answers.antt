use Rattle.p4_declarations.proofs.Signs.{relation_follows}
use Rattle.p4_declarations.proofs.SumSpelling.{same_comp}
use Rattle.spelling.proofs.Only.{after, wants}
use Rattle.spelling.proofs.Refusals.{refused_before}
use Rattle.spelling.proofs.Taking.{takes_both}
use Rattle.p4_declarations.proofs.sums.comparison.Goals as goal

pub returns-in_err-left : goal.returns-in_err-left
returns-in_err-left c =
    refused_before _ c.from_residual.ensures.1 (λ comp rest m ends. wants m (λ b f s. c.in_err-left.ensures.only comp.left b f (relation_follows comp.rel s))) c.in_err-left.ensures.shallow

pub returns-in_err-rel : goal.returns-in_err-rel
returns-in_err-rel c =
    refused_before _ c.from_residual-in_err-rel.ensures.1
    (λ comp rest m ends.
    let m1 = after m (λ b f s. c.in_ok-left.ensures.only comp.left b f (relation_follows comp.rel s)) in
    wants m1.1 (λ b f s. c.in_err-rel.ensures.only comp.rel b f))
    c.in_err-rel.ensures.shallow

pub returns-in_err-right : goal.returns-in_err-right
returns-in_err-right c =
    refused_before _ c.from_residual-in_err-right.ensures.1
    (λ comp rest m ends.
    let m1 = after m (λ b f s. c.in_ok-left.ensures.only comp.left b f (relation_follows comp.rel s)) in
    let m2 = after m1.1 (λ b f s. c.in_ok-rel.ensures.only comp.rel b f) in
    c.in_err-right.ensures.only comp.right rest m2.1 ends)
    c.in_err-right.ensures.shallow

pub returns : goal.returns
returns c =
    record {
      taken = takes_both c.in_ok-left.ensures.taken (takes_both c.in_ok-rel.ensures.taken c.in_ok-right.ensures.taken);
      only = λ comp rest m ends.
          let m1 = after m (λ b f s. c.in_ok-left.ensures.only comp.left b f (relation_follows comp.rel s)) in
          let m2 = after m1.1 (λ b f s. c.in_ok-rel.ensures.only comp.rel b f) in
          let m3 = c.in_ok-right.ensures.only comp.right rest m2.1 ends in
          (same_comp _ comp m1.0 m2.0 m3.0, m3.1);
      shallow = tt;
    }
