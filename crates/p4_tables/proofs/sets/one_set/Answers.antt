use Rattle.spelling.proofs.Refusals.{refused_before}
use Rattle.p4_tables.proofs.SetSpelling.{one_set_there}
use Rattle.std.proofs.Common.{[], ap, sym, ◌∙◌, ◌∷◌}
use Rattle.p4_tables.proofs.sets.one_set.Goals as goal

pub returns-in_err-set : goal.returns-in_err-set
returns-in_err-set c =
    refused_before _ c.from_residual.ensures.1 (λ sets rest m ends. let o = one_set_there sets m in c.in_err-set.ensures.only o.set rest o.ahead ends) c.in_err-set.ensures.shallow

pub returns : goal.returns
returns c =
    rw (c.in_ok-keep.ensures.ok, c.new-sets.ensures)
    record {
      taken = c.in_ok-set.ensures.taken;
      only = λ sets rest m ends.
          let o = one_set_there sets m in
          let r = c.in_ok-set.ensures.only o.set rest o.ahead ends in
          (ap (λ set. set ∷ []) r.0 ∙ sym o.is, r.1);
      shallow = tt;
    }
