use Rattle.spelling.proofs.Only.{not_there, same_end}
use Rattle.p4_parser.proofs.StateSpelling.{default_there, set_there}
use Rattle.std.proofs.Common.{inl, inr, refl}
use Rattle.std.proofs.lemmas.Result.{IfOk-weaker}
use Rattle.spelling.proofs.Taking.{takes_as}
use Rattle.p4_parser.proofs.cases.case_set.Goals as goal

pub returns-then-is_at_reserved : goal.returns-then-is_at_reserved
returns-then-is_at_reserved c =
    record {
      taken = takes_as (λ ws h. inr (refl, h)) c.in_ok-reserved.ensures.taken;
      only = λ set rest m ends. let d = default_there set m (c.if-is_at_reserved.ensures.0 refl) in (d.0, same_end d.1 c.in_ok-reserved.ensures.taken);
      shallow = tt;
    }

pub returns : goal.returns
returns c =
    record {
      taken = IfOk-weaker c.set.result _ _ (λ set t. takes_as (λ ws. inl) t) c.set.ensures.taken;
      only = λ set rest m ends. c.set.ensures.only set rest (set_there set m (not_there c.if-is_at_reserved.ensures.1)) ends;
      shallow = c.set.ensures.shallow;
    }
