use Rattle.std.proofs.Common.{rules}
use Rattle.spelling.proofs.Taking.{takes_both}
use Rattle.p4_parser.proofs.parameters.of_both.Goals as goal

pub returns : goal.returns
returns c =
    record {
      taken = takes_both c.in_ok-fixed_name.ensures.taken (takes_both c.in_ok-fixed_name-2.ensures.taken (takes_both c.in_ok-sign.ensures.taken (takes_both c.in_ok-reserved.ensures.taken (takes_both c.in_ok-fixed_name-3.ensures.taken (takes_both c.in_ok-fixed_name-4.ensures.taken (takes_both c.in_ok-sign-2.ensures.taken (takes_both c.in_ok-reserved-2.ensures.taken (takes_both c.in_ok-fixed_name-5.ensures.taken c.in_ok-fixed_name-6.ensures.taken))))))));
      only = search rules;
      shallow = tt;
    }
