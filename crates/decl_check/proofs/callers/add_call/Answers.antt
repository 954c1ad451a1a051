use Rattle.std.proofs.Common.{sym, subst}
use Rattle.decl_check.specs.CallerSizes.{around_names, HasCall}
use Rattle.decl_check.proofs.CallerLaws.{on_map, nothing, no_such, called_at}
use Rattle.decl_check.proofs.callers.add_call.Goals as goal

pub returns-in-Some-place : goal.returns-in-Some-place
returns-in-Some-place c =
    on_map _ c.push_at.ensures
    (λ is. subst (λ around. HasCall c.args.names.now around c.args.called.now c.args.sizes.now c.push_at.new.sizes) (sym c.in-Some.is)
    (called_at c.args.names.now c.args.called.now c.in-Some-place.ensures.distinct c.args.sizes.now c.push_at.new.sizes c.in-Some-place.place c.in-Some.size c.in-Some-place.ensures.place c.requires is))

pub returns-in-None-place : goal.returns-in-None-place
returns-in-None-place c =
    nothing c.args.sizes.now (λ place name at. no_such c.args.names.now c.args.called.now c.in-None-place.ensures.distinct (around_names c.args.around) place name c.in-None-place.ensures.place at)
