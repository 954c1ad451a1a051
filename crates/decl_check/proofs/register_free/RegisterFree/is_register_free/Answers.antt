use Rattle.std.proofs.Common.{◌≡◌, ℕ, false, slice_get, get_or, Some, None, subst}
use Rattle.std.proofs.lemmas.Option.{slice_get-get_or}
use Rattle.decl_check.specs.RegisterFree.{IsRegisterFreeUnder}
use Rattle.decl_check.proofs.RegisterFreeLaws.{told_within, free_under}
use Rattle.decl_check.proofs.register_free.RegisterFree.is_register_free.Goals as goal

pub returns-in-None : goal.returns-in-None
returns-in-None c =
    subst (λ locals. IsRegisterFreeUnder locals c.args.name.now _) c.self.view_is
    (free_under c.args.name.now c.self.inside.names.now c.self.inside.locals.now c.self.inside.free.now c.self.invariant None _ c.in-None.ensures.distinct c.in-None.ensures.place (λ at e. cc))

pub returns-in-Some : goal.returns-in-Some
returns-in-Some c =
    let place = c.in-Some.place in
    let names = c.self.inside.names.now in
    let locals = c.self.inside.locals.now in
    let free = c.self.inside.free.now in
    let here : slice_get free place ≡ Some (get_or free place false) = slice_get-get_or free place false (told_within c.args.name.now names locals free c.self.invariant place c.in-Some.ensures.place) in
    subst (λ locals. IsRegisterFreeUnder locals c.args.name.now (get_or free place false)) c.self.view_is
    (free_under c.args.name.now names locals free c.self.invariant (Some place) (get_or free place false) c.in-Some.ensures.distinct c.in-Some.ensures.place
    (λ at e. let same_place : place ≡ at = cc in subst (λ (k : ℕ). slice_get free k ≡ Some (get_or free place false)) same_place here))
