use Rattle.std.proofs.Common.{◌≡◌, Some, None, sym, ◌∙◌, ap}
use Rattle.std.specs.FinMap as map
use Rattle.elx_io.specs.Places.{place_in}
use Rattle.elx_io.proofs.Places.{get_placed, get_unplaced}
use Rattle.elx_io.proofs.file_list.FileList.find.Goals as goal

pub returns-in_err-place : goal.returns-in_err-place
returns-in_err-place c =
    let place : place_in c.self.inside.kept.items c.args.name.now ≡ None = ap (λ es. place_in es c.args.name.now) (sym c.as_slice.ensures.value) ∙ sym c.place_of.ensures ∙ c.in_err-place.was in
    rw c.from_residual.ensures (sym (get_unplaced _ _ place) ∙ ap (λ files. map.get files c.args.name.now) c.self.view_is)

pub returns : goal.returns
returns c =
    let place : place_in c.self.inside.kept.items c.args.name.now ≡ Some c.in_ok-place.place = ap (λ es. place_in es c.args.name.now) (sym c.as_slice.ensures.value) ∙ sym c.place_of.ensures ∙ c.in_ok-place.was in
    ap Some (c.as_slice-2.ensures ∙ ap (λ e. e.1) c.index.ensures) ∙ sym (get_placed _ _ _ c.index.result.now place) ∙ ap (λ files. map.get files c.args.name.now) c.self.view_is
