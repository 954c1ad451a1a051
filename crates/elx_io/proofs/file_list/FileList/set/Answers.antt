use Rattle.std.proofs.Common.{◌≡◌, [], ◌∷◌, ◌++◌, Some, None, sym, ◌∙◌, ap}
use Rattle.std.proofs.Math.ListN.{set}
use Rattle.std.specs.FinMap as map
use Rattle.elx_io.specs.Files.{files_of}
use Rattle.elx_io.specs.Places.{place_in}
use Rattle.elx_io.proofs.Places.{set_placed, push_unplaced}
use Rattle.elx_io.proofs.file_list.FileList.set.Goals as goal

pub returns-in-Some-clause-ok : goal.returns-in-Some-clause-ok
returns-in-Some-clause-ok c =
    let place : place_in c.self.inside.kept.items c.args.name.now ≡ Some c.in-Some.place = ap (λ es. place_in es c.args.name.now) (sym c.as_slice.ensures.value) ∙ sym c.place_of.ensures ∙ c.in-Some.is in
    ap (λ e. files_of (set c.self.inside.kept.items c.in-Some.place (e.0, c.from_vec-bytes.result))) c.index_mut.ensures.value
    ∙ set_placed _ _ _ _ c.index_mut.result.now place
    ∙ ap (λ files. map.insert files c.args.name.now c.from_vec-bytes.result) c.self.view_is
    ∙ ap (map.insert c.args.self.now c.args.name.now) (c.from_vec-bytes.ensures ∙ c.in_ok-from_slice.ensures.items)

pub returns-in_ok-push-in-None-clause-ok : goal.returns-in_ok-push-in-None-clause-ok
returns-in_ok-push-in-None-clause-ok c =
    let place : place_in c.self.inside.kept.items c.args.name.now ≡ None = ap (λ es. place_in es c.args.name.now) (sym c.as_slice.ensures.value) ∙ sym c.place_of.ensures ∙ c.in-None.is in
    let name : c.in_ok-name-in-None.name ≡ c.args.name.now = c.in_ok-name-in-None.ensures ∙ c.as_bytes.ensures.value in
    let items : c.push.new.self.items ≡ c.self.inside.kept.items ++ (c.in_ok-name-in-None.name, c.from_vec-bytes.result) ∷ [] = c.in_ok-push-in-None.ensures.items in
    ap files_of items
    ∙ ap (λ key. files_of (c.self.inside.kept.items ++ (key, c.from_vec-bytes.result) ∷ [])) name
    ∙ push_unplaced _ _ _ place
    ∙ ap (λ files. map.insert files c.args.name.now c.from_vec-bytes.result) c.self.view_is
    ∙ ap (map.insert c.args.self.now c.args.name.now) (c.from_vec-bytes.ensures ∙ c.in_ok-from_slice.ensures.items)
