-- A location is found by its hash.
use Rattle.std.proofs.Common.{◌≡◌, ◌↔◌, ◌<◌, ℕ, Bool, true, false, List, length, get_or, Option, is_some, refl, sym, ap, ◌∙◌, arith}
use Rattle.std.specs.Prelude.{IsTrue, map}
use Rattle.std.proofs.lemmas.List.{get_or-map, length-map}
use Rattle.std.proofs.lemmas.List.Folds.{list_any_at, list_any_none}
use Rattle.elastic_ast.specs.declared.flat.Location.{Location}
use Rattle.elastic_ast.specs.declared.location_ref.LocationRef.{LocationRef}
use Rattle.elastic_ast.specs.Containers.LocationRefs.{seen_ref}
use Rattle.elastic_ast.specs.Containers.LastWith.{IsPassing, Passes, AllFail}
use Rattle.elastic_ast.specs.Units.Reach.{same_location, is_among}
use Rattle.elastic_ast.proofs.SameLocations.{location_told, location_self}
use Rattle.unit_parts.specs.Gathered.{location_hash, HasHashes}

length_hashes : (hashes : List ℕ) (refs : List LocationRef) → HasHashes hashes (map seen_ref refs) → length hashes ≡ length refs
length_hashes hashes refs e = ap length e ∙ length-map (map seen_ref refs) location_hash ∙ length-map refs seen_ref

pub in_refs : (hashes : List ℕ) (refs : List LocationRef) (k : ℕ) → HasHashes hashes (map seen_ref refs) → k < length hashes → k < length refs
in_refs hashes refs k e less = omega (arith, length_hashes hashes refs e)

pub found_by_hash : {Test : ℕ → Bool → Type 0} (hashes : List ℕ) (refs : List LocationRef) (wanted : Location) (o : Option ℕ) → HasHashes hashes (map seen_ref refs) → IsPassing Test hashes (location_hash wanted) o
    → ((k : ℕ) (t : Bool) → k < length refs → Test k t → (s : LocationRef) × (s ≡ get_or refs k s) × (r : Bool) × (IsTrue r ↔ (seen_ref s ≡ wanted)) × (t ≡ r))
    → is_some o ≡ is_among (map seen_ref refs) wanted
found_by_hash hashes refs wanted o e (Passes k less passes) tells =
    let within = in_refs hashes refs k e less in
    let told = tells k true within passes in
    let here : get_or (map seen_ref refs) k (seen_ref told.0) ≡ wanted = get_or-map seen_ref refs k told.0 (seen_ref told.0) within ∙ ap seen_ref (sym told.1) ∙ told.3.0 (sym told.4) in
    sym (list_any_at (same_location wanted) (map seen_ref refs) k (seen_ref told.0) (omega (arith, length-map refs seen_ref)) (ap (same_location wanted) here ∙ location_self wanted))
found_by_hash hashes refs wanted o e (AllFail fails) tells = sym (list_any_none (same_location wanted) (map seen_ref refs) (λ k past lt. by k past lt (same_location wanted (get_or (map seen_ref refs) k past)) refl))
  where
    by : (k : ℕ) (past : Location) → k < length (map seen_ref refs) → (b : Bool) → same_location wanted (get_or (map seen_ref refs) k past) ≡ b → b ≡ false
    by k past lt false is = refl
    by k past lt true is =
        let within : k < length hashes = omega (arith, length_hashes hashes refs e, length-map refs seen_ref) in
        let inside = in_refs hashes refs k e within in
        let at : wanted ≡ get_or (map seen_ref refs) k past = location_told wanted (get_or (map seen_ref refs) k past) is in
        let hash : get_or hashes k 0 ≡ location_hash wanted = ap (λ (hs : List ℕ). get_or hs k 0) e ∙ get_or-map location_hash (map seen_ref refs) k past 0 lt ∙ ap location_hash (sym at) in
        let told = tells k false inside (fails k within hash) in
        let there : get_or (map seen_ref refs) k past ≡ seen_ref told.0 = get_or-map seen_ref refs k told.0 past inside ∙ ap seen_ref (sym told.1) in
        sym (told.4 ∙ told.3.1 (sym there ∙ sym at))
