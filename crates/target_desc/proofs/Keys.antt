-- The keys of a table, as a list of texts and as the members of the table that they stand in.
use Rattle.std.proofs.Common.{◌≡◌, List, [], ◌∷◌, ◌&&◌, String, Global, string_bytes, refl, ap}
use Rattle.std.specs.List.{list_all}
use Rattle.std.specs.Map.{keys_of}
use Rattle.toml.specs.View.{members_view}
use Rattle.toml.specs.declared.value.Value.{Value}
use Rattle.target_desc.specs.TargetText.{has_no_other_key, is_key}

pub list_all-is_key : (es : List (String Global × Value)) → list_all (λ key. is_key (string_bytes key)) (keys_of es) ≡ has_no_other_key (members_view es)
list_all-is_key [] = refl
list_all-is_key (e ∷ es) = ap (λ rest. is_key (string_bytes e.0) && rest) (list_all-is_key es)
