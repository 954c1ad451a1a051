use Rattle.std.proofs.Common.{◌≡◌, Bool, false, List, Option, Some, None, refl, ap, ◌∙◌, is_some}
use Rattle.std.specs.Prelude.{option_map, unwrap_or}
use Rattle.elastic_ast.specs.Tree.{Name, PlainDecl}
use Rattle.elastic_ast.specs.Seen.{seen_decls}
use Rattle.elastic_ast.specs.Typing.LookUps.{register_size, register_size_in}
use Rattle.elastic_ast.specs.Typing.NamedRegisters.{is_array}
use Rattle.program_names.specs.FirstNamed.{entry_value}
use Rattle.register_uses.specs.HasUses.{array_shown}
use Rattle.program_names.proofs.FirstLaws.{found_map}
use Rattle.register_uses.proofs.program.RegisterUses.is_array.Goals as goal

-- the size of a register, as `is_array` reads it
abbrev has_size : Option (Option Name) → Bool
has_size None = false
has_size (Some size) = is_some size

size_is : (size : Option (Option Name)) → unwrap_or (option_map is_some size) false ≡ has_size size
size_is None = refl
size_is (Some size) = refl

sized_is : (o : Option Bool) → unwrap_or o false ≡ unwrap_or (option_map array_shown o) false
sized_is None = refl
sized_is (Some array) = refl

array_is : (decls : List PlainDecl) (name : Name) (o : Option Bool) → option_map array_shown o ≡ option_map is_some (register_size decls name) → unwrap_or o false ≡ is_array decls name
array_is decls name o h = sized_is o ∙ ap (λ z. unwrap_or z false) h ∙ size_is (register_size decls name)

pub returns : goal.returns
returns c =
    let entries = c.self.inside.arrays.entries in
    let name = c.args.register.now in
    c.unwrap_or.ensures ∙ ap (λ z. unwrap_or z false) (c.copied.ensures ∙ c.get.ensures.value ∙ ap (entry_value entries) c.as_slice.ensures)
    ∙ array_is (seen_decls c.self.inside.decls.now) name (entry_value entries name) (c.self.invariant.arrays_first name ∙ found_map is_some (register_size_in name) (seen_decls c.self.inside.decls.now))
    ∙ ap (λ z. is_array (seen_decls z) name) c.self.view_is
