-- Header bits that were counted are those of the program.
use Rattle.std.proofs.Common.{◌≡◌, ℕ, ◌+◌, ◌<◌, true, List, [], ◌∷◌, length, get_or, Option, Some, None, refl, sym, ap, ap₂, ◌∙◌, arith}
use Rattle.std.specs.Prelude.{nat_eq, replicate, sum_by, is_some, option_map, if◌then◌else◌}
use Rattle.std.specs.Option.{option_eq}
use Rattle.std.proofs.lemmas.Bool.Decides.{nat_tests}
use Rattle.std.proofs.lemmas.List.{ext_get_or, get_or-map, get_or-replicate, length-map, length-replicate}
use Rattle.std.proofs.lemmas.List.Sums.{sum_by-cons}
use Rattle.elastic_ast.specs.declared.declarations.Field.{Field}
use Rattle.elastic_ast.specs.Tree.{Name, PlainDecl}
use Rattle.elastic_ast.specs.Typing.Scope.{same}
use Rattle.elastic_ast.specs.Typing.LookUps.{members_of, meta_fields}
use Rattle.elastic_ast.specs.Sizes.SizeSums.{symbols_of}
use Rattle.elastic_ast.specs.Units.PlainUnits.{PlainUnit}
use Rattle.elastic_ast.specs.Units.Cuts.{tests_in}
use Rattle.elastic_ast.specs.Units.Costs.{place_of_symbol}
use Rattle.elastic_ast.specs.Units.UnitsOf.{units_of, member_bits, scalar_bits, predicate_bits, fixed_bits, is_of_size, array_bits, bits_of_symbol, symbol_bits}
use Rattle.elastic_ast.proofs.Typing.SameNames.{same_if}
use Rattle.width_check.specs.Sound.{IsSound}
use Rattle.width_check.proofs.BrokenLaws.{typed_walk}
use Rattle.unit_flow.specs.declared.header.HeaderBits.{HeaderBits}
use Rattle.unit_flow.specs.HeaderCounts.{at_all, for_each, CountsFields, CountsUnits, field_under}
use Rattle.unit_flow.proofs.ApartLaws.{AreApart, behind, named_at}

sums_alike : {X : Type 0} (f g : X → ℕ) → ((x : X) → f x ≡ g x) → (xs : List X) → sum_by f xs ≡ sum_by g xs
sums_alike f g same [] = refl
sums_alike f g same (x ∷ xs) =
    let ih = sums_alike f g same xs in
    let here = same x in
    sum_by-cons f x xs ∙ omega (arith, ih, here) ∙ sym (sum_by-cons g x xs)

module _ (decls : List PlainDecl) where
  scalar_is : (field : Field) → scalar_bits field ≡ at_all field.width (field_under decls field)
  scalar_is field = by field.size
    where
      by : (size : Option Name) → (if is_some size then 0 else field.width) ≡ at_all field.width (option_map (place_of_symbol decls) size)
      by None = refl
      by (Some name) = refl

  predicate_is : (unit : PlainUnit) → predicate_bits None unit ≡ at_all (tests_in unit.work) unit.size
  predicate_is unit = by unit.size
    where
      by : (size : Option ℕ) → (if option_eq nat_eq size None then tests_in unit.work else 0) ≡ at_all (tests_in unit.work) size
      by None = refl
      by (Some number) = refl

  pub fixed_is : (none old new : HeaderBits) → none.fixed ≡ sum_by (member_bits decls) (members_of decls) → CountsFields decls none old (meta_fields decls) → CountsUnits old new (units_of decls) → new.fixed ≡ fixed_bits decls
  fixed_is none old new members fields units =
      let a = fields.fixed in
      let b = units.fixed in
      let c = sums_alike scalar_bits (λ field. at_all field.width (field_under decls field)) scalar_is (meta_fields decls) in
      let d = sums_alike (predicate_bits None) (λ unit. at_all (tests_in unit.work) unit.size) predicate_is (units_of decls) in
      omega (arith, members, a, b, c, d)

  module _ (apart : AreApart (symbols_of decls)) (place : ℕ) (h : place < length (symbols_of decls)) where
    abbrev symbol : Name
    symbol = get_or (symbols_of decls) place []

    array_is : (field : Field) → array_bits symbol field ≡ for_each place field.width (field_under decls field)
    array_is field = by field.size
      where
        by : (size : Option Name) → (if is_of_size symbol size then field.width else 0) ≡ for_each place field.width (option_map (place_of_symbol decls) size)
        by None = refl
        by (Some name) = ap (λ b. if b then field.width else 0) (sym (named_at name (symbols_of decls) place apart h))

    own_place : place_of_symbol decls symbol ≡ place
    own_place = let e : nat_eq (place_of_symbol decls symbol) place ≡ true = named_at symbol (symbols_of decls) place apart h ∙ same_if symbol symbol refl in grind (arith, nat_tests, e)

    kept_is : (unit : PlainUnit) → predicate_bits (Some (place_of_symbol decls symbol)) unit ≡ for_each place (tests_in unit.work) unit.size
    kept_is unit = by unit.size
      where
        by : (size : Option ℕ) → (if option_eq nat_eq size (Some (place_of_symbol decls symbol)) then tests_in unit.work else 0) ≡ for_each place (tests_in unit.work) size
        by None = refl
        by (Some number) = ap (λ z. if nat_eq number z then tests_in unit.work else 0) own_place

    symbol_is : bits_of_symbol decls symbol ≡ sum_by (λ field. for_each place field.width (field_under decls field)) (meta_fields decls) + sum_by (λ unit. for_each place (tests_in unit.work) unit.size) (units_of decls)
    symbol_is =
        ap₂ (λ x y. x + y) (sums_alike (array_bits symbol) (λ field. for_each place field.width (field_under decls field)) array_is (meta_fields decls))
        (sums_alike (predicate_bits (Some (place_of_symbol decls symbol))) (λ unit. for_each place (tests_in unit.work) unit.size) kept_is (units_of decls))

  pub symbols_are : (none old new : HeaderBits) → IsSound decls → none.each.items ≡ replicate (length (symbols_of decls)) 0 → CountsFields decls none old (meta_fields decls) → CountsUnits old new (units_of decls) → new.each.items ≡ symbol_bits decls
  symbols_are none old new sound zeros fields units =
      ext_get_or 0 new.each.items (symbol_bits decls) (dense ∙ sym (length-map (symbols_of decls) (bits_of_symbol decls))) (λ place h. at place (let e = dense in omega (arith, e, h)))
    where
      dense : length new.each.items ≡ length (symbols_of decls)
      dense = units.dense ∙ fields.dense ∙ ap length zeros ∙ length-replicate (length (symbols_of decls)) 0

      at : (place : ℕ) → place < length (symbols_of decls) → get_or new.each.items place 0 ≡ get_or (symbol_bits decls) place 0
      at place h =
          let none_long : length none.each.items ≡ length (symbols_of decls) = ap length zeros ∙ length-replicate (length (symbols_of decls)) 0 in
          let z : get_or none.each.items place 0 ≡ 0 = ap (λ l. get_or l place 0) zeros ∙ get_or-replicate (length (symbols_of decls)) place 0 0 h in
          let a = fields.each place (omega (arith, none_long, h)) in
          let d = fields.dense in
          let b = units.each place (omega (arith, none_long, d, h)) in
          let s = symbol_is (behind 0 [] decls (typed_walk true decls sound.typed)).apart place h in
          let g : get_or (symbol_bits decls) place 0 ≡ bits_of_symbol decls (get_or (symbols_of decls) place []) = get_or-map (bits_of_symbol decls) (symbols_of decls) place [] 0 h in
          omega (arith, z, a, b, s, g)
