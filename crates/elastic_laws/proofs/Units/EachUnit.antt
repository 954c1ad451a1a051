-- What holds of each unit of pieces holds of each unit and each instance of a program.
use Rattle.std.proofs.Common.{ℕ, zero, suc, ◌+◌, List, [], ◌∷◌, ◌++◌, map, length, Option, Some, None, sym, subst, All, arith}
use Rattle.std.proofs.lemmas.List.Elements.{All-cons}
use Rattle.elastic_ast.specs.Tree.{PlainDecl}
use Rattle.elastic_ast.specs.Units.PlainUnits.{PlainUnit}
use Rattle.elastic_ast.specs.Units.Cuts.{Piece, Cuts, Nil, One, Loop}
use Rattle.elastic_ast.specs.Units.Costs.{place_of_symbol}
use Rattle.elastic_ast.specs.Units.UnitsOf.{Around, unit_of, inner_pieces, flat, units_of, cuts_of}
use Rattle.elastic_ast.specs.Units.Instances.{Instance, at_index, each_turn, instances}
use Rattle.elastic_laws.specs.Units.CutInstances.{with_numbers, cut_instances}
use Rattle.elastic_laws.proofs.Units.UnitLists.{program_lists_agree}

-- each element
abbrev pub AllBy : {A : Type 0} → (A → Type 0) → List A → Type 0
AllBy P [] = Unit {0}
AllBy P (x ∷ xs) = P x × AllBy P xs

pub all_by : {A : Type 0} (P : A → Type 0) (xs : List A) → AllBy P xs → All P xs
all_by P [] h = λ k d l. absurd (omega (arith, l))
all_by P (x ∷ xs) h = All-cons P x xs h.0 (all_by P xs h.1)

pub all_more : {A : Type 0} (P Q : A → Type 0) → ((x : A) → P x → Q x) → (xs : List A) → AllBy P xs → AllBy Q xs
all_more P Q f [] h = tt
all_more P Q f (x ∷ xs) h = (f x h.0, all_more P Q f xs h.1)

pub all_both : {A : Type 0} (P : A → Type 0) (xs ys : List A) → AllBy P xs → AllBy P ys → AllBy P (xs ++ ys)
all_both P [] ys h g = g
all_both P (x ∷ xs) ys h g = (h.0, all_both P xs ys h.1 g)

module _ (decls : List PlainDecl) where
  pub each_flat : (Q : PlainUnit → Type 0) → ((around : Option Around) (piece : Piece) → Q (unit_of decls around piece)) → (cuts : Cuts) (k : ℕ) → AllBy Q (flat decls cuts k)
  each_flat Q f Nil k = tt
  each_flat Q f (One u r) k = (f None u, each_flat Q f r k)
  each_flat Q f (Loop i s b r) k = all_both Q (map (unit_of decls (Some w)) (inner_pieces b)) (flat decls r (k + 1)) (go (inner_pieces b)) (each_flat Q f r (k + 1))
    where
      w : Around
      w = record { number = k; index = i; size = s }

      go : (us : List Piece) → AllBy Q (map (unit_of decls (Some w)) us)
      go [] = tt
      go (u ∷ us) = (f (Some w) u, go us)

  each_turned : (P : Instance → Type 0) (f : ℕ → List Instance) → ((i : ℕ) → AllBy P (f i)) → (m : ℕ) → AllBy P (each_turn m f)
  each_turned P f h zero = tt
  each_turned P f h (suc m) = all_both P (each_turn m f) (f m) (each_turned P f h m) (h m)

  each_cut : (P : Instance → Type 0) → ((n : ℕ) (piece : Piece) → P (record { number = n; index = 0; unit = unit_of decls None piece })) → ((n i : ℕ) (w : Around) (piece : Piece) → P (record { number = n; index = i; unit = unit_of decls (Some w) piece })) → (cuts : Cuts) (n k : ℕ) (z : ℕ → ℕ) → AllBy P (cut_instances decls cuts n k z)
  each_cut P f g Nil n k z = tt
  each_cut P f g (One u r) n k z = (f n u, each_cut P f g r (n + 1) k z)
  each_cut P f g (Loop i s b r) n k z =
      all_both P (each_turn (z (place_of_symbol decls s)) (at_index (with_numbers n (map (unit_of decls (Some w)) (inner_pieces b))))) (cut_instances decls r (n + length (inner_pieces b)) (k + 1) z)
      (each_turned P (at_index (with_numbers n (map (unit_of decls (Some w)) (inner_pieces b)))) (λ j. go j (inner_pieces b) n) (z (place_of_symbol decls s)))
      (each_cut P f g r (n + length (inner_pieces b)) (k + 1) z)
    where
      w : Around
      w = record { number = k; index = i; size = s }

      go : (j : ℕ) (us : List Piece) (m : ℕ) → AllBy P (at_index (with_numbers m (map (unit_of decls (Some w)) us)) j)
      go j [] m = tt
      go j (u ∷ us) m = (g m j w u, go j us (m + 1))

  pub each_unit : (Q : PlainUnit → Type 0) → ((around : Option Around) (piece : Piece) → Q (unit_of decls around piece)) → AllBy Q (units_of decls)
  each_unit Q f = each_flat Q f (cuts_of decls) 0

  pub each_instance : (P : Instance → Type 0) → ((n : ℕ) (piece : Piece) → P (record { number = n; index = 0; unit = unit_of decls None piece })) → ((n i : ℕ) (w : Around) (piece : Piece) → P (record { number = n; index = i; unit = unit_of decls (Some w) piece })) → (z : ℕ → ℕ) → AllBy P (instances (units_of decls) z)
  each_instance P f g z = subst (AllBy P) (sym (program_lists_agree decls z)) (each_cut P f g (cuts_of decls) 0 0 z)
