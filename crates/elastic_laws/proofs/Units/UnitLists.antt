-- The groups of the flat list are those of the pieces with their loops.
use Rattle.std.proofs.Common.{◌≡◌, ℕ, zero, suc, ◌+◌, ◌<◌, false, ◌&&◌, List, [], ◌∷◌, ◌++◌, map, length, Option, Some, None, refl, sym, ap, ap₂, ◌∙◌, arith, append_assoc, if◌then◌else◌}
use Rattle.std.proofs.lemmas.List.{append-nil}
use Rattle.std.proofs.lemmas.Bool.{ne_eqb, eq-eqb}
use Rattle.elastic_ast.specs.Tree.{Name, PlainDecl}
use Rattle.elastic_ast.specs.Units.PlainUnits.{PlainUnit}
use Rattle.elastic_ast.specs.Units.Cuts.{Piece, Cuts, Nil, One, Loop}
use Rattle.elastic_ast.specs.Units.Costs.{place_of_symbol}
use Rattle.elastic_ast.specs.Units.UnitsOf.{Around, unit_of, inner_pieces, flat, cuts_of}
use Rattle.elastic_ast.specs.Units.Instances.{Group, same_number, new_group, with_unit, groups_from, groups, at_index, each_turn, all_instances}
use Rattle.elastic_laws.specs.Units.CutInstances.{with_numbers, cut_instances, ListsAgree, ProgramListsAgree}

abbrev looping : List PlainDecl → Around → Piece → PlainUnit
looping decls around piece = unit_of decls (Some around) piece

-- the group's loop is before loop k
abbrev IsEarlier : ℕ → Option ℕ → Type 0
IsEarlier k None = Unit {0}
IsEarlier k (Some j) = j < k

abbrev grown : Group → List (ℕ × PlainUnit) → Group
grown g us = record { loop_no = g.loop_no; size = g.size; units = g.units ++ us }

earlier_more : (k : ℕ) (t : Option ℕ) → IsEarlier k t → IsEarlier (k + 1) t
earlier_more k None h = tt
earlier_more k (Some j) h = omega (arith, h)

not_same : (k : ℕ) (t : Option ℕ) → IsEarlier k t → same_number (Some k) t ≡ false
not_same k None h = refl
not_same k (Some j) h = ne_eqb k j (λ e. omega (arith, h, e))

module _ (decls : List PlainDecl) where
  around : ℕ → Name → Name → Around
  around k i n = record { number = k; index = i; size = n }

  -- a group is closed by what comes later
  closed : (g : Group) (n : ℕ) (c : Cuts) (k : ℕ) → IsEarlier k g.loop_no → groups_from g n (flat decls c k) ≡ g ∷ groups n (flat decls c k)
  closed g n Nil k h = refl
  closed g n (One u r) k h = refl
  closed g n (Loop i s b r) k h = go (inner_pieces b) (closed g n r (k + 1) (earlier_more k g.loop_no h))
    where
      w : Around
      w = record { number = k; index = i; size = s }

      go : (us : List Piece) → groups_from g n (flat decls r (k + 1)) ≡ g ∷ groups n (flat decls r (k + 1)) → groups_from g n (map (unit_of decls (Some w)) us ++ flat decls r (k + 1)) ≡ g ∷ groups n (map (unit_of decls (Some w)) us ++ flat decls r (k + 1))
      go [] ih = ih
      go (u ∷ us) ih =
          ap (λ v. if v && same_number (Some (place_of_symbol decls s)) g.size then groups_from (with_unit g n (unit_of decls (Some w) u)) (n + 1) (map (unit_of decls (Some w)) us ++ flat decls r (k + 1)) else g ∷ groups_from (new_group n (unit_of decls (Some w) u)) (n + 1) (map (unit_of decls (Some w)) us ++ flat decls r (k + 1))) (not_same k g.loop_no h)

  -- the units of one loop go into one group
  gathered : (g : Group) (n : ℕ) (w : Around) (us : List Piece) (rest : List PlainUnit) → g.loop_no ≡ Some w.number → g.size ≡ Some (place_of_symbol decls w.size) → groups_from g n (map (unit_of decls (Some w)) us ++ rest) ≡ groups_from (grown g (with_numbers n (map (unit_of decls (Some w)) us))) (n + length us) rest
  gathered g n w [] rest e f = ap₂ (λ l m. groups_from (record { loop_no = g.loop_no; size = g.size; units = l }) m rest) (sym (append-nil g.units)) (omega arith)
  gathered g n w (u ∷ us) rest e f =
      let s : ℕ = place_of_symbol decls w.size in
      ap (λ v. if v then groups_from (with_unit g n (unit_of decls (Some w) u)) (n + 1) (map (unit_of decls (Some w)) us ++ rest) else g ∷ groups_from (new_group n (unit_of decls (Some w) u)) (n + 1) (map (unit_of decls (Some w)) us ++ rest)) (ap₂ (λ a c. same_number (Some w.number) a && same_number (Some s) c) e f ∙ ap₂ (λ a c. a && c) (eq-eqb w.number w.number refl) (eq-eqb s s refl))
      ∙ gathered (with_unit g n (unit_of decls (Some w) u)) (n + 1) w us rest e f
      ∙ ap₂ (λ l m. groups_from (record { loop_no = g.loop_no; size = g.size; units = l }) m rest) (append_assoc g.units ((n, unit_of decls (Some w) u) ∷ []) (with_numbers (n + 1) (map (unit_of decls (Some w)) us))) (omega arith)

no_turns : (m : ℕ) → each_turn m (at_index []) ≡ []
no_turns zero = refl
no_turns (suc m) = ap (λ l. l ++ []) (no_turns m)

pub lists_agree : ListsAgree
lists_agree decls Nil n k z = refl
lists_agree decls (One u r) n k z =
    ap (all_instances z) (closed decls (new_group n (unit_of decls None u)) (n + 1) r k tt)
    ∙ ap (λ l. record { number = n; index = 0; unit = unit_of decls None u } ∷ l) (lists_agree decls r (n + 1) k z)
lists_agree decls (Loop i s b r) n k z = go (inner_pieces b) (λ m. lists_agree decls r m (k + 1) z)
  where
    w : Around
    w = record { number = k; index = i; size = s }

    go : (us : List Piece) → ((m : ℕ) → all_instances z (groups m (flat decls r (k + 1))) ≡ cut_instances decls r m (k + 1) z) → all_instances z (groups n (map (unit_of decls (Some w)) us ++ flat decls r (k + 1))) ≡ each_turn (z (place_of_symbol decls s)) (at_index (with_numbers n (map (unit_of decls (Some w)) us))) ++ cut_instances decls r (n + length us) (k + 1) z
    go [] ih = let e : n ≡ n + 0 = omega arith in ih n ∙ ap (λ m. cut_instances decls r m (k + 1) z) e ∙ ap (λ l. l ++ cut_instances decls r (n + 0) (k + 1) z) (sym (no_turns (z (place_of_symbol decls s))))
    go (u ∷ us) ih =
        let e : n + 1 + length us ≡ n + suc (length us) = omega arith in
        ap (all_instances z) (gathered decls (new_group n (unit_of decls (Some w) u)) (n + 1) w us (flat decls r (k + 1)) refl refl ∙ closed decls (grown (new_group n (unit_of decls (Some w) u)) (with_numbers (n + 1) (map (unit_of decls (Some w)) us))) (n + 1 + length us) r (k + 1) (omega arith))
        ∙ ap (λ l. each_turn (z (place_of_symbol decls s)) (at_index (with_numbers n (map (unit_of decls (Some w)) (u ∷ us)))) ++ l) (ih (n + 1 + length us) ∙ ap (λ m. cut_instances decls r m (k + 1) z) e)

pub program_lists_agree : ProgramListsAgree
program_lists_agree decls z = lists_agree decls (cuts_of decls) 0 0 z
