-- The run of the listed instances is the run of the pieces with their loops.
use Rattle.std.proofs.Common.{◌≡◌, ℕ, zero, suc, ◌+◌, ◌≤◌, not, Bool, true, false, List, [], ◌∷◌, ◌++◌, map, length, get_or, Some, None, refl, sym, ap, ◌∙◌, subst, arith, if◌then◌else◌}
use Rattle.std.proofs.lemmas.Bool.{true≢false}
use Rattle.std.specs.List.{position_or_len}
use Rattle.elastic_ast.specs.Tree.{Name, PlainDecl}
use Rattle.elastic_ast.specs.Typing.Scope.{same}
use Rattle.elastic_ast.specs.Sizes.SizeSums.{symbols_of, size_of}
use Rattle.elastic_ast.specs.Packets.MainParts.{body_of}
use Rattle.elastic_ast.specs.Meaning.Memory.{Memory, over}
use Rattle.elastic_ast.specs.Meaning.StatementMeaning.{turns, statements_meaning}
use Rattle.elastic_ast.specs.Units.PlainUnits.{PlainUnit}
use Rattle.elastic_ast.specs.Units.Cuts.{Cuts, Nil, One, Loop}
use Rattle.elastic_ast.specs.Units.Costs.{place_of_symbol}
use Rattle.elastic_ast.specs.Units.UnitsOf.{Around, unit_of, inner_pieces, cuts_of}
use Rattle.elastic_ast.specs.Units.Instances.{Instance, nth_size, at_index, each_turn}
use Rattle.elastic_laws.specs.Units.CutInstances.{with_numbers, cut_instances}
use Rattle.elastic_ast.specs.Units.Work.{does, after_instance, after_instances}
use Rattle.elastic_laws.specs.Units.CutMeaning.{Same, run_cuts, InstancesKeepTheMeaning}
use Rattle.elastic_laws.proofs.Units.UnitLists.{program_lists_agree}
use Rattle.elastic_laws.proofs.Units.KeptMeaning.{Flat, flat_all, all_same}

-- the size by a symbol's number is the size by its name
get_none : (n : ℕ) → get_or {A = ℕ} [] n 0 ≡ 0
get_none n = refl

size_by_number : (symbols : List Name) (sizes : List ℕ) (name : Name) → length sizes ≤ length symbols → get_or sizes (position_or_len (same name) symbols) 0 ≡ size_of symbols sizes name
size_by_number [] [] name h = refl
size_by_number [] (z ∷ zs) name h = absurd (omega (arith, h))
size_by_number (s ∷ ss) [] name h = get_none (position_or_len (same name) (s ∷ ss))
size_by_number (s ∷ ss) (z ∷ zs) name h = go (same name s) (size_by_number ss zs name (omega (arith, h)))
  where
    go : (b : Bool) → get_or zs (position_or_len (same name) ss) 0 ≡ size_of ss zs name → get_or (z ∷ zs) (if not b then 1 + position_or_len (same name) ss else 0) 0 ≡ (if b then z else size_of ss zs name)
    go true ih = refl
    go false ih =
        let e : 1 + position_or_len (same name) ss ≡ suc (position_or_len (same name) ss) = omega arith in
        ap (λ m. get_or (z ∷ zs) m 0) e ∙ ih

module _ (decls : List PlainDecl) (sizes : List ℕ) where
  run_both : (xs ys : List Instance) (s : Memory) → after_instances (xs ++ ys) decls sizes s ≡ after_instances ys decls sizes (after_instances xs decls sizes s)
  run_both [] ys s = refl
  run_both (x ∷ xs) ys s = run_both xs ys (after_instance x decls sizes s)

  -- the pieces of a loop at one index
  run_pieces : (b : Cuts) → Flat true b → (w : Around) (n j : ℕ) (s : Memory) → after_instances (at_index (with_numbers n (map (unit_of decls (Some w)) (inner_pieces b))) j) decls sizes s ≡ run_cuts b decls sizes (Some j) s
  run_pieces Nil h w n j s = refl
  run_pieces (One u r) h w n j s = run_pieces r h w (n + 1) j (over (does u.lits u.conds u.work decls sizes (Some j) s) s)
  run_pieces (Loop i y c r) h w n j s = absurd (true≢false h.0)

  run_turns : (us : List (ℕ × PlainUnit)) (f : ℕ → Memory → Memory) → ((j : ℕ) (s : Memory) → after_instances (at_index us j) decls sizes s ≡ f j s) → (m : ℕ) (s : Memory) → after_instances (each_turn m (at_index us)) decls sizes s ≡ turns m f s
  run_turns us f h zero s = refl
  run_turns us f h (suc m) s =
      run_both (each_turn m (at_index us)) (at_index us m) s
      ∙ h m (after_instances (each_turn m (at_index us)) decls sizes s)
      ∙ ap (f m) (run_turns us f h m s)

  run_instances : length sizes ≤ length (symbols_of decls) → (cuts : Cuts) (n k : ℕ) → Flat false cuts → (s : Memory) → after_instances (cut_instances decls cuts n k (nth_size sizes)) decls sizes s ≡ run_cuts cuts decls sizes None s
  run_instances le Nil n k h s = refl
  run_instances le (One u r) n k h s = run_instances le r (n + 1) k h (over (does u.lits u.conds u.work decls sizes None s) s)
  run_instances le (Loop i y b r) n k h s =
      run_both (each_turn (nth_size sizes (place_of_symbol decls y)) (at_index us)) (cut_instances decls r (n + length (inner_pieces b)) (k + 1) (nth_size sizes)) s
      ∙ run_instances le r (n + length (inner_pieces b)) (k + 1) h.2 (after_instances (each_turn (nth_size sizes (place_of_symbol decls y)) (at_index us)) decls sizes s)
      ∙ ap (run_cuts r decls sizes None)
      (run_turns us turn (run_pieces b h.1 w n) (nth_size sizes (place_of_symbol decls y)) s
      ∙ ap (λ m. turns m turn s) (size_by_number (symbols_of decls) sizes y le))
    where
      w : Around
      w = record { number = k; index = i; size = y }

      us : List (ℕ × PlainUnit)
      us = with_numbers n (map (unit_of decls (Some w)) (inner_pieces b))

      turn : ℕ → Memory → Memory
      turn j t = run_cuts b decls sizes (Some j) t

pub instances_keep_the_meaning : InstancesKeepTheMeaning
instances_keep_the_meaning decls sizes le unnested s t a =
    subst (λ m. Same m (statements_meaning (body_of decls) decls sizes None t))
    (sym (ap (λ l. after_instances l decls sizes s) (program_lists_agree decls (nth_size sizes)) ∙ run_instances decls sizes le (cuts_of decls) 0 0 (flat_all (body_of decls) false 0 None unnested) s))
    (all_same decls sizes (body_of decls) None 0 None s t unnested a)
