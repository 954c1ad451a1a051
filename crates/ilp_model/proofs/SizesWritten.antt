-- The rows that are written by numbers are those over named variables: those of sizes, loops and keys, and the objective.
use Rattle.std.proofs.Common.{◌≡◌, ℕ, ℤ, zero, suc, pos, neg_ℤ, ◌+◌, ◌-◌, ◌<◌, ◌≤◌, ◌-ℤ◌, Bool, true, false, cond, List, [], ◌∷◌, ◌++◌, map, filter, refl, ap, ap₂, ◌∙◌, arith}
use Rattle.std.specs.Prelude.{flat_map}
use Rattle.std.proofs.lemmas.List.{map-append, append-nil}
use Rattle.std.proofs.lemmas.List.Elements.{filter-append}
use Rattle.elastic_ast.specs.declared.flat.Linear.{Linear}
use Rattle.elastic_ast.specs.Units.Instances.{each_turn}
use Rattle.unroll_bound.specs.Counts.{numbers_below}
use Rattle.ilp_model.specs.declared.step_keys.ReachedKey.{ReachedKey}
use Rattle.ilp_model.specs.SeenKeys.{seen_key, seen_keys}
use Rattle.ilp_model.specs.StepKeys.{StepKey}
use Rattle.ilp_model.specs.Variables.{Variable}
use Rattle.ilp_model.specs.Variables.Variable.{Size, Exists, Reached}
use Rattle.ilp_model.specs.NamedRows.{NamedPart, part, row}
use Rattle.ilp_model.specs.Rows.{size_parts, falling_row, loop_rows, key_rows}
use Rattle.ilp_model.specs.Objective.{rise_of}
use Rattle.ilp_model.specs.IpOf.{parts_of, row_of}
use Rattle.ilp_model.specs.Written.{written, written_run, written_sizes, written_row, written_term, written_one, written_falling, written_loop, written_marked, written_keys, written_rise}
use Rattle.ilp_model.proofs.Bridging.{one_part, first_part, parts_append, numbered_parts, sizes_parts}
use Rattle.ilp_model.proofs.Places.{flat_map-append}

module _ (num : Variable → ℕ) where
  -- one part, and those behind it
  part_written : (by : ℤ) (v : Variable) (n : ℕ) (rest : List NamedPart) → num v ≡ n
      → parts_of num (part by v ∷ rest) ≡ written n by ++ parts_of num rest
  part_written by v n rest e = first_part num by v rest ∙ ap (λ k. written k by ++ parts_of num rest) e

  last_written : (by : ℤ) (v : Variable) (n : ℕ) → num v ≡ n → parts_of num (part by v ∷ []) ≡ written n by
  last_written by v n e = one_part num by v ∙ ap (λ k. written k by) e

  -- two parts
  both_written : (by other : ℤ) (v w : Variable) (n m : ℕ) → num v ≡ n → num w ≡ m
      → parts_of num (part by v ∷ part other w ∷ []) ≡ written n by ++ written m other
  both_written by other v w n m e f = part_written by v n (part other w ∷ []) e ∙ ap (λ z. written n by ++ z) (last_written other w m f)

  -- the sizes
  pub terms_written : ((s : ℕ) → num (Size s) ≡ s) → (ts : List Linear)
      → map (row_of num) (map (λ linear. row (size_parts 0 linear.by) linear.most) ts) ≡ map written_term ts
  terms_written h [] = refl
  terms_written h (t ∷ ts) = ap₂ (λ z w. written_row z t.most ∷ w) (sizes_parts num t.by 0 h) (terms_written h ts)

  pub ones_written : ((s : ℕ) → num (Size s) ≡ s) → (ones : List ℕ)
      → map (row_of num) (map (λ s. row (part (neg_ℤ (pos 1)) (Size s) ∷ []) (neg_ℤ (pos 1))) ones) ≡ map written_one ones
  ones_written h [] = refl
  ones_written h (s ∷ ones) =
      ap₂ (λ z w. written_row z (neg_ℤ (pos 1)) ∷ w) (last_written (neg_ℤ (pos 1)) (Size s) s (h s)) (ones_written h ones)

  -- a loop
  falling_written : (s first : ℕ) → ((t : ℕ) → num (Exists s t) ≡ first + t) → (n : ℕ)
      → map (row_of num) (map (falling_row s) (numbers_below n)) ≡ each_turn n (λ index. written_falling (first + index) ∷ [])
  falling_written s first h zero = refl
  falling_written s first h (suc n) =
      ap (map (row_of num)) (map-append (falling_row s) (numbers_below n) (n ∷ []))
      ∙ map-append (row_of num) (map (falling_row s) (numbers_below n)) (falling_row s n ∷ [])
      ∙ ap₂ (λ z w. z ++ written_row w (pos 0) ∷ []) (falling_written s first h n)
      (both_written (neg_ℤ (pos 1)) (pos 1) (Exists s n) (Exists s (n + 1)) (first + n) (first + n + 1) (h n) (h (n + 1) ∙ (let e : first + (n + 1) ≡ first + n + 1 = omega arith in e)))

  pub loop_written : (b : ℕ → ℕ) (s first : ℕ) → num (Size s) ≡ s → ((t : ℕ) → num (Exists s t) ≡ first + t)
      → map (row_of num) (loop_rows b s) ≡ written_loop s first (b s)
  loop_written b s first e h =
      ap₂ (λ z w. written_row z (pos 0) ∷ w) (side (pos 1) (neg_ℤ (pos 1)))
      (ap₂ (λ z w. written_row z (pos 0) ∷ w) (side (neg_ℤ (pos 1)) (pos 1)) (falling_written s first h (b s - 1)))
    where
      side : (by other : ℤ)
          → parts_of num (part by (Size s) ∷ map (λ t. part other (Exists s t)) (numbers_below (b s))) ≡ written s by ++ written_run first (b s) other
      side by other =
          part_written by (Size s) s (map (λ t. part other (Exists s t)) (numbers_below (b s))) e
          ∙ ap (λ z. written s by ++ z) (numbered_parts num (λ t. other) (Exists s) first (b s) h)

  -- the loops of the symbols that are marked
  pub loops_written : (b loops : ℕ → ℕ) (looped marked : ℕ → Bool) (count : ℕ) → ((s : ℕ) → num (Size s) ≡ s)
      → ((s : ℕ) → s < count → (t : ℕ) → num (Exists s t) ≡ loops s + t) → ((s : ℕ) → s < count → marked s ≡ looped s)
      → (n : ℕ) → n ≤ count → map (row_of num) (flat_map (loop_rows b) (filter looped (numbers_below n))) ≡ each_turn n (written_marked marked loops b)
  loops_written b loops looped marked count e h same zero l = refl
  loops_written b loops looped marked count e h same (suc n) l =
      ap (λ z. map (row_of num) (flat_map (loop_rows b) z)) (filter-append looped (numbers_below n) (n ∷ []))
      ∙ ap (map (row_of num)) (flat_map-append (loop_rows b) (filter looped (numbers_below n)) (filter looped (n ∷ [])))
      ∙ map-append (row_of num) (flat_map (loop_rows b) (filter looped (numbers_below n))) (flat_map (loop_rows b) (filter looped (n ∷ [])))
      ∙ ap₂ (λ z w. z ++ w) (loops_written b loops looped marked count e h same n (omega arith)) (one (looped n) (marked n) (same n (omega arith)))
    where
      one : (u v : Bool) → v ≡ u
          → map (row_of num) (flat_map (loop_rows b) (cond u (n ∷ []) [])) ≡ cond v (written_loop n (loops n) (b n)) []
      one true true q = ap (map (row_of num)) (append-nil (loop_rows b n)) ∙ loop_written b n (loops n) (e n) (h n (omega arith))
      one false false q = refl
      one true false q = cc
      one false true q = cc

  -- keys
  key_written : (b : ℕ → ℕ) (first : ℕ) (key : ReachedKey) → num (Size key.symbol) ≡ key.symbol
      → num (Reached (seen_key key)) ≡ first + key.place → map (row_of num) (key_rows b (seen_key key)) ≡ written_keys first b key
  key_written b first key e f =
      ap₂ (λ z w. written_row z (pos 0) ∷ written_row w (pos key.key -ℤ pos 1) ∷ [])
      (both_written (neg_ℤ (pos 1)) (pos key.key) (Size key.symbol) (Reached (seen_key key)) key.symbol (first + key.place) e f)
      (both_written (pos 1) (neg_ℤ (pos (b key.symbol - key.key + 1))) (Size key.symbol) (Reached (seen_key key)) key.symbol (first + key.place) e f)

  pub keys_written : (b : ℕ → ℕ) (first : ℕ) → ((s : ℕ) → num (Size s) ≡ s) → ((key : StepKey) → num (Reached key) ≡ first + key.place)
      → (keys : List ReachedKey) → map (row_of num) (flat_map (key_rows b) (seen_keys keys)) ≡ flat_map (written_keys first b) keys
  keys_written b first e f [] = refl
  keys_written b first e f (key ∷ keys) =
      map-append (row_of num) (key_rows b (seen_key key)) (flat_map (key_rows b) (seen_keys keys))
      ∙ ap₂ (λ z w. z ++ w) (key_written b first key (e key.symbol) (f (seen_key key))) (keys_written b first e f keys)

  -- the objective
  rises_written : (first : ℕ) → ((key : StepKey) → num (Reached key) ≡ first + key.place) → (keys : List ReachedKey)
      → parts_of num (map (λ key. part (rise_of key) (Reached key)) (seen_keys keys)) ≡ flat_map (written_rise first) keys
  rises_written first f [] = refl
  rises_written first f (key ∷ keys) =
      part_written (rise_of (seen_key key)) (Reached (seen_key key)) (first + key.place) (map (λ key. part (rise_of key) (Reached key)) (seen_keys keys)) (f (seen_key key))
      ∙ ap (λ z. written_rise first key ++ z) (rises_written first f keys)

  pub objective_written : (first : ℕ) → ((s : ℕ) → num (Size s) ≡ s) → ((key : StepKey) → num (Reached key) ≡ first + key.place)
      → (by : List ℤ) (keys : List ReachedKey)
      → parts_of num (size_parts 0 by ++ map (λ key. part (rise_of key) (Reached key)) (seen_keys keys)) ≡ written_sizes 0 by ++ flat_map (written_rise first) keys
  objective_written first e f by keys =
      parts_append num (size_parts 0 by) (map (λ key. part (rise_of key) (Reached key)) (seen_keys keys))
      ∙ ap₂ (λ z w. z ++ w) (sizes_parts num by 0 e) (rises_written first f keys)
