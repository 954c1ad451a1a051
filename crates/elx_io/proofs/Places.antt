-- The file at the first place of a name, and what setting it does to the map of all files.
use Rattle.std.proofs.Common.{◌≡◌, ℕ, suc, ◌+◌, ◌<◌, ◌≤◌, Bool, true, false, not, cond, List, [], ◌∷◌, ◌++◌, length, get_or, Option, Some, None, nat_lt, nat_cmp, refl, sym, ap, ◌∙◌, arith}
use Rattle.std.proofs.Math.ListN.{set}
use Rattle.std.proofs.lemmas.Bool.Decides.{nat_tests, not_from_Decides}
use Rattle.std.proofs.lemmas.Cmp.{nat_list_cmp_total}
use Rattle.std.proofs.lemmas.Map.Text.{is_eq-slice_cmp}
use Rattle.std.proofs.lemmas.Slice.Eq.{bytes_eq-Decides}
use Rattle.std.specs.Cmp.Lexicographic.{slice_cmp}
use Rattle.std.specs.FinMap.{get, insert, get-from_entries, get-empty, get-insert, from_entries_push, same_map, slice_cmp-IsAntisymmetric, nat_cmp-IsAntisymmetric, IsAntisymmetric}
use Rattle.std.specs.List.{position_or_len}
use Rattle.std.specs.Str.{bytes_eq}
use Rattle.elx_io.specs.Files.{files_of}
use Rattle.elx_io.specs.Places.{is_named, place_in}

abbrev Entries : Type 0
Entries = List (List ℕ × List ℕ)

-- the bytes at a name by a scan from the front
abbrev scan : List ℕ → Entries → Option (List ℕ)
scan name [] = None
scan name (e ∷ es) = cond (bytes_eq name e.0) (Some e.1) (scan name es)

scan-files_of : (es : Entries) (name : List ℕ) → get (files_of es) name ≡ scan name es
scan-files_of [] name = get-empty _ name
scan-files_of (e ∷ es) name =
    get-insert nat_list_cmp_total (files_of es) e.0 e.1 name
    ∙ ap (λ b. cond b (Some e.1) (get (files_of es) name)) (is_eq-slice_cmp name e.0)
    ∙ ap (cond (bytes_eq name e.0) (Some e.1)) (scan-files_of es name)

abbrev first : List ℕ → Entries → ℕ
first name es = position_or_len (is_named name) es

scan_first : (name : List ℕ) (es : Entries) (d : List ℕ × List ℕ) → first name es < length es → scan name es ≡ Some (get_or es (first name es) d).1
scan_first name [] d h = absurd (omega arith)
scan_first name (e ∷ es) d h =
    elim (bytes_eq name e.0) as (λ b. cond (not b) (1 + first name es) 0 < suc (length es) → cond b (Some e.1) (scan name es) ≡ Some (get_or (e ∷ es) (cond (not b) (1 + first name es) 0) d).1) [
      | true ↦ λ _. refl
      | false ↦ λ below. scan_first name es d (omega arith) ∙ (let n : suc (first name es) ≡ 1 + first name es = omega arith in ap (λ k. Some (get_or (e ∷ es) k d).1) n)
    ] h

scan_none : (name : List ℕ) (es : Entries) → length es ≤ first name es → scan name es ≡ None
scan_none name [] h = refl
scan_none name (e ∷ es) h =
    elim (bytes_eq name e.0) as (λ b. suc (length es) ≤ cond (not b) (1 + first name es) 0 → cond b (Some e.1) (scan name es) ≡ None) [
      | true ↦ λ above. absurd (omega arith)
      | false ↦ λ above. scan_none name es (omega arith)
    ] h

shadowed : {A : Type 0} (b : Bool) (x y z : A) → cond b x z ≡ cond b x (cond b y z)
shadowed true x y z = refl
shadowed false x y z = refl

swapped : {A : Type 0} (a b : Bool) (x y z : A) → (a ≡ true → b ≡ true → ⊥) → cond a x (cond b y z) ≡ cond b y (cond a x z)
swapped true true x y z apart = absurd (apart refl refl)
swapped true false x y z apart = refl
swapped false b x y z apart = refl

apart : (name key q : List ℕ) → bytes_eq name key ≡ false → bytes_eq q key ≡ true → bytes_eq q name ≡ true → ⊥
apart name key q differ same_key same_name =
    not_from_Decides _ (bytes_eq-Decides name key) differ (sym ((bytes_eq-Decides q name).0 same_name) ∙ (bytes_eq-Decides q key).0 same_key)

scan_set : (q name v : List ℕ) (es : Entries) (d : List ℕ × List ℕ) → first name es < length es → scan q (set es (first name es) ((get_or es (first name es) d).0, v)) ≡ cond (bytes_eq q name) (Some v) (scan q es)
scan_set q name v [] d h = absurd (omega arith)
scan_set q name v (e ∷ es) d h =
    elim (bytes_eq name e.0) as (λ b. bytes_eq name e.0 ≡ b → cond (not b) (1 + first name es) 0 < suc (length es) → scan q (set (e ∷ es) (cond (not b) (1 + first name es) 0) ((get_or (e ∷ es) (cond (not b) (1 + first name es) 0) d).0, v)) ≡ cond (bytes_eq q name) (Some v) (scan q (e ∷ es))) [
      | true ↦ λ same _. shadowed (bytes_eq q e.0) (Some v) (Some e.1) (scan q es) ∙ ap (λ k. cond (bytes_eq q k) (Some v) (scan q (e ∷ es))) (sym ((bytes_eq-Decides name e.0).0 same))
      | false ↦ λ differ below.
          let n : 1 + first name es ≡ suc (first name es) = omega arith in
          ap (λ k. scan q (set (e ∷ es) k ((get_or (e ∷ es) k d).0, v))) n
          ∙ ap (cond (bytes_eq q e.0) (Some e.1)) (scan_set q name v es d (omega arith))
          ∙ swapped (bytes_eq q e.0) (bytes_eq q name) (Some e.1) (Some v) (scan q es) (apart name e.0 q differ)
    ] refl h

named_once : IsAntisymmetric (slice_cmp nat_cmp)
named_once = slice_cmp-IsAntisymmetric nat_cmp-IsAntisymmetric

placed : (n len i : ℕ) → cond (nat_lt n len) (Some n) None ≡ Some i → (n < len) × (n ≡ i)
placed n len i = elim (nat_lt n len) as (λ b. nat_lt n len ≡ b → cond b (Some n) None ≡ Some i → (n < len) × (n ≡ i)) [
  | true ↦ λ t e. (grind (arith, nat_tests, t), cc)
  | false ↦ λ t e. absurd (cc)
] refl

unplaced : (n len : ℕ) → cond (nat_lt n len) (Some n) None ≡ None → len ≤ n
unplaced n len = elim (nat_lt n len) as (λ b. nat_lt n len ≡ b → cond b (Some n) None ≡ None → len ≤ n) [
  | true ↦ λ t e. absurd (cc)
  | false ↦ λ t e. grind (arith, nat_tests, t)
] refl

pub place_in-below : (es : Entries) (name : List ℕ) (i : ℕ) → place_in es name ≡ Some i → i < length es
place_in-below es name i e = let p = placed _ _ i e in omega arith

pub get_placed : (es : Entries) (name : List ℕ) (i : ℕ) (d : List ℕ × List ℕ) → place_in es name ≡ Some i → get (files_of es) name ≡ Some (get_or es i d).1
get_placed es name i d e =
    let p = placed _ _ i e in
    scan-files_of es name ∙ scan_first name es d p.0 ∙ ap (λ k. Some (get_or es k d).1) p.1

pub get_unplaced : (es : Entries) (name : List ℕ) → place_in es name ≡ None → get (files_of es) name ≡ None
get_unplaced es name e = scan-files_of es name ∙ scan_none name es (unplaced _ _ e)

pub set_placed : (es : Entries) (name v : List ℕ) (i : ℕ) (d : List ℕ × List ℕ) → place_in es name ≡ Some i → files_of (set es i ((get_or es i d).0, v)) ≡ insert (files_of es) name v
set_placed es name v i d e =
    let p = placed _ _ i e in
    ap (λ k. files_of (set es k ((get_or es k d).0, v))) (sym p.1)
    ∙ same_map nat_list_cmp_total named_once _ _ (λ q.
    scan-files_of (set es (first name es) ((get_or es (first name es) d).0, v)) q
    ∙ scan_set q name v es d p.0
    ∙ ap (cond (bytes_eq q name) (Some v)) (sym (scan-files_of es q))
    ∙ sym (get-insert nat_list_cmp_total (files_of es) name v q ∙ ap (λ b. cond b (Some v) (get (files_of es) q)) (is_eq-slice_cmp q name)))

pub push_unplaced : (es : Entries) (name v : List ℕ) → place_in es name ≡ None → files_of (es ++ (name, v) ∷ []) ≡ insert (files_of es) name v
push_unplaced es name v e = from_entries_push nat_list_cmp_total named_once es name v (sym (get-from_entries nat_list_cmp_total es name) ∙ get_unplaced es name e)
