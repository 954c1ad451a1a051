-- Instances that are listed one group after the other.
use Rattle.std.proofs.Common.{◌≡◌, ◌∙◌, ℕ, zero, suc, ◌+◌, ◌<◌, ◌≤◌, Bool, true, false, ◌&&◌, List, [], ◌∷◌, ◌++◌, map, drop, length, get_or, append_assoc, refl, sym, ap, subst, arith, Option, Some, None}
use Rattle.std.specs.Prelude.{◌-◌, take, if◌then◌else◌}
use Rattle.std.proofs.lemmas.List.{take-map, take_rest, take_more, get_or-drop, length-drop, length-take-le, drop_more, drop-map, append-nil, length-map}
use Rattle.elastic_ast.specs.Meaning.Values.{bit}
use Rattle.elastic_ast.specs.declared.flat.Unit.{Unit as FlatUnit}
use Rattle.elastic_ast.specs.Units.PlainUnits.{PlainUnit}
use Rattle.elastic_ast.specs.Units.SeenUnits.{seen_unit}
use Rattle.elastic_ast.specs.Units.Instances.{Instance, Group, same_number, new_group, with_unit, groups_from, at_index, each_turn, group_instances, all_instances, instances}
use Rattle.place_check.specs.Walking.{turns_of}
use Rattle.unroll_bound.specs.Counts.{is_symbolic}
use Rattle.ilp_model.specs.Candidates.{candidates_from}
use Rattle.ilp_model.specs.ListedCandidates.{listed, listed_from, rank_after, numbered, Adds}
use Rattle.ilp_model.specs.declared.listing.Listing.{Listing}

listed-append : (rank : ℕ) (xs ys : List Instance) → listed_from rank (xs ++ ys) ≡ listed_from rank xs ++ listed_from (rank_after rank xs) ys
listed-append rank [] ys = refl
listed-append rank (x ∷ xs) ys = ap (λ z. record { unit = x.number; index = x.index; rank = rank } ∷ z) (listed-append (rank + bit (is_symbolic x.unit.cells)) xs ys)

after-append : (rank : ℕ) (xs ys : List Instance) → rank_after rank (xs ++ ys) ≡ rank_after (rank_after rank xs) ys
after-append rank [] ys = refl
after-append rank (x ∷ xs) ys = after-append (rank + bit (is_symbolic x.unit.cells)) xs ys

pub adds_none : (a : Listing) → Adds a [] a
adds_none a = record { list = sym (append-nil a.list); rank = refl }

pub adds_both : (a b c : Listing) (xs ys : List Instance) → Adds a xs b → Adds b ys c → Adds a (xs ++ ys) c
adds_both a b c xs ys h k =
    record {
      list = k.list ∙ ap (λ z. z ++ listed_from b.rank ys) h.list
          ∙ append_assoc a.list (listed_from a.rank xs) (listed_from b.rank ys)
          ∙ ap (λ n. a.list ++ (listed_from a.rank xs ++ listed_from n ys)) h.rank
          ∙ ap (λ z. a.list ++ z) (sym (listed-append a.rank xs ys));
      rank = k.rank ∙ ap (λ n. rank_after n ys) h.rank ∙ sym (after-append a.rank xs ys);
    }

-- what is listed by now, and what is left, are the whole
pub record Leads (before now : Listing) (whole rest : List Instance) : Type 0 where
  pub list : now.list ++ listed_from now.rank rest ≡ before.list ++ listed_from before.rank whole
  pub rank : rank_after now.rank rest ≡ rank_after before.rank whole

pub leads_begin : (a : Listing) (whole : List Instance) → Leads a a whole whole
leads_begin a whole = record { list = refl; rank = refl }

pub leads_more : (a b c : Listing) (whole left xs rest : List Instance) → Leads a b whole left → left ≡ xs ++ rest → Adds b xs c → Leads a c whole rest
leads_more a b c whole left xs rest h e k =
    record {
      list = ap (λ z. z ++ listed_from c.rank rest) k.list
          ∙ append_assoc b.list (listed_from b.rank xs) (listed_from c.rank rest)
          ∙ ap (λ n. b.list ++ (listed_from b.rank xs ++ listed_from n rest)) k.rank
          ∙ ap (λ z. b.list ++ z) (sym (listed-append b.rank xs rest))
          ∙ ap (λ z. b.list ++ listed_from b.rank z) (sym e)
          ∙ h.list;
      rank = ap (λ n. rank_after n rest) k.rank ∙ sym (after-append b.rank xs rest) ∙ ap (rank_after b.rank) (sym e) ∙ h.rank;
    }

pub leads_same : (a b : Listing) (whole left rest : List Instance) → Leads a b whole left → left ≡ rest → Leads a b whole rest
leads_same a b whole left rest h e = record { list = ap (λ z. b.list ++ listed_from b.rank z) (sym e) ∙ h.list; rank = ap (rank_after b.rank) (sym e) ∙ h.rank }

pub leads_end : (a b : Listing) (whole left : List Instance) → Leads a b whole left → left ≡ [] → Adds a whole b
leads_end a b whole left h e =
    record {
      list = sym (append-nil b.list) ∙ ap (λ z. b.list ++ listed_from b.rank z) (sym e) ∙ h.list;
      rank = ap (rank_after b.rank) (sym e) ∙ h.rank;
    }

-- a unit and those behind it, at an index
pub seen_drop : (units : List FlatUnit) (i : ℕ) (unit : FlatUnit) → i < length units → unit ≡ get_or units i unit → drop i (map seen_unit units) ≡ seen_unit unit ∷ drop (i + 1) (map seen_unit units)
seen_drop units i unit h e = drop-map seen_unit i units ∙ ap (map seen_unit) (drop_more units i unit h ∙ ap (λ z. z ∷ drop (i + 1) units) (sym e)) ∙ ap (λ z. seen_unit unit ∷ z) (sym (drop-map seen_unit (i + 1) units))

pub turn_step : (units : List FlatUnit) (first place index : ℕ) (unit : FlatUnit) → place < length units → unit ≡ get_or units place unit
    → at_index (numbered (first + place) (drop place (map seen_unit units))) index
    ≡ (record { number = first + place; index = index; unit = seen_unit unit } ∷ []) ++ at_index (numbered (first + (place + 1)) (drop (place + 1) (map seen_unit units))) index
turn_step units first place index unit h e =
    ap (λ z. at_index (numbered (first + place) z) index) (seen_drop units place unit h e)
    ∙ ap (λ n. (record { number = first + place; index = index; unit = seen_unit unit } ∷ []) ++ at_index (numbered n (drop (place + 1) (map seen_unit units))) index) (let plus : first + place + 1 ≡ first + (place + 1) = omega arith in plus)

past : {A : Type 0} (xs : List A) (n : ℕ) → length xs ≤ n → drop n xs ≡ []
past [] zero h = refl
past [] (suc n) h = refl
past (x ∷ xs) zero h = absurd (omega (arith, h))
past (x ∷ xs) (suc n) h = past xs n (omega (arith, h))

pub turn_end : (units : List FlatUnit) (first place index : ℕ) → length units ≤ place → at_index (numbered (first + place) (drop place (map seen_unit units))) index ≡ []
turn_end units first place index h = ap (λ z. at_index (numbered (first + place) z) index) (past (map seen_unit units) place (let k = length-map units seen_unit in omega (arith, h, k)))

pub adds_turn : (a b c : Listing) (turn : ℕ → List Instance) (index : ℕ) → Adds a (each_turn index turn) b → Adds b (turn index) c → Adds a (each_turn (index + 1) turn) c
adds_turn a b c turn index h k = subst (λ n. Adds a (each_turn n turn) c) (let plus : suc index ≡ index + 1 = omega arith in plus) (adds_both a b c (each_turn index turn) (turn index) h k)

-- all turns are the instances of a group
pub turns_group : (sizes : ℕ → ℕ) (size : Option ℕ) (units : List (ℕ × PlainUnit)) → each_turn (turns_of sizes size) (at_index units) ≡ group_instances sizes size units
turns_group sizes None units = refl
turns_group sizes (Some symbol) units = refl

-- what is listed are the candidates
pub listed_candidates : (place rank : ℕ) (xs : List Instance) → map listed (candidates_from place rank xs) ≡ listed_from rank xs
listed_candidates place rank [] = refl
listed_candidates place rank (x ∷ xs) = ap (λ z. record { unit = x.number; index = x.index; rank = rank } ∷ z) (listed_candidates (place + 1) (rank + bit (is_symbolic x.unit.cells)) xs)

-- the loop and the size of the first unit
abbrev pub head_loop : List PlainUnit → Option ℕ
head_loop [] = None
head_loop (unit ∷ units) = unit.loop_no

abbrev pub head_size : List PlainUnit → Option ℕ
head_size [] = None
head_size (unit ∷ units) = unit.size

-- the first so many units as a group, where numbers count from one on
abbrev pub opened : ℕ → ℕ → List PlainUnit → Group
opened first count units = record { loop_no = head_loop units; size = head_size units; units = numbered first (take count units) }

-- the instances from a unit on, where the group of the units before it is open
abbrev pub open_instances : (ℕ → ℕ) → List PlainUnit → ℕ → ℕ → List Instance
open_instances sizes units first next = all_instances sizes (groups_from (opened first (next - first) (drop first units)) next (drop next units))

numbered-append : (number : ℕ) (xs ys : List PlainUnit) → numbered number (xs ++ ys) ≡ numbered number xs ++ numbered (number + length xs) ys
numbered-append number [] ys = ap (λ n. numbered n ys) (let plus : number ≡ number + 0 = omega arith in plus)
numbered-append number (x ∷ xs) ys = ap (λ z. (number, x) ∷ z) (numbered-append (number + 1) xs ys ∙ ap (λ n. numbered (number + 1) xs ++ numbered n ys) (let plus : number + 1 + length xs ≡ number + length (x ∷ xs) = omega arith in plus))

seen_taken : (count first : ℕ) (units : List FlatUnit) → map seen_unit (take count (drop first units)) ≡ take count (drop first (map seen_unit units))
seen_taken count first units = sym (take-map seen_unit count (drop first units)) ∙ ap (take count) (sym (drop-map seen_unit first units))

module _ (sizes : ℕ → ℕ) (units : List FlatUnit) (first next : ℕ) (head unit : FlatUnit)
    (before : first < next) (within : next < length units) (head_is : head ≡ get_or units first head) (unit_is : unit ≡ get_or units next unit) where
  abbrev all : List PlainUnit
  all = map seen_unit units

  first_drop : drop first all ≡ seen_unit head ∷ drop (first + 1) all
  first_drop = seen_drop units first head (omega (arith, before, within)) head_is

  next_drop : drop next all ≡ seen_unit unit ∷ drop (next + 1) all
  next_drop = seen_drop units next unit within unit_is

  abbrev open_by : Bool → List Instance
  open_by same =
      all_instances sizes
      (if same
      then groups_from (with_unit (opened first (next - first) (drop first all)) next (seen_unit unit)) (next + 1) (drop (next + 1) all)
      else opened first (next - first) (drop first all) ∷ groups_from (new_group next (seen_unit unit)) (next + 1) (drop (next + 1) all))

  open_is : (same : Bool) → (same_number unit.loop_no head.loop_no && same_number unit.size head.size) ≡ same → open_instances sizes all first next ≡ open_by same
  open_is same e =
      ap (λ z. all_instances sizes (groups_from (opened first (next - first) (drop first all)) next z)) next_drop
      ∙ ap (λ z. open_by (same_number unit.loop_no (head_loop z) && same_number unit.size (head_size z))) first_drop
      ∙ ap open_by e

  more_taken : numbered first (take (next + 1 - first) (drop first all)) ≡ numbered first (take (next - first) (drop first all)) ++ (next, seen_unit unit) ∷ []
  more_taken =
      ap (λ n. numbered first (take n (drop first all))) (let plus : next + 1 - first ≡ next - first + 1 = omega (arith, before) in plus)
      ∙ ap (numbered first) (take_more (drop first all) (next - first) (seen_unit unit) (let k = length-map units seen_unit in let d = length-drop first all in omega (arith, before, within, k, d)))
      ∙ numbered-append first (take (next - first) (drop first all)) _
      ∙ ap (λ n. numbered first (take (next - first) (drop first all)) ++ (n, get_or (drop first all) (next - first) (seen_unit unit)) ∷ []) long
      ∙ ap (λ u. numbered first (take (next - first) (drop first all)) ++ (next, u) ∷ []) stands
    where
      long : first + length (take (next - first) (drop first all)) ≡ next
      long = let k = length-map units seen_unit in let d = length-drop first all in let t = length-take-le (next - first) (drop first all) (omega (arith, before, within, k, d)) in omega (arith, t, before)

      stands : get_or (drop first all) (next - first) (seen_unit unit) ≡ seen_unit unit
      stands =
          get_or-drop first all (next - first) (seen_unit unit)
          ∙ ap (λ n. get_or all n (seen_unit unit)) (let plus : first + (next - first) ≡ next = omega (arith, before) in plus)
          ∙ sym (get_or-drop next all 0 (seen_unit unit) ∙ ap (λ n. get_or all n (seen_unit unit)) (let plus : next + 0 ≡ next = omega arith in plus))
          ∙ ap (λ z. get_or z 0 (seen_unit unit)) next_drop

  -- a unit of the loop is put into the open group
  pub joined_step : (same_number unit.loop_no head.loop_no && same_number unit.size head.size) ≡ true → open_instances sizes all first next ≡ open_instances sizes all first (next + 1)
  joined_step e =
      open_is true e
      ∙ ap (λ (z : List (ℕ × PlainUnit)). all_instances sizes (groups_from (record { loop_no = head_loop (drop first all); size = head_size (drop first all); units = z }) (next + 1) (drop (next + 1) all))) (sym more_taken)

  -- another unit opens a group behind it
  pub other_step : (same_number unit.loop_no head.loop_no && same_number unit.size head.size) ≡ false
      → open_instances sizes all first next ≡ group_instances sizes head.size (numbered first (take (next - first) (drop first all))) ++ open_instances sizes all next (next + 1)
  other_step e =
      open_is false e
      ∙ ap (λ z. group_instances sizes (head_size z) (numbered first (take (next - first) (drop first all))) ++ all_instances sizes (groups_from (new_group next (seen_unit unit)) (next + 1) (drop (next + 1) all))) first_drop
      ∙ ap (λ (z : Group). group_instances sizes head.size (numbered first (take (next - first) (drop first all))) ++ all_instances sizes (groups_from z (next + 1) (drop (next + 1) all))) new_is
    where
      new_is : new_group next (seen_unit unit) ≡ opened next (next + 1 - next) (drop next all)
      new_is =
          ap (λ n. opened next n (seen_unit unit ∷ drop (next + 1) all)) (let plus : 1 ≡ next + 1 - next = omega arith in plus)
          ∙ ap (opened next (next + 1 - next)) (sym next_drop)

  pub other_leads : (same_number unit.loop_no head.loop_no && same_number unit.size head.size) ≡ false
      → (a b c now : Listing) (at : ℕ) (whole : List Instance) (other : FlatUnit) → other ≡ get_or units first other → now ≡ c → at ≡ next
      → Leads a b whole (open_instances sizes all first next)
      → Adds b (group_instances sizes (get_or units first other).size (numbered first (map seen_unit (take (next - first) (drop first units))))) c
      → Leads a now whole (open_instances sizes all at (next + 1))
  other_leads e a b c now at whole other other_is now_is at_is h k =
      subst (λ n. Leads a n whole (open_instances sizes all at (next + 1))) (sym now_is)
      (subst (λ n. Leads a c whole (open_instances sizes all n (next + 1))) (sym at_is)
      (leads_more a b c whole _ _ _ h split k))
    where
      same_size : head.size ≡ (get_or units first other).size
      same_size = ap head_size (sym first_drop ∙ seen_drop units first other (omega (arith, before, within)) other_is) ∙ ap (λ (u : FlatUnit). u.size) other_is

      split : open_instances sizes all first next
          ≡ group_instances sizes (get_or units first other).size (numbered first (map seen_unit (take (next - first) (drop first units)))) ++ open_instances sizes all next (next + 1)
      split =
          other_step e
          ∙ ap (λ z. group_instances sizes z (numbered first (take (next - first) (drop first all))) ++ open_instances sizes all next (next + 1)) same_size
          ∙ ap (λ z. group_instances sizes (get_or units first other).size (numbered first z) ++ open_instances sizes all next (next + 1)) (sym (seen_taken (next - first) first units))

  pub joined_leads : (same_number unit.loop_no head.loop_no && same_number unit.size head.size) ≡ true
      → (a b now : Listing) (at : ℕ) (whole : List Instance) → now ≡ b → at ≡ first
      → Leads a b whole (open_instances sizes all first next)
      → Leads a now whole (open_instances sizes all at (next + 1))
  joined_leads e a b now at whole now_is at_is h =
      subst (λ n. Leads a n whole (open_instances sizes all at (next + 1))) (sym now_is)
      (subst (λ n. Leads a b whole (open_instances sizes all n (next + 1))) (sym at_is)
      (leads_same a b whole _ _ h (joined_step e)))

-- the last group
pub last_step : (sizes : ℕ → ℕ) (units : List FlatUnit) (first next : ℕ) (head : FlatUnit) → first < length units → length units ≤ next → head ≡ get_or units first head
    → open_instances sizes (map seen_unit units) first next ≡ group_instances sizes head.size (numbered first (drop first (map seen_unit units))) ++ []
last_step sizes units first next head h k e =
    ap (λ z. all_instances sizes (groups_from (opened first (next - first) (drop first (map seen_unit units))) next z)) (past (map seen_unit units) next (let d = length-map units seen_unit in omega (arith, k, d)))
    ∙ ap (λ z. group_instances sizes (head_size (drop first (map seen_unit units))) (numbered first z) ++ []) (take-all (drop first (map seen_unit units)) (next - first) (let d = length-map units seen_unit in let l = length-drop first (map seen_unit units) in omega (arith, h, k, d, l)))
    ∙ ap (λ z. group_instances sizes (head_size z) (numbered first (drop first (map seen_unit units))) ++ []) (seen_drop units first head h e)
  where
    take-all : (xs : List PlainUnit) (n : ℕ) → length xs ≤ n → take n xs ≡ xs
    take-all [] zero h = refl
    take-all [] (suc n) h = refl
    take-all (x ∷ xs) zero h = absurd (omega (arith, h))
    take-all (x ∷ xs) (suc n) h = ap (λ z. x ∷ z) (take-all xs n (omega (arith, h)))

-- the first group is open behind the first unit
pub first_step : (sizes : ℕ → ℕ) (units : List PlainUnit) → open_instances sizes units 0 1 ≡ instances units sizes
first_step sizes [] = refl
first_step sizes (unit ∷ units) = refl

-- behind the last group all candidates are listed
pub listing_end : (sizes : ℕ → ℕ) (units : List FlatUnit) (first next : ℕ) (head : FlatUnit) → first < length units → length units ≤ next → head ≡ get_or units first head
    → (b c : Listing) → Leads (record { list = []; rank = 0 }) b (instances (map seen_unit units) sizes) (open_instances sizes (map seen_unit units) first next)
    → Adds b (group_instances sizes (get_or units first head).size (numbered first (map seen_unit (take (length units - first) (drop first units))))) c
    → c.list ≡ map listed (candidates_from 0 0 (instances (map seen_unit units) sizes))
listing_end sizes units first next head h k e b c l adds =
    (leads_end (record { list = []; rank = 0 }) c (instances (map seen_unit units) sizes) [] (leads_more (record { list = []; rank = 0 }) b c (instances (map seen_unit units) sizes) _ _ [] l split adds) refl).list
    ∙ sym (listed_candidates 0 0 (instances (map seen_unit units) sizes))
  where
    split : open_instances sizes (map seen_unit units) first next ≡ group_instances sizes (get_or units first head).size (numbered first (map seen_unit (take (length units - first) (drop first units)))) ++ []
    split =
        last_step sizes units first next head h k e
        ∙ ap (λ (u : FlatUnit). group_instances sizes u.size (numbered first (drop first (map seen_unit units))) ++ []) e
        ∙ ap (λ z. group_instances sizes (get_or units first head).size (numbered first z) ++ []) (drop-map seen_unit first units ∙ ap (map seen_unit) (sym (take_rest units first)))

-- no units, no candidates
pub listed_none : (sizes : ℕ → ℕ) (units : List FlatUnit) → units ≡ [] → [] ≡ map listed (candidates_from 0 0 (instances (map seen_unit units) sizes))
listed_none sizes units e = ap (λ (z : List FlatUnit). map listed (candidates_from 0 0 (instances (map seen_unit z) sizes))) (sym e)
