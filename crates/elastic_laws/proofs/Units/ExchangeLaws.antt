-- What the order of two instances says of what they write.
use Rattle.std.proofs.Common.{◌≡◌, ◌≢◌, ℕ, ◌==◌, ◌&&◌, ◌||◌, nat_eq, not, ◌⊎◌, ⊎_elim, inl, inr, Bool, true, false, List, [], ◌∷◌, Option, Some, None, option_map, refl, sym, ap, ap₂, ◌∙◌, All}
use Rattle.std.specs.Option.{option_eq}
use mathlib.Core.Path.{fun_ext}
use Rattle.std.proofs.lemmas.Bool.{or_parts, or_cases, eq-eqb, and_parts}
use Rattle.std.proofs.lemmas.Slice.Eq.{bytes_eq-Decides}
use Rattle.elastic_ast.specs.declared.flat.Location.{Location}
use Rattle.elastic_ast.specs.declared.flat.Location.TheVariants as location
use Rattle.elastic_ast.specs.Tree.{PlainDecl}
use Rattle.elastic_ast.specs.Typing.Scope.{same}
use Rattle.elastic_ast.specs.Containers.LocationPlaces.{index_at, place}
use Rattle.elastic_ast.specs.Meaning.Memory.{Spot, At, Reg, Memory, Writes, written_or, over}
use Rattle.elastic_ast.specs.Units.Instances.{Instance, instances}
use Rattle.elastic_ast.specs.Units.UnitsOf.{units_of}
use Rattle.elastic_ast.specs.Units.Order.{Relation, coincide, touches, meet, relation, order_of}
use Rattle.elastic_ast.specs.Units.Reach.{is_own, one_thing}
use Rattle.elastic_ast.specs.Units.Work.{index_around, after_instance}
use Rattle.elastic_ast.proofs.SameLocations.{thing_self}
use Rattle.elastic_laws.specs.Units.Footprints.{spot_of, same_spot, covers, HasFootprint, TablesFit, KeepsTo, InstancesHaveFootprints, UnitsHaveFootprints}
use Rattle.elastic_laws.specs.Units.Exchange.{Undisturbed, AreFree, writes_of, OfEachTwo, OrderIsUndisturbed, OrderIsFree, FreeExchange}
use Rattle.elastic_ast.proofs.Containers.PlaceLaws.{place_tells, index_told}
use Rattle.elastic_laws.proofs.Units.FootprintLaws.{unit_footprint}
use Rattle.elastic_laws.proofs.Units.EachUnit.{AllBy, all_by, all_more, each_unit, each_instance}

-- from footprints
pub undisturbed : (p q : Memory → Writes) (rp wp rq wq : Spot → Bool) → HasFootprint rp wp p → HasFootprint rq wq q → ((l : Spot) → rq l ≡ true → wp l ≡ false) → Undisturbed p q
undisturbed p q rp wp rq wq fp fq h =
    record { same = λ s. fq.depends (over (p s) s) s (λ l r. ap (λ o. written_or o (s l)) (fp.inside s l (h l r))) }

pub apart : (p q : Memory → Writes) (rp wp rq wq : Spot → Bool) → HasFootprint rp wp p → HasFootprint rq wq q → ((l : Spot) → wq l ≡ true → wp l ≡ false) → (s : Memory) (l : Spot) → (q s l ≡ None) ⊎ (p s l ≡ None)
apart p q rp wp rq wq fp fq h s l = cases (wq l) refl
  where
    cases : (b : Bool) → wq l ≡ b → (q s l ≡ None) ⊎ (p s l ≡ None)
    cases true e = inr (fp.inside s l (h l e))
    cases false e = inl (fq.inside s l e)

two_overs : {A : Type 0} (a b : Option A) (v : A) → (b ≡ None) ⊎ (a ≡ None) → written_or b (written_or a v) ≡ written_or a (written_or b v)
two_overs None b v h = refl
two_overs (Some x) None v h = refl
two_overs (Some x) (Some y) v h = ⊎_elim (λ e. cc) (λ e. cc) h

-- two that are free may be exchanged
pub commute : (p q : Memory → Writes) → AreFree p q → (s : Memory) → over (q (over (p s) s)) (over (p s) s) ≡ over (p (over (q s) s)) (over (q s) s)
commute p q f s =
    ap (λ d. over d (over (p s) s)) (f.second_kept.same s)
    ∙ fun_ext (λ l. two_overs (p s l) (q s l) (s l) (f.apart s l))
    ∙ ap (λ d. over d (over (q s) s)) (sym (f.first_kept.same s))

spot_told : (a b : Spot) → same_spot a b ≡ true → a ≡ b
spot_told (At p) (At q) e = ap At ((bytes_eq-Decides p q).0 e)
spot_told (At p) (Reg n i) e = cc
spot_told (Reg n i) (At q) e = cc
spot_told (Reg n i) (Reg m j) e =
    let p = and_parts (same n m) (option_eq nat_eq i j) e in
    ap₂ Reg ((bytes_eq-Decides n m).0 p.0) (index_told i j (sym p.1))

abbrev place_in : Spot → List ℕ
place_in (At p) = p
place_in (Reg n i) = []

-- two own locations at one index
own_once : (a b : Bool) (iu jv : Option ℕ) (i j : ℕ) → (iu ≡ jv → i ≡ j) → index_at a iu ≡ index_at b jv → (not (a && b) || i == j) ≡ true
own_once true true iu jv i j link e = eq-eqb i j (link e)
own_once true false iu jv i j link e = refl
own_once false b iu jv i j link e = refl

coincide_placed : (x y : Location) (iu jv : Option ℕ) (i j : ℕ) → (iu ≡ jv → i ≡ j) → place x (index_at (is_own x) iu) ≡ place y (index_at (is_own y) jv) → coincide x i y j ≡ true
coincide_placed x y iu jv i j link e =
    let told = place_tells x y (index_at (is_own x) iu) (index_at (is_own y) jv) e in
    ap₂ (λ a b. a && b) (ap (one_thing x) (sym told.0) ∙ thing_self x) (own_once (is_own x) (is_own y) iu jv i j link told.1)

coincide_when : (x y : Location) (iu jv : Option ℕ) (i j : ℕ) → (iu ≡ jv → i ≡ j) → spot_of x iu ≡ spot_of y jv → coincide x i y j ≡ true
coincide_when (location.Reg n o) (location.Reg m p) iu jv i j link e =
    let names : n ≡ m = cc in
    let indices : index_at o iu ≡ index_at p jv = cc in
    ap₂ (λ a b. a && b) (ap (same n) (sym names) ∙ (bytes_eq-Decides n n).1 refl) (own_once o p iu jv i j link indices)
coincide_when (location.Reg n o) y iu jv i j link e = cc
coincide_when x (location.Reg m p) iu jv i j link e = cc
coincide_when x y iu jv i j link e = coincide_placed x y iu jv i j link (ap place_in e)

module _ (iu jv : Option ℕ) (i j : ℕ) (link : iu ≡ jv → i ≡ j) where
  -- the spot of a location that touches none of the others isn't theirs
  no_touch : (x : Location) (ys : List Location) (l : Spot) → touches x i ys j ≡ false → spot_of x iu ≡ l → covers ys jv l ≡ false
  no_touch x [] l h e = refl
  no_touch x (y ∷ ys) l h e =
      let parts = or_parts (coincide x i y j) (touches x i ys j) h in
      ap₂ (λ a b. a || b) (cases (same_spot (spot_of y jv) l) refl parts.0) (no_touch x ys l parts.1 e)
    where
      cases : (b : Bool) → same_spot (spot_of y jv) l ≡ b → coincide x i y j ≡ false → same_spot (spot_of y jv) l ≡ false
      cases false k n = k
      cases true k n =
          let both : spot_of x iu ≡ spot_of y jv = e ∙ sym (spot_told (spot_of y jv) l k) in
          let met : coincide x i y j ≡ true = coincide_when x y iu jv i j link both in
          cc

  no_meet : (xs ys : List Location) → meet xs i ys j ≡ false → (l : Spot) → covers xs iu l ≡ true → covers ys jv l ≡ false
  no_meet [] ys h l e = cc
  no_meet (x ∷ xs) ys h l e =
      let parts = or_parts (touches x i ys j) (meet xs i ys j) h in
      ⊎_elim (λ k. no_touch x ys l parts.0 (spot_told (spot_of x iu) l k)) (λ k. no_meet xs ys parts.1 l k) (or_cases (same_spot (spot_of x iu) l) (covers xs iu l) e)

not_before : (a b c : Bool) → relation a b c ≢ Relation.Before → (a ≡ false) × (b ≡ false)
not_before true b c h = absurd (h refl)
not_before false true c h = absurd (h refl)
not_before false false c h = (refl, refl)

is_free : (a b c : Bool) → relation a b c ≡ Relation.Free → (a ≡ false) × (b ≡ false) × (c ≡ false)
is_free true b c e = cc
is_free false true c e = cc
is_free false false true e = cc
is_free false false false e = (refl, refl, refl)

-- an instance keeps to its locations, and has index 0 outside of loops
pub record IsSound (decls : List PlainDecl) (sizes : List ℕ) (p : Instance) : Type 0 where
  pub keeps : KeepsTo decls sizes p.unit p.index
  pub first : p.unit.loop_no ≡ None → p.index ≡ 0

around_link : (a b : Option ℕ) (i j : ℕ) → (a ≡ None → i ≡ 0) → (b ≡ None → j ≡ 0) → option_map (λ loop. i) a ≡ option_map (λ loop. j) b → i ≡ j
around_link None None i j h g e = h refl ∙ sym (g refl)
around_link None (Some b) i j h g e = cc
around_link (Some a) None i j h g e = cc
around_link (Some a) (Some b) i j h g e = cc

module _ (decls : List PlainDecl) (sizes : List ℕ) (p q : Instance) (sp : IsSound decls sizes p) (sq : IsSound decls sizes q) where
  link : index_around q.unit q.index ≡ index_around p.unit p.index → q.index ≡ p.index
  link = around_link q.unit.loop_no p.unit.loop_no q.index p.index sq.first sp.first

  pub order_undisturbed : order_of p q ≢ Relation.Before → Undisturbed (writes_of decls sizes p) (writes_of decls sizes q)
  order_undisturbed h =
      let no = not_before (meet q.unit.reads q.index p.unit.writes p.index) (meet q.unit.writes q.index p.unit.writes p.index) (meet q.unit.writes q.index p.unit.reads p.index) h in
      undisturbed (writes_of decls sizes p) (writes_of decls sizes q) (covers p.unit.reads (index_around p.unit p.index)) (covers p.unit.writes (index_around p.unit p.index)) (covers q.unit.reads (index_around q.unit q.index)) (covers q.unit.writes (index_around q.unit q.index)) sp.keeps sq.keeps
      (no_meet (index_around q.unit q.index) (index_around p.unit p.index) q.index p.index link q.unit.reads p.unit.writes no.0)

  pub order_free : order_of p q ≡ Relation.Free → AreFree (writes_of decls sizes p) (writes_of decls sizes q)
  order_free h =
      let no = is_free (meet q.unit.reads q.index p.unit.writes p.index) (meet q.unit.writes q.index p.unit.writes p.index) (meet q.unit.writes q.index p.unit.reads p.index) h in
      record {
        second_kept =
            undisturbed (writes_of decls sizes p) (writes_of decls sizes q) (covers p.unit.reads (index_around p.unit p.index)) (covers p.unit.writes (index_around p.unit p.index)) (covers q.unit.reads (index_around q.unit q.index)) (covers q.unit.writes (index_around q.unit q.index)) sp.keeps sq.keeps
            (no_meet (index_around q.unit q.index) (index_around p.unit p.index) q.index p.index link q.unit.reads p.unit.writes no.0);
        first_kept =
            undisturbed (writes_of decls sizes q) (writes_of decls sizes p) (covers q.unit.reads (index_around q.unit q.index)) (covers q.unit.writes (index_around q.unit q.index)) (covers p.unit.reads (index_around p.unit p.index)) (covers p.unit.writes (index_around p.unit p.index)) sq.keeps sp.keeps
            (λ l e. not_both l e no.2);
        apart =
            apart (writes_of decls sizes p) (writes_of decls sizes q) (covers p.unit.reads (index_around p.unit p.index)) (covers p.unit.writes (index_around p.unit p.index)) (covers q.unit.reads (index_around q.unit q.index)) (covers q.unit.writes (index_around q.unit q.index)) sp.keeps sq.keeps
            (no_meet (index_around q.unit q.index) (index_around p.unit p.index) q.index p.index link q.unit.writes p.unit.writes no.1);
      }
    where
      -- p reads l: then q doesn't write it
      not_both : (l : Spot) → covers p.unit.reads (index_around p.unit p.index) l ≡ true → meet q.unit.writes q.index p.unit.reads p.index ≡ false → covers q.unit.writes (index_around q.unit q.index) l ≡ false
      not_both l e n = cases (covers q.unit.writes (index_around q.unit q.index) l) refl
        where
          cases : (b : Bool) → covers q.unit.writes (index_around q.unit q.index) l ≡ b → covers q.unit.writes (index_around q.unit q.index) l ≡ false
          cases false k = k
          cases true k = let bad = no_meet (index_around q.unit q.index) (index_around p.unit p.index) q.index p.index link q.unit.writes p.unit.reads n l k in cc

pub units_have_footprints : UnitsHaveFootprints
units_have_footprints decls fit sizes =
    all_by (λ unit. (index : ℕ) → KeepsTo decls sizes unit index) _ (each_unit decls (λ unit. (index : ℕ) → KeepsTo decls sizes unit index) (unit_footprint decls fit sizes))

pub each_sound : (decls : List PlainDecl) → TablesFit decls → (counts : ℕ → ℕ) (sizes : List ℕ) → AllBy (IsSound decls sizes) (instances (units_of decls) counts)
each_sound decls fit counts sizes =
    each_instance decls (IsSound decls sizes)
    (λ n piece. record { keeps = unit_footprint decls fit sizes None piece 0; first = λ e. refl })
    (λ n i w piece. record { keeps = unit_footprint decls fit sizes (Some w) piece i; first = λ e. cc })
    counts

pub instances_have_footprints : InstancesHaveFootprints
instances_have_footprints decls fit counts sizes =
    all_by (λ p. KeepsTo decls sizes p.unit p.index) (instances (units_of decls) counts)
    (all_more (IsSound decls sizes) (λ p. KeepsTo decls sizes p.unit p.index) (λ p h. h.keeps) (instances (units_of decls) counts) (each_sound decls fit counts sizes))

of_each_two : (decls : List PlainDecl) (counts : ℕ → ℕ) (sizes : List ℕ) (R : Instance → Instance → Type 0) → ((p q : Instance) → IsSound decls sizes p → IsSound decls sizes q → R p q) → AllBy (IsSound decls sizes) (instances (units_of decls) counts) → OfEachTwo decls counts R
of_each_two decls counts sizes R f h =
    let all : List Instance = instances (units_of decls) counts in
    all_by (λ p. All (R p) all) all
    (all_more (IsSound decls sizes) (λ p. All (R p) all) (λ p sp. all_by (R p) all (all_more (IsSound decls sizes) (R p) (λ q sq. f p q sp sq) all h)) all h)

pub order_is_undisturbed : OrderIsUndisturbed
order_is_undisturbed decls fit counts sizes =
    of_each_two decls counts sizes (λ p q. order_of p q ≢ Relation.Before → Undisturbed (writes_of decls sizes p) (writes_of decls sizes q))
    (λ p q sp sq. order_undisturbed decls sizes p q sp sq) (each_sound decls fit counts sizes)

pub order_is_free : OrderIsFree
order_is_free decls fit counts sizes =
    of_each_two decls counts sizes (λ p q. order_of p q ≡ Relation.Free → AreFree (writes_of decls sizes p) (writes_of decls sizes q))
    (λ p q sp sq. order_free decls sizes p q sp sq) (each_sound decls fit counts sizes)

pub free_exchange : FreeExchange
free_exchange decls fit counts sizes =
    of_each_two decls counts sizes (λ p q. order_of p q ≡ Relation.Free → (s : Memory) → after_instance q decls sizes (after_instance p decls sizes s) ≡ after_instance p decls sizes (after_instance q decls sizes s))
    (λ p q sp sq h s. commute (writes_of decls sizes p) (writes_of decls sizes q) (order_free decls sizes p q sp sq h) s) (each_sound decls fit counts sizes)
