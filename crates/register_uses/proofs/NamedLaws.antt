-- What the use of a register says of the units: whether two name it, one in a loop does, or one names it and another one.
use Rattle.std.proofs.Common.{◌≡◌, ◌≢◌, ◌↔◌, ℕ, zero, suc, ◌⊎◌, inl, inr, Bool, true, false, not, ◌&&◌, List, [], ◌∷◌, Option, Some, None, is_some, refl, sym, ap, ◌∙◌, true≢false}
use Rattle.std.specs.Prelude.{slice_get, if◌then◌else◌}
use Rattle.std.specs.Cmp.Lexicographic.{nat_list_eq_equiv}
use Rattle.std.proofs.lemmas.Map.Views.{list_any-from_Contains, Contains-from_any}
use Rattle.elastic_ast.specs.Tree.{Name, PlainDecl}
use Rattle.elastic_ast.specs.Typing.Scope.{same, among}
use Rattle.elastic_ast.specs.Typing.NamedRegisters.{Naming, named_registers, UnitNames, IsLooped, is_array, NamedTwice, IsUnnamed}
use Rattle.elastic_ast.proofs.Typing.SameNames.{same_told}
use Rattle.register_uses.specs.declared.uses.Use.{Use}
use Rattle.register_uses.specs.declared.uses.Use.TheVariants as usage
use Rattle.register_uses.specs.Summaries.{PlainSummary, summed}
use Rattle.register_uses.specs.Uses.{combined, twice_if, use_in, use_in_unit, use_in_units, is_twice}
use Rattle.register_uses.proofs.SummaryLaws.{Tells, tells}

-- what the use of a register in one unit says of the unit
abbrev SaysOfUnit : Naming → Name → Option Use → Type 0
SaysOfUnit naming register None = among naming.1 register ≡ false
SaysOfUnit naming register (Some (usage.Once looped)) =
    (among naming.1 register ≡ true) × (looped ≡ naming.0) × ((second : Name) → among naming.1 second ≡ true → second ≡ register)
SaysOfUnit naming register (Some usage.Twice) =
    (among naming.1 register ≡ true) × ((second : Name) × (among naming.1 second ≡ true) × (second ≢ register))

says_of_unit : (naming : Naming) (register : Name) → SaysOfUnit naming register (use_in_unit naming register)
says_of_unit naming register = by (summed naming.1) (tells naming.1)
  where
    only : (name : Name) (b : Bool) → same register name ≡ b → Tells naming.1 (PlainSummary.Only name) → SaysOfUnit naming register (if b then Some (usage.Once naming.0) else None)
    only name true e t = (t register ∙ e, refl, λ second a. same_told second name (sym (t second) ∙ a) ∙ sym (same_told register name e))
    only name false e t = t register ∙ e

    several : (b : Bool) → among naming.1 register ≡ b → Tells naming.1 PlainSummary.Several → SaysOfUnit naming register (twice_if b)
    several true e t = (e, t register)
    several false e t = e

    by : (s : PlainSummary) → Tells naming.1 s → SaysOfUnit naming register (use_in naming.0 s naming.1 register)
    by PlainSummary.Nothing t = t register
    by (PlainSummary.Only name) t = only name (same register name) refl t
    by PlainSummary.Several t = several (among naming.1 register) refl t

-- a unit names the register
record NamedAt (us : List Naming) (register : Name) (unit : ℕ) : Type 0 where
  naming : Naming
  here : slice_get us unit ≡ Some naming
  named : among naming.1 register ≡ true

record OnceAt (us : List Naming) (register : Name) (looped : Bool) : Type 0 where
  unit : ℕ
  at : NamedAt us register unit
  same_loop : looped ≡ at.naming.0
  alone : (second : Name) → among at.naming.1 second ≡ true → second ≡ register
  only : (other : ℕ) → NamedAt us register other → other ≡ unit

record TwoAt (us : List Naming) (register : Name) : Type 0 where
  one : ℕ
  other : ℕ
  first : NamedAt us register one
  second : NamedAt us register other
  apart : one ≢ other

record BesideAt (us : List Naming) (register : Name) : Type 0 where
  unit : ℕ
  at : NamedAt us register unit
  second : Name
  beside : among at.naming.1 second ≡ true
  differs : second ≢ register

-- what the use of a register says of units
abbrev Says : List Naming → Name → Option Use → Type 0
Says us register None = (unit : ℕ) → NamedAt us register unit → ⊥
Says us register (Some (usage.Once looped)) = OnceAt us register looped
Says us register (Some usage.Twice) = TwoAt us register ⊎ BesideAt us register

abbrev behind : (u : Naming) (us : List Naming) (register : Name) (unit : ℕ) → NamedAt us register unit → NamedAt (u ∷ us) register (suc unit)
behind u us register unit a = record { naming = a.naming; here = a.here; named = a.named }

before : (u : Naming) (us : List Naming) (register : Name) (unit : ℕ) → NamedAt (u ∷ us) register (suc unit) → NamedAt us register unit
before u us register unit a = record { naming = a.naming; here = a.here; named = a.named }

first_is : (u : Naming) (us : List Naming) (register : Name) → NamedAt (u ∷ us) register zero → among u.1 register ≡ true
first_is u us register a = let e : u ≡ a.naming = cc (a.here) in ap (λ z. among z.1 register) e ∙ a.named

abbrev at_first : (u : Naming) (us : List Naming) (register : Name) → among u.1 register ≡ true → NamedAt (u ∷ us) register zero
at_first u us register h = record { naming = u; here = refl; named = h }

-- the unit that a use speaks of
unit_named : (us : List Naming) (register : Name) (one : Use) → Says us register (Some one) → (unit : ℕ) × NamedAt us register unit
unit_named us register (usage.Once looped) s = (s.unit, s.at)
unit_named us register usage.Twice (inl two) = (two.one, two.first)
unit_named us register usage.Twice (inr beside) = (beside.unit, beside.at)

first_named : (naming : Naming) (register : Name) (one : Use) → SaysOfUnit naming register (Some one) → among naming.1 register ≡ true
first_named naming register (usage.Once looped) s = s.0
first_named naming register usage.Twice s = s.0

says_rest : (u : Naming) (us : List Naming) (register : Name) (o : Option Use) → among u.1 register ≡ false → Says us register o → Says (u ∷ us) register o
says_rest u us register None n s = by
  where
    by : (unit : ℕ) → NamedAt (u ∷ us) register unit → ⊥
    by zero a = true≢false (sym (first_is u us register a) ∙ n)
    by (suc unit) a = s unit (before u us register unit a)
says_rest u us register (Some (usage.Once looped)) n s = record { unit = suc s.unit; at = behind u us register s.unit s.at; same_loop = s.same_loop; alone = s.alone; only = by }
  where
    by : (other : ℕ) → NamedAt (u ∷ us) register other → other ≡ suc s.unit
    by zero a = absurd (true≢false (sym (first_is u us register a) ∙ n))
    by (suc other) a = ap suc (s.only other (before u us register other a))
says_rest u us register (Some usage.Twice) n (inl two) =
    inl record { one = suc two.one; other = suc two.other; first = behind u us register two.one two.first; second = behind u us register two.other two.second; apart = λ e. two.apart (cc) }
says_rest u us register (Some usage.Twice) n (inr beside) =
    inr record { unit = suc beside.unit; at = behind u us register beside.unit beside.at; second = beside.second; beside = beside.beside; differs = beside.differs }

says_first : (u : Naming) (us : List Naming) (register : Name) (one : Use) → SaysOfUnit u register (Some one) → Says us register None → Says (u ∷ us) register (Some one)
says_first u us register (usage.Once looped) t s = record { unit = 0; at = at_first u us register t.0; same_loop = t.1; alone = t.2; only = by }
  where
    by : (other : ℕ) → NamedAt (u ∷ us) register other → other ≡ 0
    by zero a = refl
    by (suc other) a = absurd (s other (before u us register other a))
says_first u us register usage.Twice t s = inr record { unit = 0; at = at_first u us register t.0; second = t.1.0; beside = t.1.1; differs = t.1.2 }

says_both : (u : Naming) (us : List Naming) (register : Name) (a b : Option Use) → SaysOfUnit u register a → Says us register b → Says (u ∷ us) register (combined a b)
says_both u us register None b t s = says_rest u us register b t s
says_both u us register (Some one) None t s = says_first u us register one t s
says_both u us register (Some one) (Some other) t s =
    let later = unit_named us register other s in
    inl record { one = 0; other = suc later.0; first = at_first u us register (first_named u register one t); second = behind u us register later.0 later.1; apart = λ e. (cc) }

says : (us : List Naming) (register : Name) → Says us register (use_in_units us register)
says [] register = λ unit a. let e = a.here in cc
says (u ∷ us) register = says_both u us register (use_in_unit u register) (use_in_units us register) (says_of_unit u register) (says us register)

-- to and from the definitions
module _ (decls : List PlainDecl) (register : Name) where
  given : (unit : ℕ) → UnitNames decls unit register → NamedAt (named_registers decls) register unit
  given unit n = record { naming = n.0; here = n.1; named = list_any-from_Contains nat_list_eq_equiv register n.0.1 n.2 }

  taken : (unit : ℕ) (name : Name) (naming : Naming) → slice_get (named_registers decls) unit ≡ Some naming → among naming.1 name ≡ true → UnitNames decls unit name
  taken unit name naming h a = (naming, h, Contains-from_any same_told name naming.1 a)

  unit_taken : (unit : ℕ) → NamedAt (named_registers decls) register unit → UnitNames decls unit register
  unit_taken unit a = taken unit register a.naming a.here a.named

  same_unit : (one other : ℕ) (a b : Naming) → slice_get (named_registers decls) one ≡ Some a → slice_get (named_registers decls) other ≡ Some b → one ≡ other → a ≡ b
  same_unit one other a b h k e = cc

  looped_is : (one other : ℕ) (a : Naming) (names : List Name) → slice_get (named_registers decls) one ≡ Some a → slice_get (named_registers decls) other ≡ Some (true, names) → one ≡ other → a.0 ≡ true
  looped_is one other a names h k e = ap (λ z. z.0) (same_unit one other a (true, names) h k e)

  looped_parts : (looped array : Bool) → (looped && not array) ≡ true → (looped ≡ true) × (array ≡ false)
  looped_parts true false h = (refl, refl)
  looped_parts true true h = cc
  looped_parts false array h = cc

  looped_from : (looped array : Bool) → looped ≡ true → array ≡ false → (looped && not array) ≡ true
  looped_from true false h k = refl
  looped_from true true h k = cc
  looped_from false array h k = cc

  in_loop : (unit : ℕ) (naming : Naming) → slice_get (named_registers decls) unit ≡ Some naming → naming.0 ≡ true → IsLooped decls unit
  in_loop unit naming h e = (naming.1, h ∙ ap (λ z. Some (z, naming.1)) e)

  twice_told : (array : Bool) (o : Option Use) → array ≡ is_array decls register → Says (named_registers decls) register o → is_twice array o ≡ true → NamedTwice decls register
  twice_told array None e s h = cc
  twice_told array (Some (usage.Once looped)) e s h =
      let p = looped_parts looped array h in
      inr (inl (s.unit, unit_taken s.unit s.at, in_loop s.unit s.at.naming s.at.here (sym s.same_loop ∙ p.0), sym e ∙ p.1))
  twice_told array (Some usage.Twice) e (inl two) h = inl (two.one, two.other, unit_taken two.one two.first, unit_taken two.other two.second, two.apart)
  twice_told array (Some usage.Twice) e (inr b) h = inr (inr (b.unit, b.second, unit_taken b.unit b.at, taken b.unit b.second b.at.naming b.at.here b.beside, b.differs))

  twice_given : (array : Bool) (o : Option Use) → array ≡ is_array decls register → Says (named_registers decls) register o → NamedTwice decls register → is_twice array o ≡ true
  twice_given array None e s (inl (one, other, a, b, n)) = absurd (s one (given one a))
  twice_given array None e s (inr (inl (unit, a, l, n))) = absurd (s unit (given unit a))
  twice_given array None e s (inr (inr (unit, second, a, b, n))) = absurd (s unit (given unit a))
  twice_given array (Some (usage.Once looped)) e s (inl (one, other, a, b, n)) = absurd (n (s.only one (given one a) ∙ sym (s.only other (given other b))))
  twice_given array (Some (usage.Once looped)) e s (inr (inl (unit, a, l, n))) =
      looped_from looped array (s.same_loop ∙ looped_is s.unit unit s.at.naming l.0 s.at.here l.1 (sym (s.only unit (given unit a)))) (e ∙ n)
  twice_given array (Some (usage.Once looped)) e s (inr (inr (unit, second, a, b, n))) =
      let k = same_unit s.unit unit s.at.naming b.0 s.at.here b.1 (sym (s.only unit (given unit a))) in
      absurd (n (s.alone second (ap (λ z. among z.1 second) k ∙ list_any-from_Contains nat_list_eq_equiv second b.0.1 b.2)))
  twice_given array (Some usage.Twice) e s n = refl

  pub named_twice : (array : Bool) → array ≡ is_array decls register → (is_twice array (use_in_units (named_registers decls) register) ≡ true) ↔ NamedTwice decls register
  named_twice array e = (twice_told array (use_in_units (named_registers decls) register) e (says (named_registers decls) register), twice_given array (use_in_units (named_registers decls) register) e (says (named_registers decls) register))

  unnamed_told : (o : Option Use) → Says (named_registers decls) register o → is_some o ≡ false → IsUnnamed decls register
  unnamed_told None s h = λ unit n. s unit (given unit n)
  unnamed_told (Some one) s h = cc

  unnamed_given : (o : Option Use) → Says (named_registers decls) register o → IsUnnamed decls register → is_some o ≡ false
  unnamed_given None s h = refl
  unnamed_given (Some one) s h = let at = unit_named (named_registers decls) register one s in absurd (h at.0 (unit_taken at.0 at.1))

  pub unnamed : (is_some (use_in_units (named_registers decls) register) ≡ false) ↔ IsUnnamed decls register
  unnamed = (unnamed_told (use_in_units (named_registers decls) register) (says (named_registers decls) register), unnamed_given (use_in_units (named_registers decls) register) (says (named_registers decls) register))
