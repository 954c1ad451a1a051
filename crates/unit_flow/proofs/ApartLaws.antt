-- No two symbols of a typed program have one name, so that a name stands at one place.
use Rattle.std.proofs.Common.{◌≡◌, ℕ, zero, suc, ◌+◌, ◌<◌, Bool, true, false, ◌||◌, List, [], ◌∷◌, ◌++◌, length, get_or, None, refl, sym, ap, ◌∙◌, subst, arith, true≢false}
use Rattle.std.specs.Prelude.{if◌then◌else◌, not, nat_eq, option_map}
use Rattle.std.specs.List.{position_or_len}
use Rattle.std.proofs.lemmas.Bool.{or_right}
use Rattle.std.proofs.lemmas.Bool.Decides.{nat_tests}
use Rattle.std.proofs.lemmas.List.Concat.{flat_map-append}
use Rattle.std.proofs.lemmas.List.Folds.{list_any-append}
use Rattle.elastic_ast.specs.declared.rule.Rule.{Rule}
use Rattle.elastic_ast.specs.Tree.{Name, PlainDecl}
use Rattle.elastic_ast.specs.Typing.Scope.{same, among}
use Rattle.elastic_ast.specs.Sizes.SizeSums.{symbol_name, symbols_of}
use Rattle.elastic_ast.specs.Typing.AskedOfNames.{asks_names, top_name, top_names}
use Rattle.elastic_ast.specs.Typing.Asked.{asks_decl, is_first}
use Rattle.elastic_ast.specs.Typing.Demand.{First, first_broken}
use Rattle.elastic_ast.specs.Typing.Typed.{broken_rule, first_of}
use Rattle.elastic_laws.proofs.Typing.TypedFacts.{parts}
use Rattle.elastic_ast.proofs.Typing.SameNames.{same_if, same_told}
use Rattle.elastic_ast.proofs.Typing.TypedLaws.{none_both, unmapped}
use Rattle.elastic_laws.proofs.Typing.TypedNames.{names_new}

-- no name stands twice
abbrev pub AreApart : List Name → Type 0
AreApart [] = Unit {0}
AreApart (name ∷ names) = (among names name ≡ false) × AreApart names

-- symbols behind some declarations are apart, and none has a name of these
pub record Behind (before decls : List PlainDecl) : Type 0 where
  pub apart : AreApart (symbols_of decls)
  pub fresh : (name : Name) → among (top_names before) name ≡ true → among (symbols_of decls) name ≡ false

-- one more declaration, whose names are new
one_more : (before decls : List PlainDecl) (decl : PlainDecl) → first_broken true (asks_names (top_names before) (top_name decl)) ≡ None → Behind (before ++ decl ∷ []) decls → Behind before (decl ∷ decls)
one_more before decls decl new rest = by decl refl
  where
    names : (name : Name) → among (top_names (before ++ decl ∷ [])) name ≡ (among (top_names before) name || among (top_name decl ++ []) name)
    names name = ap (λ z. among z name) (flat_map-append top_name before (decl ∷ [])) ∙ list_any-append (same name) (top_names before) (top_name decl ++ [])

    left : (a b c : Bool) → c ≡ (a || b) → a ≡ true → c ≡ true
    left true b c e h = e
    left false b c e h = cc

    right : (a b c : Bool) → c ≡ (a || b) → b ≡ true → c ≡ true
    right true b c e h = e
    right false b c e h = e ∙ h

    known : (name : Name) → among (top_names before) name ≡ true → among (symbols_of decls) name ≡ false
    known name h = rest.fresh name (left (among (top_names before) name) (among (top_name decl ++ []) name) (among (top_names (before ++ decl ∷ [])) name) (names name) h)

    other : symbol_name decl ≡ [] → Behind before (decl ∷ decls)
    other none = record {
      apart = subst (λ z. AreApart (z ++ symbols_of decls)) (sym none) rest.apart;
      fresh = λ name h. ap (λ z. among (z ++ symbols_of decls) name) none ∙ known name h;
    }

    symbol : (own : Name) → decl ≡ PlainDecl.Symbol own → Behind before (decl ∷ decls)
    symbol own e =
        let here : among (top_name decl ++ []) own ≡ true = ap (λ d. among (top_name d ++ []) own) e ∙ ap (λ b. b || false) (same_if own own refl) in
        let is_new : among (top_names before) own ≡ false = (names_new true (top_names before) (own ∷ []) (subst (λ d. first_broken true (asks_names (top_names before) (top_name d)) ≡ None) e new) 0 own refl).0 in
        let named : symbol_name decl ≡ own ∷ [] = ap symbol_name e in record {
          apart = subst (λ z. AreApart (z ++ symbols_of decls)) (sym named) (rest.fresh own (right (among (top_names before) own) (among (top_name decl ++ []) own) (among (top_names (before ++ decl ∷ [])) own) (names own) here), rest.apart);
          fresh = λ name h. ap (λ z. among (z ++ symbols_of decls) name) named ∙ neither name h (same name own) refl is_new;
        }
      where
        neither : (name : Name) → among (top_names before) name ≡ true → (b : Bool) → same name own ≡ b → among (top_names before) own ≡ false → (same name own || among (symbols_of decls) name) ≡ false
        neither name h true e new = absurd (true≢false (sym h ∙ ap (among (top_names before)) (same_told name own e) ∙ new))
        neither name h false e new = ap (λ z. z || among (symbols_of decls) name) e ∙ known name h

    by : (d : PlainDecl) → decl ≡ d → Behind before (decl ∷ decls)
    by (PlainDecl.Symbol own) e = symbol own e
    by rest e = other (ap symbol_name e)

pub behind : (number : ℕ) (before decls : List PlainDecl) → first_of (broken_rule true) number before decls ≡ None → Behind before decls
unfolding broken_rule
behind number before [] h = record { apart = tt; fresh = λ name h. refl }
behind number before (decl ∷ decls) h =
    let both = none_both (option_map (λ x. let p : Rule × ℕ = (x, number) in p) (broken_rule true before decl)) (first_of (broken_rule true) (number + 1) (before ++ decl ∷ []) decls) h in
    let own : first_broken true (asks_names (top_names before) (top_name decl) ++ (First (is_first before decl) ∷ asks_decl before decl)) ≡ None = unmapped (broken_rule true before decl) number both.0 in
    one_more before decls decl (parts true (asks_names (top_names before) (top_name decl)) (First (is_first before decl) ∷ asks_decl before decl) own).0 (behind (number + 1) (before ++ decl ∷ []) decls both.1)

-- the first place of a name is that at which it stands
pub named_at : (name : Name) (symbols : List Name) (place : ℕ) → AreApart symbols → place < length symbols → nat_eq (position_or_len (same name) symbols) place ≡ same (get_or symbols place []) name
named_at name [] place apart h = absurd (omega arith)
named_at name (m ∷ ms) zero apart h = by (same name m) refl
  where
    by : (b : Bool) → same name m ≡ b → nat_eq (if not b then 1 + position_or_len (same name) ms else 0) 0 ≡ same m name
    by true e = sym (same_if m name (sym (same_told name m e)))
    by false e = next (position_or_len (same name) ms) ∙ sym (turned (same m name) refl)
      where
        next : (p : ℕ) → nat_eq (1 + p) 0 ≡ false
        next p = grind (arith, nat_tests)

        turned : (b : Bool) → same m name ≡ b → same m name ≡ false
        turned false f = f
        turned true f = absurd (true≢false (sym (same_if name m (sym (same_told m name f))) ∙ e))
named_at name (m ∷ ms) (suc place) apart h = by (same name m) refl (named_at name ms place apart.1 (omega arith))
  where
    by : (b : Bool) → same name m ≡ b → nat_eq (position_or_len (same name) ms) place ≡ same (get_or ms place []) name
        → nat_eq (if not b then 1 + position_or_len (same name) ms else 0) (suc place) ≡ same (get_or ms place []) name
    by false e later = next (position_or_len (same name) ms) ∙ later
      where
        next : (p : ℕ) → nat_eq (1 + p) (suc place) ≡ nat_eq p place
        next p = grind (arith, nat_tests)
    by true e later = no_more place ∙ sym (other (same (get_or ms place []) name) refl)
      where
        no_more : (p : ℕ) → nat_eq 0 (suc p) ≡ false
        no_more p = grind (arith, nat_tests)

        stands : (names : List Name) (i : ℕ) → i < length names → get_or names i [] ≡ m → among names m ≡ true
        stands [] i l g = absurd (omega arith)
        stands (n ∷ names) zero l g = ap (λ b. b || among names m) (same_if m n (sym g))
        stands (n ∷ names) (suc i) l g = or_right (same m n) (among names m) (stands names i (omega arith) g)

        other : (b : Bool) → same (get_or ms place []) name ≡ b → same (get_or ms place []) name ≡ false
        other false f = f
        other true f =
            let there : get_or ms place [] ≡ m = same_told (get_or ms place []) name f ∙ same_told name m e in
            absurd (true≢false (sym (stands ms place (omega arith) there) ∙ apart.0))
