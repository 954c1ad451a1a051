-- What the spelling of a term, a sum and a comparison leaves no choice of.
use Rattle.std.proofs.Common.{◌≡◌, ℕ, ◌<◌, ◌^◌, Bool, IsTrue, List, [], ◌∷◌, Option, Some, None, codes, sym, ap, subst, ◌∙◌, inl, inr}
use Rattle.elastic_ast.specs.declared.declarations.LinTerm.{LinTerm}
use Rattle.elastic_ast.specs.declared.declarations.Rel.{Rel}
use Rattle.elastic_ast.specs.declared.declarations.Comp.{Comp}
use Rattle.spelling.specs.Words.{Word}
use Rattle.spelling.specs.Grammar.{Each, Begins, IsNum, IsSign, is_number}
use Rattle.spelling.specs.Reading.{MayTake, Takes, Ends}
use Rattle.spelling.proofs.Taking.{takes_as, takes_both}
use Rattle.spelling.proofs.Only.{begins, begins_first, empty_same, fact_of, of_where, regroup, which}
use Rattle.p4_expr.proofs.PartSpelling.{name_no_number, named_kind}
use Rattle.p4_declarations.specs.GoesOn.{product_signs, sum_signs}
use Rattle.p4_declarations.specs.Sums.{SpellsLaterTerm, SpellsProduct, SpellsSign, SpellsTerm}
use Rattle.p4_declarations.proofs.Signs.{sign_follows}

-- a product that begins with a number has that number, and it fits
pub product_number : (by : ℕ) (symbol : Option (List ℕ)) {a c : List Word} → MayTake (SpellsProduct by symbol) a c → Begins (λ word. IsTrue (is_number word.kind)) a → (by < 2 ^ 64) × Begins (IsNum by) a
product_number by None m at = (fact_of m, begins (of_where m))
product_number by (Some symbol) {a = a} m at = elim (which m) [ inl n ↦ absurd (name_no_number a (named_kind (of_where n)) at) | inr n ↦ (fact_of n, begins_first (of_where n)) ]

pub same_comp : (f g : Comp) → f.left ≡ g.left → f.rel ≡ g.rel → f.right ≡ g.right → f ≡ g
same_comp f g left rel right =
    let made : List LinTerm → Rel → List LinTerm → Comp = λ l r k. record { left = l; rel = r; right = k } in
    let same : made f.left f.rel f.right ≡ made g.left g.rel g.right = ap (λ l. made l f.rel f.right) left ∙ ap (λ r. made g.left r f.right) rel ∙ ap (λ k. made g.left g.rel k) right in
    same

-- what follows a term within a sum ends it
pub terms_follow : (later : List LinTerm) {a c : List Word} → MayTake (Each SpellsLaterTerm later) a c → Ends sum_signs c → Ends product_signs a
terms_follow [] m ends = (λ at. ends.0 (subst (Begins (IsSign (codes "*"))) (empty_same m) at), tt)
terms_follow (term ∷ later) m ends = sign_follows term.minus (regroup m)

-- a term with its sign
pub later_term : (term : LinTerm) (minus : Bool) {a b c : List Word} → Takes (SpellsSign minus) a b → Takes (SpellsTerm minus term) b c → Takes (SpellsLaterTerm term) a c
later_term term minus {a = a} {b = b} sign t =
    takes_both (subst (λ m. Takes (SpellsSign m) a b) (sym t.spelled.0) sign) (takes_as (λ ws h. h.1) t)
