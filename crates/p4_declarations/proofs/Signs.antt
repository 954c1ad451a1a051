-- The signs of terms and the relations: each is spelled by one sign, which no other is spelled by.
use Rattle.std.proofs.Common.{◌≡◌, ℕ, Bool, true, false, List, Option, Some, Ok, codes, bytes_eq, refl, subst, sym, ap, ◌∙◌, cond}
use Rattle.elastic_ast.specs.declared.declarations.Rel.{Rel}
use Rattle.elastic_ast.specs.declared.declarations.Rel.TheVariants as rel
use Rattle.spelling.specs.Words.{Word}
use Rattle.spelling.specs.Grammar.{Grammar, ◌⨟◌, Begins, IsSign, Sign}
use Rattle.spelling.specs.Reading.{ahead, MayTake, Takes, Ends}
use Rattle.spelling.specs.Readers.{Reads, itself}
use Rattle.spelling.specs.declared.reader.Reader.{Reader}
use Rattle.spelling.proofs.Only.{begins, begins_first, ends_sign, one_end, other_sign, same_end, same_text}
use Rattle.spelling.proofs.Taking.{may}
use Rattle.p4_declarations.specs.GoesOn.{product_signs, sum_signs}
use Rattle.p4_declarations.specs.Sums.{SpellsRelation, SpellsSign}

pub same_sign : (read minus : Bool) {a b c : List Word} → MayTake (SpellsSign minus) a c → Takes (SpellsSign read) a b → (Some read ≡ Some minus) × (b ≡ c)
same_sign true true m t = (refl, same_end m t)
same_sign true false m t = absurd (other_sign (codes "+") (codes "-") refl m t)
same_sign false true m t = absurd (other_sign (codes "-") (codes "+") refl m t)
same_sign false false m t = (refl, same_end m t)

pub same_minus : {read minus : Bool} → Some read ≡ Some minus → minus ≡ read
same_minus e = cc

pub no_sign_there : (minus : Bool) {a c : List Word} → MayTake (SpellsSign minus) a c → (Begins (IsSign (codes "-")) a → ⊥) → (Begins (IsSign (codes "+")) a → ⊥) → ⊥
no_sign_there true m no_minus no_plus = no_minus (begins m)
no_sign_there false m no_minus no_plus = no_plus (begins m)

-- a product ends where a sign follows, and a sum goes on
pub sign_follows : (minus : Bool) {Q : Grammar} {a c : List Word} → MayTake (SpellsSign minus ⨟ Q) a c → Ends product_signs a
sign_follows true {a = a} m = ends_sign product_signs (codes "-") a refl (begins_first m)
sign_follows false {a = a} m = ends_sign product_signs (codes "+") a refl (begins_first m)

pub sign_goes_on : (minus : Bool) {a b : List Word} → Takes (SpellsSign minus) a b → Ends sum_signs a → ⊥
sign_goes_on true t ends = ends.1.1.0 (begins (may t))
sign_goes_on false t ends = ends.1.0 (begins (may t))

-- the sign of a relation, and the relation of a sign
text_of : Rel → List ℕ
text_of rel.Le = codes "<="
text_of rel.Lt = codes "<"
text_of rel.Ge = codes ">="
text_of rel.Gt = codes ">"
text_of rel.Eq = codes "=="

by_text : List ℕ → Option Rel
by_text text = cond (bytes_eq text (codes "<=")) (Some rel.Le) (cond (bytes_eq text (codes "<")) (Some rel.Lt) (cond (bytes_eq text (codes ">=")) (Some rel.Ge) (cond (bytes_eq text (codes ">")) (Some rel.Gt) (Some rel.Eq))))

by_its_text : (r : Rel) → by_text (text_of r) ≡ Some r
unfolding by_text text_of
by_its_text rel.Le = refl
by_its_text rel.Lt = refl
by_its_text rel.Ge = refl
by_its_text rel.Gt = refl
by_its_text rel.Eq = refl

relation_text : (r : Rel) {a c : List Word} → MayTake (SpellsRelation r) a c → MayTake (Sign (text_of r)) a c
unfolding text_of
relation_text rel.Le m = m
relation_text rel.Lt m = m
relation_text rel.Ge m = m
relation_text rel.Gt m = m
relation_text rel.Eq m = m

pub same_relation : (read r : Rel) {a b c : List Word} → MayTake (SpellsRelation r) a c → Takes (SpellsRelation read) a b → (read ≡ r) × (b ≡ c)
same_relation read r m t =
    let same : text_of read ≡ text_of r = same_text (relation_text read (may t)) (relation_text r m) in
    let some : Some read ≡ Some r = sym (by_its_text read) ∙ ap by_text same ∙ by_its_text r in
    (cc, one_end (relation_text r m) (relation_text read (may t)))

-- the relation that stands first is read, by a reader that is where it was
pub reads_relation : (read : Rel) {before now after : Reader} → now ≡ before → Takes (SpellsRelation read) (ahead now) (ahead after) → Reads SpellsRelation itself before after (Ok read)
reads_relation read {after = end} same t =
    subst (λ at. Reads SpellsRelation itself at end (Ok read)) same record { taken = t; only = λ r rest m. same_relation read r m t; shallow = tt }

pub no_relation : (r : Rel) {a c : List Word} → MayTake (SpellsRelation r) a c → (Begins (IsSign (codes "<=")) a → ⊥) → (Begins (IsSign (codes "<")) a → ⊥) → (Begins (IsSign (codes ">=")) a → ⊥) → (Begins (IsSign (codes ">")) a → ⊥) → (Begins (IsSign (codes "==")) a → ⊥) → ⊥
no_relation rel.Le m le lt ge gt eq = le (begins m)
no_relation rel.Lt m le lt ge gt eq = lt (begins m)
no_relation rel.Ge m le lt ge gt eq = ge (begins m)
no_relation rel.Gt m le lt ge gt eq = gt (begins m)
no_relation rel.Eq m le lt ge gt eq = eq (begins m)

-- a sum ends where a relation follows
pub relation_follows : (r : Rel) {Q : Grammar} {a c : List Word} → MayTake (SpellsRelation r ⨟ Q) a c → Ends sum_signs a
relation_follows rel.Le {a = a} m = ends_sign sum_signs (codes "<=") a refl (begins_first m)
relation_follows rel.Lt {a = a} m = ends_sign sum_signs (codes "<") a refl (begins_first m)
relation_follows rel.Ge {a = a} m = ends_sign sum_signs (codes ">=") a refl (begins_first m)
relation_follows rel.Gt {a = a} m = ends_sign sum_signs (codes ">") a refl (begins_first m)
relation_follows rel.Eq {a = a} m = ends_sign sum_signs (codes "==") a refl (begins_first m)
