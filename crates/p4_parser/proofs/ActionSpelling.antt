-- What the spelling of an action leaves no choice of.
use Rattle.p4_parser.specs.Reading.{OpensNextRound}
use Rattle.std.proofs.Common.{◌≡◌, ℕ, List, Option, Some, None, codes, refl, ap, subst, ◌∙◌}
use Rattle.elastic_ast.specs.declared.declarations.Param.{Param}
use Rattle.elastic_ast.specs.Tree.{PlainAction, PlainStmts}
use Rattle.spelling.specs.Words.{Word}
use Rattle.spelling.specs.Grammar.{Grammar, ◌⨟◌, Begins, Bracketed, IsSign}
use Rattle.spelling.specs.Reading.{MayTake}
use Rattle.spelling.proofs.Only.{begins_bracketed, begins_first, empty_same, not_sign, of_where, other_text, reserved_no_sign, split}
use Rattle.p4_parser.specs.Declarations.{SpellsActionIndex, SpellsParam, SpellsIndexName, SpellsParamList, SpellsParams}

pub same_action : (f g : PlainAction) → f.name ≡ g.name → f.index ≡ g.index → f.params ≡ g.params → f.body ≡ g.body → f ≡ g
same_action f g name index params body =
    let made : List ℕ → Option (List ℕ) → List Param → PlainStmts → PlainAction = λ n i p s. record { name = n; index = i; params = p; body = s } in
    let same : made f.name f.index f.params f.body ≡ made g.name g.index g.params g.body = ap (λ n. made n f.index f.params f.body) name ∙ ap (λ i. made g.name i f.params f.body) index ∙ ap (λ p. made g.name g.index p f.body) params ∙ ap (λ s. made g.name g.index g.params s) body in
    same

abbrev pub a_param : List ℕ → ℕ → Param
a_param name width = record { name = name; width = width }

-- an action's index between its brackets
pub record Indexed (depth : ℕ) (index : Option (List ℕ)) (a rest : List Word) : Type 0 where
  pub name : List ℕ
  pub is : index ≡ Some name
  pub ahead : MayTake (Bracketed (codes "[") (codes "]") depth (λ _. SpellsIndexName name)) a rest

-- where its bracket stands, there is one
pub index_there : (depth : ℕ) (index : Option (List ℕ)) {a rest : List Word} → MayTake (SpellsActionIndex depth index) a rest → Begins (IsSign (codes "(")) rest → Begins (IsSign (codes "[")) a → Indexed depth index a rest
index_there depth None {rest = rest} m ends at = absurd (other_text (codes "(") (codes "[") rest refl (λ word h. h.1) (λ word h. h.1) ends (subst (Begins (IsSign (codes "["))) (empty_same m) at))
index_there depth (Some name) m ends at = record { name = name; is = refl; ahead = m }

-- else there is none
pub index_missing : (depth : ℕ) (index : Option (List ℕ)) {a rest : List Word} → MayTake (SpellsActionIndex depth index) a rest → (Begins (IsSign (codes "[")) a → ⊥) → (None ≡ index) × (a ≡ rest)
index_missing depth None m not_at = (refl, empty_same m)
index_missing depth (Some name) m not_at = absurd (not_at (begins_bracketed (codes "[") (codes "]") depth (λ _. SpellsIndexName name) m))

-- a parameter's first word is no sign
pub param_no_sign : (param : Param) {a c : List Word} (sign : List ℕ) → MayTake (SpellsParam param) a c → Begins (IsSign sign) a → ⊥
param_no_sign param {a = a} sign m = not_sign sign a (λ word h. reserved_no_sign word.kind h.0) (begins_first (of_where (split m).first))

pub same_param : {n k : List ℕ} {w v : ℕ} → n ≡ k → w ≡ v → a_param n w ≡ a_param k v
same_param {k = k} {w = w} e f = ap (λ n. a_param n w) e ∙ ap (a_param k) f

-- the parameters of an action stand behind its index
pub opens_params : (more : ℕ) (action : PlainAction) {Q : Grammar} {a c : List Word} → MayTake (SpellsParams more action.params ⨟ Q) a c → OpensNextRound a
opens_params more action m = begins_bracketed (codes "(") (codes ")") more (λ _. SpellsParamList action.params) (split m).first
