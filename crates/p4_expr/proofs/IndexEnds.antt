-- Readers of what an index may end.
use Rattle.std.proofs.Common.{◌≡◌, ℕ, ◌<◌, ◌≤◌, List, length, None, Some, Option, Ok, Result, ap, arith, codes, subst, sym}
use Rattle.std.proofs.lemmas.Result.{IfOk-weaker}
use Rattle.std.specs.Result.{IsErrAnd}
use Rattle.elastic_ast.specs.declared.statements.Lval.{Lval}
use Rattle.spelling.specs.Words.{Word}
use Rattle.spelling.specs.Grammar.{Bracketed, Grammar, Named}
use Rattle.spelling.specs.Bounds.{IfTooDeep, Line, OpensNext, Stops}
use Rattle.spelling.specs.Reading.{ahead, IsReading, MayTake, WantsOr}
use Rattle.spelling.specs.Readers.{itself}
use Rattle.spelling.specs.declared.error.SyntaxError.{SyntaxError}
use Rattle.spelling.specs.declared.reader.Reader.{Reader}
use Rattle.spelling.proofs.Only.{empty_same}
use Rattle.spelling.proofs.Refusals.{of_refusal}
use Rattle.p4_expr.specs.GoesOn.{EndsIndex}
use Rattle.p4_expr.specs.Parts.{ReadsPlace, ReadsToIndex, SpellsIndex, SpellsLval}

-- what is read whatever follows
pub read_exactly : {A I : Type 0} {Taken : Grammar → List Word → List Word → Type 0} {Of : ℕ → A → Grammar} {made : I → A} {depth : ℕ} {before after : Reader} (read : A) → Taken (Of depth read) (ahead before) (ahead after) → ((more : ℕ) (of : I) (rest : List Word) → MayTake (Of more (made of)) (ahead before) rest → (read ≡ made of) × (ahead after ≡ rest)) → ReadsToIndex Taken Of made depth before after (Ok read)
read_exactly read taken only =
    record {
      taken = taken;
      only = λ more of rest m ends. only more of rest m;
      longest = λ more of rest m. omega (arith, ap length (only more of rest m).1);
      deep = tt;
    }

pub refused_to_index : {A I : Type 0} {Taken : Grammar → List Word → List Word → Type 0} {Of : ℕ → A → Grammar} {made : I → A} {depth : ℕ} {before after : Reader} {result : Result A SyntaxError} (e : SyntaxError) → IsErrAnd result (λ d. d ≡ e) → ((more : ℕ) (of : I) (rest : List Word) → MayTake (Of more (made of)) (ahead before) rest → EndsIndex rest → WantsOr (more ≤ depth) e) → IfTooDeep (Stops (Line depth) OpensNext (ahead before) (ahead after)) e → ReadsToIndex Taken Of made depth before after result
refused_to_index {Taken = Taken} {Of = Of} {made = made} {depth = depth} {before = before} {after = end} e is want deep =
    of_refusal (λ r. ReadsToIndex Taken Of made depth before end r) is record { taken = tt; only = want; longest = tt; deep = deep }

-- an index that is read where one stands is no shorter than none
pub index_past : (more : ℕ) (index : Option (List ℕ)) {a b rest : List Word} → MayTake (SpellsIndex more index) a rest → length b < length a → ((name : List ℕ) → MayTake (Bracketed (codes "[") (codes "]") more (λ _. Named name)) a rest → b ≡ rest) → length b ≤ length rest
index_past more None m less only = omega (arith, ap length (empty_same m), less)
index_past more (Some name) m less only = omega (arith, ap length (only name m))

-- a reader of one form of place reads each place, where all that are spelled are of this form
pub any_place : {I : Type 0} (made : I → Lval) {depth : ℕ} {before after : Reader} {result : Result Lval SyntaxError} → ReadsPlace made depth before after result → ((more : ℕ) (place : Lval) (rest : List Word) → MayTake (SpellsLval more place) (ahead before) rest → (of : I) × (made of ≡ place)) → ReadsPlace itself depth before after result
any_place made {depth = depth} {before = before} {after = end} {result = result} r all =
    let same = λ (more : ℕ) (place : Lval) (rest : List Word) (m : MayTake (SpellsLval more place) (ahead before) rest). let f = all more place rest m in subst (λ p. MayTake (SpellsLval more p) (ahead before) rest) (sym f.1) m in
    record {
      taken = r.taken;
      only = λ more place rest m ends.
          let f = all more place rest m in
          subst (λ p. IsReading (more ≤ depth) itself p rest (ahead end) result) f.1 (r.only more f.0 rest (same more place rest m) ends);
      longest = IfOk-weaker result _ _ (λ _ longest. λ more place rest m. longest more (all more place rest m).0 rest (same more place rest m)) r.longest;
      deep = r.deep;
    }
