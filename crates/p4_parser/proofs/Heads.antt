-- The word, the name and the parameters with which a parser or a control begins.
use Rattle.std.proofs.Common.{◌≡◌, ◌∙◌, ℕ, ◌≤◌, List, Err, Ok, Result, ap, arith}
use Rattle.std.specs.Result.{IsErrAnd}
use Rattle.elastic_ast.specs.Tree.{Name, PlainDecl}
use Rattle.spelling.specs.Words.{Word}
use Rattle.spelling.specs.Grammar.{Grammar, ◌⨟◌, Named, Reserved}
use Rattle.spelling.specs.Reading.{ahead, MayTake, Takes, WantsOr}
use Rattle.spelling.specs.Readers.{InRound, itself, ReadsFewMade, ReadsWithin}
use Rattle.spelling.specs.Bounds.{IfTooDeep, Opens, OpensNext, Stops}
use Rattle.spelling.specs.declared.error.SyntaxError.{SyntaxError}
use Rattle.spelling.specs.declared.reader.Reader.{Reader}
use Rattle.spelling.proofs.Balance.{Stays, stays_round}
use Rattle.spelling.proofs.Bounds.{even, if_deep, opens_then, stop_opens}
use Rattle.spelling.proofs.Limits.{or_as}
use Rattle.spelling.proofs.Only.{after, after_one, named_same, wants}
use Rattle.spelling.proofs.Refusals.{refused_few_made}
use Rattle.spelling.proofs.Taking.{may}
use Rattle.p4_parser.specs.declared.parameters.Owner.{Owner}
use Rattle.p4_parser.specs.declared.parameters.Owner.TheVariants as owner
use Rattle.p4_parser.specs.Declarations.{InParameters, SpellsDeclaration, SpellsParameters}
use Rattle.p4_parser.proofs.DeclarationsWithin.{control_parameters_stay, parser_parameters_stay}
use Rattle.p4_parser.proofs.Reaching.{headed}

-- the declarations that begin so, with what stands in their block
abbrev pub HeadOf : Owner → List ℕ → {X : Type 0} → (Name × X → PlainDecl) → (ℕ → X → Grammar) → List Word → Type 0
HeadOf of word {X = X} made Block a =
    (more : ℕ) (decl : Name × X) (rest : List Word) → MayTake (SpellsDeclaration more (made decl)) a rest → MayTake (Reserved word ⨟ Named decl.0 ⨟ InRound (InParameters of) more tt ⨟ Block more decl.1) a rest

parameters_stay : (of : Owner) {depth : ℕ} → Stays depth (SpellsParameters of)
parameters_stay owner.Parser = parser_parameters_stay
parameters_stay owner.Control = control_parameters_stay

-- the name, and what stands behind the parameters
past_parameters : {X : Type 0} {depth : ℕ} {past after : Reader} {a b rest : List Word} (of : Owner) (word : List ℕ) (name : Name) (decl : Name × X) {Block : Grammar} (more : ℕ) → Takes (Reserved word) a b → Takes (Named name) b (ahead past) → ReadsWithin (InRound (InParameters of)) itself depth past after (Ok tt)
    → MayTake (Reserved word ⨟ Named decl.0 ⨟ InRound (InParameters of) more tt ⨟ Block) a rest → (name ≡ decl.0) × MayTake Block (ahead after) rest
past_parameters of word name decl more worded named r m =
    let m1 = after_one m worded in
    (named_same m1 named, (after (after_one m1 named) (λ b f s. r.only more tt b f)).1)

module _ {A X : Type 0} {seen : A → PlainDecl} {made : Name × X → PlainDecl} {Few : PlainDecl → Type 0} {Passed : List Word → List Word → Type 0} {depth : ℕ} {before end : Reader} (of : Owner) (word : List ℕ) (name : Name) (mid past : Reader) (Block : ℕ → X → Grammar) (worded : Takes (Reserved word) (ahead before) (ahead mid)) (named : Takes (Named name) (ahead mid) (ahead past)) (begins : HeadOf of word made Block (ahead before)) where
  -- the parameters are refused
  pub refused_parameters : {result : Result A SyntaxError} (e : SyntaxError) → IsErrAnd result (λ d. d ≡ e) → ReadsWithin (InRound (InParameters of)) itself depth past end (Err e) → (Stops (Opens depth) OpensNext (ahead before) (ahead end) → Passed (ahead before) (ahead end))
      → ReadsFewMade SpellsDeclaration seen made Few Passed depth before end result
  refused_parameters e is r passed =
      refused_few_made e is
      (λ more decl rest m. wants (after_one (after_one (begins more decl rest m) worded) named) (λ b f s. or_as _ _ _ (λ few. few.0) (r.only more tt b f)))
      (if_deep e (λ s. passed (stop_opens depth 0 depth (omega arith) (headed word name worded named) s)) r.deep)

  -- the block is refused
  pub refused_block : {result : Result A SyntaxError} {Inside : Type 0} (e : SyntaxError) (after : Reader) → IsErrAnd result (λ d. d ≡ e) → ReadsWithin (InRound (InParameters of)) itself depth past after (Ok tt)
      → ((more : ℕ) (decl : Name × X) (rest : List Word) → MayTake (Block more decl.1) (ahead after) rest → WantsOr ((more ≤ depth) × Few (made decl)) e) → IfTooDeep Inside e → (MayTake (Opens 0) (ahead before) (ahead after) → Inside → Passed (ahead before) (ahead end))
      → ReadsFewMade SpellsDeclaration seen made Few Passed depth before end result
  refused_block e past_them is r only deep passed =
      let even_front = opens_then 0 0 (headed word name worded named) (even depth (stays_round depth (λ _. SpellsParameters of) (λ _. parameters_stay of)) (may r.taken)) in
      refused_few_made e is (λ more decl rest m. only more decl rest (past_parameters of word name decl more worded named r (begins more decl rest m)).1) (if_deep e (passed even_front) deep)

  -- all of it is read
  pub declared : (y : A) (block : X) (after : Reader) → seen y ≡ made (name, block) → Takes (SpellsDeclaration depth (seen y)) (ahead before) (ahead end) → Few (seen y) → ReadsWithin (InRound (InParameters of)) itself depth past after (Ok tt)
      → ((more : ℕ) (x : X) (rest : List Word) → MayTake (Block more x) (ahead after) rest → (block ≡ x) × (ahead end ≡ rest)) → ReadsFewMade SpellsDeclaration seen made Few Passed depth before end (Ok y)
  declared y block past_them is taken few r only = record {
    taken = taken;
    few = few;
    only = λ more decl rest m.
        let p = past_parameters of word name decl more worded named r (begins more decl rest m) in
        let b = only more decl.1 rest p.1 in
        (is ∙ ap (λ n. made (n, block)) p.0 ∙ ap (λ x. made (decl.0, x)) b.0, b.1);
    deep = tt;
  }
