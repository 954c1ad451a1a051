-- From what was found in the files and chosen for them to what is answered.
use Rattle.std.proofs.Common.{◌≡◌, ℕ, zero, suc, ◌<◌, List, [], ◌∷◌, length, Option, Some, refl, sym, ap, ◌∙◌, subst, arith, inl, inr}
use Rattle.std.specs.Prelude.{IfSome, IfOk, Result, Ok, Err, slice_get}
use Rattle.elastic_ast.specs.Tree.{Name, PlainProgram}
use Rattle.elastic_ast.specs.Sizes.SizeSums.{symbols_of}
use Rattle.elastic_ast.specs.Units.UnitsOf.{OpsFit, units_of}
use Rattle.target_desc.specs.declared.target.Target.{Target}
use Rattle.size_search.specs.declared.choosing.Choice.{Choice}
use Rattle.size_search.specs.declared.choosing.Choice.TheVariants as choice
use Rattle.p4all_top.specs.declared.sizing.Outcome.{Outcome}
use Rattle.p4all_top.specs.declared.status.Status.{Status}
use Rattle.p4all_top.specs.Answer.{Answer}
use Rattle.p4all_top.specs.declared.status.Status.TheVariants as status
use Rattle.size_search.specs.Choice.{IsChoice}
use Rattle.p4all_top.specs.Limits.{size_splits}
use Rattle.unit_flow.specs.TooLarge.{IsFirstAbove}
use Rattle.p4all_top.specs.Command.{Size}
use Rattle.p4all_top.specs.Printed.{sizes_text, unit_text, unbounded_text}
use Rattle.p4all_top.specs.Shown.{IsAnswerFor, ShowsChoice}

there : (names : List Name) (place : ℕ) → place < length names → (name : Name) × (slice_get names place ≡ Some name)
there [] place h = absurd (omega arith)
there (x ∷ xs) zero h = (x, refl)
there (x ∷ xs) (suc place) h = there xs place (omega arith)

-- what is shown for a choice is the answer
answer_is : (decls : PlainProgram) (on : Target) (made : Choice) (outcome : Outcome) → OpsFit decls on.ops → IsChoice decls on size_splits made → ShowsChoice (symbols_of decls) made outcome → IsAnswerFor decls on outcome.status outcome.lines
answer_is decls on (choice.Best placed tree) outcome fits chosen shows source target text description taken =
    subst (λ (z : Status). Answer (Size source target) (text ∷ description ∷ []) z [] outcome.lines) (sym shows.0) (
      refl,
      record {
        decls = decls;
        on = on;
        taken = taken;
        fits = fits;
        placed = placed;
        tree = tree;
        best = chosen;
        lines = shows.1;
      },
    )
answer_is decls on (choice.Infeasible tree) outcome fits chosen shows source target text description taken =
    subst (λ (z : Status). Answer (Size source target) (text ∷ description ∷ []) z [] outcome.lines) (sym shows.0)
    (refl, record { decls = decls; on = on; taken = taken; fits = fits; tree = tree; none = chosen; line = shows.1 })
answer_is decls on (choice.Unbounded symbol) outcome fits chosen shows source target text description taken =
    let name = there (symbols_of decls) symbol chosen.within in
    subst (λ (z : Status). Answer (Size source target) (text ∷ description ∷ []) z [] outcome.lines) (sym shows.0) (
      refl,
      inr (inr (inr (inl record {
        decls = decls;
        on = on;
        taken = taken;
        fits = fits;
        place = symbol;
        unbounded = chosen;
        symbol = name.0;
        named = name.1;
        line = subst (λ (z : Option Name). IfSome z (λ name. outcome.lines ≡ unbounded_text name)) name.1 shows.1;
      }))),
    )
answer_is decls on (choice.Large what count) outcome fits chosen shows source target text description taken =
    subst (λ (z : Status). Answer (Size source target) (text ∷ description ∷ []) z [] outcome.lines) (sym shows.0)
    (refl, inr (inr (inr (inr record { decls = decls; on = on; taken = taken; fits = fits; what = what; count = count; large = chosen; line = shows.1 }))))
answer_is decls on (choice.Unfinished best tree) outcome fits chosen shows source target text description taken =
    subst (λ (z : Status). Answer (Size source target) (text ∷ description ∷ []) z [] outcome.lines) (sym shows.0) (
      refl,
      record {
        decls = decls;
        on = on;
        taken = taken;
        fits = fits;
        best = best;
        tree = tree;
        unfinished = chosen;
        claim = shows.1.0;
        claimed = shows.1.1;
        lines = shows.1.2;
      },
    )

-- what was made without want of memory is as it must be
pub choice_made : (decls : PlainProgram) (on : Target) (made : Choice) {E : Type 0} (result : Result Choice E) → result ≡ Ok made → IfOk result (IsChoice decls on size_splits) → IsChoice decls on size_splits made
choice_made decls on made {E} result was chosen = subst (λ (z : Result Choice E). IfOk z (IsChoice decls on size_splits)) was chosen

-- and so where there is memory for it
pub answer_found : (decls : PlainProgram) (on : Target) (symbols : List Name) (made : Choice) {E : Type 0} (result : Result Outcome E) → OpsFit decls on.ops → symbols ≡ symbols_of decls → IsChoice decls on size_splits made → IfOk result (ShowsChoice symbols made)
    → IfOk result (λ outcome. IsAnswerFor decls on outcome.status outcome.lines)
answer_found decls on symbols made (Ok outcome) fits e chosen shows = answer_is decls on made outcome fits chosen (subst (λ (z : List Name). ShowsChoice z made outcome) e shows)
answer_found decls on symbols made (Err x) fits e chosen shows = tt

-- what is shown for a unit that is too large is the answer, where there is memory for it
pub unit_found : (decls : PlainProgram) (on : Target) (unit ops : ℕ) {E : Type 0} (result : Result Outcome E) → IsFirstAbove (units_of decls) on.ops unit ops → IfOk result (λ outcome. outcome.status ≡ status.Refused)
    → IfOk result (λ outcome. outcome.lines ≡ unit_text unit ops) → IfOk result (λ outcome. IsAnswerFor decls on outcome.status outcome.lines)
unit_found decls on unit ops (Ok outcome) first ended shown = λ source target text description taken.
    subst (λ (z : Status). Answer (Size source target) (text ∷ description ∷ []) z [] outcome.lines) (sym ended)
    (refl, inr (inr (inl record { decls = decls; on = on; taken = taken; unit = unit; ops = ops; first = first; line = shown })))
unit_found decls on unit ops (Err x) first ended shown = tt
