-- How an outcome shows a choice of sizes; this project's own.
use Rattle.std.specs.Prelude.{◌≡◌, ◌<◌, ℕ, ◌^◌, List, [], ◌∷◌, length, slice_get, IfSome}
use Rattle.std.specs.Option.{ForSome}
use Rattle.elastic_ast.specs.Tree.{PlainProgram}
use Rattle.target_desc.specs.declared.target.Target.{Target}
use Rattle.cert_text.specs.declared.claim.Claim.{Claim}
use Rattle.size_search.specs.declared.choosing.Choice.{Choice}
use Rattle.size_search.specs.declared.choosing.Choice.TheVariants as choice
use Rattle.size_search.specs.Choice.{known_of}
use Rattle.p4all_top.specs.Limits.{size_splits}
use Rattle.p4all_top.specs.Unfinished.{IsUnfinishedClaim, unfinished_text}
use Rattle.p4all_top.specs.declared.sizing.Outcome.{Outcome}
use Rattle.p4all_top.specs.declared.status.Status.{Status}
use Rattle.p4all_top.specs.declared.status.Status.TheVariants as status
use Rattle.p4all_top.specs.Answer.{Answer, AreTaken}
use Rattle.p4all_top.specs.Command.{Size}
use Rattle.p4all_top.specs.Printed.{sizes_text, infeasible_text, unbounded_text, large_text}

-- chosen sizes are as many as the symbols, a named symbol is one of them, and a named number is one that can be printed
abbrev pub FitsSymbols : ℕ → Choice → Type 0
FitsSymbols symbols (choice.Best placed tree) = length placed.sizes.values ≡ symbols
FitsSymbols symbols (choice.Infeasible tree) = Unit {0}
FitsSymbols symbols (choice.Unfinished best tree) = ForSome best (λ placed. length placed.sizes.values ≡ symbols)
FitsSymbols symbols (choice.Unbounded symbol) = symbol < symbols
FitsSymbols symbols (choice.Large what count) = count < 2 ^ 127

abbrev pub ShowsChoice : List (List ℕ) → Choice → Outcome → Type 0
ShowsChoice symbols (choice.Best placed tree) outcome = (outcome.status ≡ status.Done) × (outcome.lines ≡ sizes_text symbols placed.sizes.values placed.utility)
ShowsChoice symbols (choice.Unfinished best tree) outcome =
    (outcome.status ≡ status.Unfinished)
    × ((claim : Claim) × IsUnfinishedClaim symbols best claim × (outcome.lines ≡ unfinished_text size_splits (known_of best) claim tree))
ShowsChoice symbols (choice.Infeasible tree) outcome = (outcome.status ≡ status.Infeasible) × (outcome.lines ≡ infeasible_text)
ShowsChoice symbols (choice.Unbounded symbol) outcome = (outcome.status ≡ status.Refused) × IfSome (slice_get symbols symbol) (λ name. outcome.lines ≡ unbounded_text name)
ShowsChoice symbols (choice.Large what count) outcome = (outcome.status ≡ status.Refused) × (outcome.lines ≡ large_text what count)

-- what is shown for a program on a target answers `size` for each source and description that lead to them
abbrev pub IsAnswerFor : PlainProgram → Target → Status → List ℕ → Type 0
IsAnswerFor decls on ended printed =
    (source target text description : List ℕ) → AreTaken text description decls on → Answer (Size source target) (text ∷ description ∷ []) ended [] printed
