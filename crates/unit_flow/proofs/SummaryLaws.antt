-- Summaries stand under the names of what they are summaries of.
use Rattle.std.proofs.Common.{◌≡◌, ℕ, ◌+◌, ◌<◌, Bool, true, false, List, [], ◌∷◌, ◌++◌, take, length, get_or, Option, Some, None, refl, sym, ap, ap₂, subst, ◌∙◌}
use Rattle.std.specs.Prelude.{IfSome, map, if◌then◌else◌}
use Rattle.std.specs.Option.{option_copied}
use Rattle.std.proofs.lemmas.List.{take_more, map_push}
use denote.Bor.{Bor}
use Rattle.elastic_ast.specs.Tree.{Name, PlainDecl}
use Rattle.elastic_ast.specs.Typing.Scope.{same}
use Rattle.elastic_ast.proofs.Typing.SameNames.{same_told}
use Rattle.program_names.specs.FirstNamed.{entry_value}
use Rattle.unit_parts.specs.declared.callee.Callee.{Callee}
use Rattle.unit_parts.specs.declared.callee.Summary.{Summary}
use Rattle.expr_types.specs.ProgramParts.{table_shown}
use Rattle.unit_parts.specs.Called.{actions_shown, Called, Nothing, OfAction, OfTable, actions_called}
use Rattle.unit_parts.specs.Summaries.{IsSummary}
use Rattle.unit_flow.specs.declared.summaries.Summaries.{Summaries}
use Rattle.unit_flow.specs.Callees.{IsCallee, IsSummaryOf}
use Rattle.unit_flow.specs.Remembered.{SummaryEntries, Puts, Tell, AreSummaries, summary_under}

pub tell_put : (decls : List PlainDecl) (calls : Name → Called) (old new : SummaryEntries) (key : Name) (summary : Summary) → Puts old new key summary → IsSummaryOf decls (calls key) summary → Tell decls calls old → Tell decls calls new
tell_put decls calls old new key summary puts is before name = subst (λ z. IfSome z (IsSummaryOf decls (calls name))) (sym (puts name)) (by (same name key) refl)
  where
    by : (b : Bool) → same name key ≡ b → IfSome (if b then Some summary else entry_value old name) (IsSummaryOf decls (calls name))
    by true e = subst (λ z. IsSummaryOf decls (calls z) summary) (sym (same_told name key e)) is
    by false e = before name

pub tell_none : (decls : List PlainDecl) (calls : Name → Called) (entries : SummaryEntries) → entries ≡ [] → Tell decls calls entries
tell_none decls calls entries e name = subst (λ z. IfSome (entry_value z name) (IsSummaryOf decls (calls name))) (sym e) tt

-- what is known of what is called is a summary of it
pub known_tell : (decls : List PlainDecl) (known : Summaries) (called : Called) (summary : Summary) → AreSummaries decls known → Some summary ≡ summary_under known called → IsSummaryOf decls called summary
known_tell decls known Nothing summary are e = cc
known_tell decls known (OfAction name) summary are e = subst (λ z. IfSome z (IsSummaryOf decls (OfAction name))) (sym e) (are.actions name)
known_tell decls known (OfTable name) summary are e = subst (λ z. IfSome z (IsSummaryOf decls (OfTable name))) (sym e) (are.tables name)

-- a summary of what is declared
pub summary_is : (decls : List PlainDecl) (called : Called) (callee : Callee) (summary : Summary) → IsCallee decls called callee → IsSummary (table_shown callee.table) (actions_shown callee.actions.items) summary → IsSummaryOf decls called summary
summary_is decls called callee summary is sums = subst (λ z. IsSummary z (actions_called decls called) summary) is.table (subst (λ z. IsSummary (table_shown callee.table) z summary) is.actions sums)

pub if_known : (decls : List PlainDecl) (known : Summaries) (called : Called) (o : Option (Bor Summary)) → AreSummaries decls known → option_copied o ≡ summary_under known called → IfSome o (λ summary. IsSummaryOf decls called summary.now)
if_known decls known called None are e = tt
if_known decls known called (Some summary) are e = known_tell decls known called summary.now are e

-- what is made of one thing more stands behind what was made of those before it
pub made_more : {X Y Z : Type 0} (f : X → Z) (g : Y → Z) (old new : List X) (x : X) (ys : List Y) (i : ℕ) (y : Y) → new ≡ old ++ x ∷ [] → f x ≡ g y → i < length ys → y ≡ get_or ys i y → map f old ≡ map g (take i ys) → map f new ≡ map g (take (i + 1) ys)
made_more f g old new x ys i y e same h is before =
    ap (map f) e ∙ map_push f old x ∙ ap₂ (λ a b. a ++ b ∷ []) before (same ∙ ap g is) ∙ sym (map_push g (take i ys) (get_or ys i y)) ∙ ap (map g) (sym (take_more ys i y h))
