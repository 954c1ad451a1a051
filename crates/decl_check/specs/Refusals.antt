-- Why a declaration is refused, and what an answer says of it; this project's own.
use Rattle.std.specs.Prelude.{◌≡◌, List, Option, None, Result, IfErr, IfOk, OnOk, Some}
use Rattle.elastic_ast.specs.declared.rule.Rule.{Rule}
use Rattle.elastic_ast.specs.Tree.{Name}
use Rattle.decl_check.specs.declared.refusal.Refusal.{Refusal}
use Rattle.decl_check.specs.declared.refusal.Refusal.TheVariants.{Broken, Memory}

-- a refusal names the rule, unless memory was wanting
abbrev pub IsRefusal : Refusal → Option Rule → Type 0
IsRefusal (Broken rule) broken = broken ≡ Some rule
IsRefusal Memory broken = Unit {0}

-- a refusal that isn't for want of memory
abbrev pub NamesRule : Refusal → Type 0
NamesRule (Broken rule) = Unit {0}
NamesRule Memory = ⊥

-- nothing is broken where the answer is no refusal
abbrev pub PassesOn : {A T : Type 0} → Option A → Result T Refusal → Type 0
PassesOn broken result = OnOk result (broken ≡ None)

-- what a refusal says, where there is one
abbrev pub RefusedBy : {T : Type 0} → Option Rule → Result T Refusal → Type 0
RefusedBy broken result = IfErr result (λ refusal. IsRefusal refusal broken)

-- a table has some names
abbrev pub IsTableOf : List Name → Result (List Name) Refusal → Type 0
IsTableOf names result = IfOk result (λ table. table ≡ names)
