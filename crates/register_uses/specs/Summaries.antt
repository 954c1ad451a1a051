-- What a list of registers comes down to: none, one alone, or several different ones; this project's own.
use Rattle.std.specs.Prelude.{List, [], ◌∷◌, if◌then◌else◌}
use Rattle.elastic_ast.specs.Tree.{Name}
use Rattle.elastic_ast.specs.Typing.Scope.{same}
use Rattle.register_uses.specs.declared.summary.Summary.{Summary}
use Rattle.register_uses.specs.declared.summary.Summary.TheVariants as summary

pub data PlainSummary : Type 0 where
  Nothing : PlainSummary
  Only : Name → PlainSummary
  Several : PlainSummary

-- what two lists come down to together
abbrev pub both : PlainSummary → PlainSummary → PlainSummary
both PlainSummary.Nothing other = other
both (PlainSummary.Only name) PlainSummary.Nothing = PlainSummary.Only name
both (PlainSummary.Only name) (PlainSummary.Only other) = if same name other then PlainSummary.Only name else PlainSummary.Several
both (PlainSummary.Only name) PlainSummary.Several = PlainSummary.Several
both PlainSummary.Several other = PlainSummary.Several

abbrev pub summed : List Name → PlainSummary
summed [] = PlainSummary.Nothing
summed (name ∷ names) = both (PlainSummary.Only name) (summed names)

-- a summary without its places in memory
abbrev pub plain_summary : Summary → PlainSummary
plain_summary summary.Nothing = PlainSummary.Nothing
plain_summary (summary.Only name) = PlainSummary.Only name.now
plain_summary summary.Several = PlainSummary.Several
