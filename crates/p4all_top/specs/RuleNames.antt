-- The names of the rules of types, as a refusal gives them; this project's own.
use Rattle.std.specs.Prelude.{ℕ, List, codes}
use Rattle.elastic_ast.specs.declared.rule.Rule.{Rule}
use Rattle.elastic_ast.specs.declared.rule.Rule.TheVariants as rule

abbrev pub rule_text : Rule → List ℕ
rule_text rule.UnknownName = codes "UnknownName"
rule_text rule.Twice = codes "Twice"
rule_text rule.Width = codes "Width"
rule_text rule.NoWidth = codes "NoWidth"
rule_text rule.LiteralTooWide = codes "LiteralTooWide"
rule_text rule.NotBool = codes "NotBool"
rule_text rule.NotConst = codes "NotConst"
rule_text rule.BadIndex = codes "BadIndex"
rule_text rule.BadAmount = codes "BadAmount"
rule_text rule.BadTerm = codes "BadTerm"
rule_text rule.BadSlice = codes "BadSlice"
rule_text rule.OddHeader = codes "OddHeader"
rule_text rule.NestedLoop = codes "NestedLoop"
rule_text rule.RegisterTwice = codes "RegisterTwice"
rule_text rule.RegisterUnused = codes "RegisterUnused"
rule_text rule.RegisterInTable = codes "RegisterInTable"
rule_text rule.BadKey = codes "BadKey"
rule_text rule.BadEntries = codes "BadEntries"
rule_text rule.BadCall = codes "BadCall"
rule_text rule.ParserLoop = codes "ParserLoop"
rule_text rule.ReservedName = codes "ReservedName"
rule_text rule.NoMain = codes "NoMain"
