-- Which words spell each declaration that has no expression in it, in the manner of the grammar of the P4-16 language
-- specification 1.2.3; symbols, assumptions, the utility, registers and arrays of a symbol's size are this project's own.
use Rattle.std.specs.Prelude.{◌≡◌, ℕ, ◌<◌, ◌^◌, Bool, false, List, None, Some, codes}
use Rattle.p4_lexer.specs.declared.token.Kind.TheVariants as kind
use Rattle.elastic_ast.specs.declared.declarations.Field.{Field}
use Rattle.elastic_ast.specs.declared.declarations.UtilTerm.{UtilTerm}
use Rattle.elastic_ast.specs.declared.declarations.UtilTerm.TheVariants as util
use Rattle.elastic_ast.specs.Tree.{Name, PlainDecl}
use Rattle.spelling.specs.Grammar.{Grammar, Nothing, One, ◌⨟◌, Either, Where, Each, FirstThenEach, Separated, Sign, Reserved, Named, Num, Bracketed}
use Rattle.p4_expr.specs.Parts.{SpellsNumber, SpellsBits, SpellsAmount, SpellsIndex, SpellsHeader, SpellsNoArguments}
use Rattle.p4_declarations.specs.Sums.{SpellsLaterTerm, SpellsTerm, SpellsSign, SpellsComparisons}

-- INCLUDE
abbrev pub SpellsInclude : ℕ → Grammar
SpellsInclude file = Where (file < 2 ^ 8) (One (λ word. word.kind ≡ kind.Include file))

-- K, a number of 64 bits
abbrev pub SpellsStepNumber : ℕ → Grammar
SpellsStepNumber value = Where (value < 2 ^ 64) (Num value)

-- K ':' K
abbrev pub SpellsStep : ℕ × ℕ → Grammar
SpellsStep step = Where ((step.0 < 2 ^ 64) × (step.1 < 2 ^ 64)) (Num step.0 ⨟ Sign (codes ":") ⨟ Num step.1)

-- 'table' '(' N ')' '{' K ':' K (',' K ':' K)* '}'
abbrev pub SpellsSteps : ℕ → Name → List (ℕ × ℕ) → Grammar
SpellsSteps depth symbol steps = Reserved (codes "table") ⨟ Bracketed (codes "(") (codes ")") depth (λ _. Named symbol) ⨟ Bracketed (codes "{") (codes "}") depth (λ _. Separated (Sign (codes ",")) SpellsStep steps)

-- util := lterm | 'table' '(' N ')' '{' K ':' K (',' K ':' K)* '}', behind its sign
abbrev pub SpellsGainBehind : Bool → ℕ → UtilTerm → Grammar
SpellsGainBehind minus depth (util.Lin term) = SpellsTerm minus term
SpellsGainBehind minus depth (util.Steps own symbol steps) = Where (own ≡ minus) (SpellsSteps depth symbol steps)

-- the first term of a sum has no sign
abbrev pub SpellsFirstGain : ℕ → UtilTerm → Grammar
SpellsFirstGain = SpellsGainBehind false

-- ('+' | '-') util
abbrev pub SpellsLaterGain : ℕ → UtilTerm → Grammar
SpellsLaterGain depth (util.Lin term) = SpellsLaterTerm term
SpellsLaterGain depth (util.Steps minus symbol steps) = SpellsSign minus ⨟ SpellsSteps depth symbol steps

-- util (('+' | '-') util)*
abbrev pub SpellsGains : ℕ → List UtilTerm → Grammar
SpellsGains depth = FirstThenEach (SpellsFirstGain depth) (SpellsLaterGain depth)

-- V, without a width or with this one
abbrev pub SpellsConstant : ℕ → ℕ → Grammar
SpellsConstant width value = Either (SpellsNumber None value) (SpellsNumber (Some width) value)

-- a field of a header, which has no size: bits N ';'
abbrev pub SpellsHeaderField : Field → Grammar
SpellsHeaderField field = Where (field.size ≡ None) (SpellsBits field.width ⨟ Named field.name ⨟ Sign (codes ";"))

abbrev pub SpellsHeaderFields : List Field → Grammar
SpellsHeaderFields = Each SpellsHeaderField

-- a field of the metadata, perhaps with the symbol that is its size: bits ['[' N ']'] N ';'
abbrev pub SpellsMetaField : ℕ → Field → Grammar
SpellsMetaField depth field = SpellsBits field.width ⨟ SpellsIndex depth field.size ⨟ Named field.name ⨟ Sign (codes ";")

abbrev pub SpellsMetaFields : ℕ → List Field → Grammar
SpellsMetaFields depth = Each (SpellsMetaField depth)

-- a header of a packet, its type first: N N ';'
abbrev pub SpellsMember : Name × Name → Grammar
SpellsMember member = Named member.0 ⨟ Named member.1 ⨟ Sign (codes ";")

abbrev pub SpellsMembers : List (Name × Name) → Grammar
SpellsMembers = Each SpellsMember

-- N ';'
abbrev pub SpellsEndedName : Name → Grammar
SpellsEndedName name = Named name ⨟ Sign (codes ";")

-- 'pkt' '.' WORD '(' 'hdr' '.' N ')' ';'
abbrev pub SpellsOfPacket : List ℕ → ℕ → Name → Grammar
SpellsOfPacket word depth header = Named (codes "pkt") ⨟ Sign (codes ".") ⨟ Named word ⨟ Bracketed (codes "(") (codes ")") depth (λ _. SpellsHeader header) ⨟ Sign (codes ";")

abbrev pub SpellsEmit : ℕ → Name → Grammar
SpellsEmit = SpellsOfPacket (codes "emit")

-- PACKET 'pkt' ',' DIRECTION 'headers_t' 'hdr'
abbrev pub SpellsPacketParameters : List ℕ → List ℕ → Grammar
SpellsPacketParameters packet direction = Named packet ⨟ Named (codes "pkt") ⨟ Sign (codes ",") ⨟ Reserved direction ⨟ Named (codes "headers_t") ⨟ Named (codes "hdr")

abbrev pub SpellsDeparserParameters : Grammar
SpellsDeparserParameters = SpellsPacketParameters (codes "packet_out") (codes "in")

-- N '(' ')'
abbrev pub SpellsPart : ℕ → Name → Grammar
SpellsPart depth name = Named name ⨟ SpellsNoArguments depth

-- decl := INCLUDE
--   | 'symbolic' 'int' N ';'
--   | 'assume' '(' comp ('&&' comp)* ')' ';'
--   | 'maximize' '(' util (('+' | '-') util)* ')' ';'
--   | 'const' bits N '=' V ';'
--   | 'header' N '{' (bits N ';')* '}'
--   | 'struct' 'headers_t' '{' (N N ';')* '}'
--   | 'struct' 'meta_t' '{' (bits ['[' N ']'] N ';')* '}'
--   | 'Register' '<' bits '>' '(' amount ')' ['[' N ']'] N ';'
--   | 'control' N '(' 'packet_out' 'pkt' ',' 'in' 'headers_t' 'hdr' ')'
--       '{' 'apply' '{' ('pkt' '.' 'emit' '(' 'hdr' '.' N ')' ';')* '}' '}'
--   | 'Pisa' '(' N '(' ')' ',' N '(' ')' ',' N '(' ')' ')' 'main' ';'
-- A parser and a control have expressions in them.
abbrev pub SpellsFlat : ℕ → PlainDecl → Grammar
SpellsFlat depth (PlainDecl.Include file) = SpellsInclude file
SpellsFlat depth (PlainDecl.Symbol symbol) = Reserved (codes "symbolic") ⨟ Reserved (codes "int") ⨟ Named symbol ⨟ Sign (codes ";")
SpellsFlat depth (PlainDecl.Assume comps) = Named (codes "assume") ⨟ Bracketed (codes "(") (codes ")") depth (λ _. SpellsComparisons comps) ⨟ Sign (codes ";")
SpellsFlat depth (PlainDecl.Maximize terms) = Named (codes "maximize") ⨟ Bracketed (codes "(") (codes ")") depth (λ inner. FirstThenEach (SpellsFirstGain inner) (SpellsLaterGain inner) terms) ⨟ Sign (codes ";")
SpellsFlat depth (PlainDecl.Const name width value) = Reserved (codes "const") ⨟ SpellsBits width ⨟ Named name ⨟ Sign (codes "=") ⨟ SpellsConstant width value ⨟ Sign (codes ";")
SpellsFlat depth (PlainDecl.Header name fields) = Reserved (codes "header") ⨟ Named name ⨟ Bracketed (codes "{") (codes "}") depth (λ _. Each SpellsHeaderField fields)
SpellsFlat depth (PlainDecl.Headers members) = Reserved (codes "struct") ⨟ Named (codes "headers_t") ⨟ Bracketed (codes "{") (codes "}") depth (λ _. Each SpellsMember members)
SpellsFlat depth (PlainDecl.Meta fields) = Reserved (codes "struct") ⨟ Named (codes "meta_t") ⨟ Bracketed (codes "{") (codes "}") depth (λ inner. Each (SpellsMetaField inner) fields)
SpellsFlat depth (PlainDecl.Register name width cells size) = Named (codes "Register") ⨟ Sign (codes "<") ⨟ SpellsBits width ⨟ Sign (codes ">") ⨟ Bracketed (codes "(") (codes ")") depth (λ _. SpellsAmount cells) ⨟ SpellsIndex depth size ⨟ Named name ⨟ Sign (codes ";")
SpellsFlat depth (PlainDecl.Parser name states) = Nothing
SpellsFlat depth (PlainDecl.Control name locals body) = Nothing
SpellsFlat depth (PlainDecl.Deparser name emits) = Reserved (codes "control") ⨟ Named name ⨟ Bracketed (codes "(") (codes ")") depth (λ _. SpellsDeparserParameters) ⨟ Bracketed (codes "{") (codes "}") depth (λ inner. Named (codes "apply") ⨟ Bracketed (codes "{") (codes "}") inner (λ innermost. Each (SpellsEmit innermost) emits))
SpellsFlat depth (PlainDecl.Main parser control deparser) = Named (codes "Pisa") ⨟ Bracketed (codes "(") (codes ")") depth (λ inner. SpellsPart inner parser ⨟ Sign (codes ",") ⨟ SpellsPart inner control ⨟ Sign (codes ",") ⨟ SpellsPart inner deparser) ⨟ Named (codes "main") ⨟ Sign (codes ";")
