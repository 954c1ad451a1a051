-- What program a text spells, or why it spells none, from what its readers answered.
use Rattle.std.proofs.lemmas.List.{length-map}
use Rattle.elastic_ast.specs.Seen.{seen_decl}
use Rattle.spelling.specs.Words.{word_of}
use Rattle.p4_parser.proofs.FewDeclarations.{few_declarations}
use Rattle.width_check.specs.Sound.{most_declarations}
use Rattle.p4all_top.specs.Limits.{most_source}
use Rattle.std.proofs.Common.{◌≡◌, ℕ, ◌≤◌, false, List, length, Some, refl, sym, ap, ◌∙◌, subst, arith, inl, inr}
use Rattle.std.specs.Prelude.{Result, Ok, Err}
use Rattle.elastic_ast.specs.declared.declarations.Decl.{Decl}
use Rattle.elastic_ast.specs.declared.declarations.Program.{Program}
use Rattle.elastic_ast.specs.Seen.{seen_decls, seen_program}
use Rattle.elastic_ast.specs.Tree.{PlainProgram}
use Rattle.elastic_ast.specs.Typing.Typed.{Typed}
use Rattle.p4_lexer.specs.declared.token.Token.{Token}
use Rattle.p4_lexer.specs.Tokens.{TokensOf}
use Rattle.p4_lexer.proofs.OneReading.{one_list, bad_has_none}
use Rattle.p4_parser.specs.Declarations.{SpellsProgram}
use Rattle.p4_parser.specs.ProgramOf.{IsProgramOf, most_brackets}
use Rattle.p4_parser.specs.Reaching.{ProgramPassed}
use Rattle.p4_parser.specs.Reading.{ProgramHasFew}
use Rattle.spelling.specs.declared.error.SyntaxError.{SyntaxError}
use Rattle.spelling.specs.declared.error.SyntaxError.TheVariants as parsed
use Rattle.spelling.specs.Bounds.{IfTooDeepAt, PassedAt}
use Rattle.spelling.specs.Reading.{IsReadWithin, NamesAtMost}
use Rattle.spelling.specs.Words.{words}
use Rattle.width_check.specs.declared.checking.CheckError.{CheckError}
use Rattle.width_check.specs.declared.checking.CheckError.TheVariants as checked
use Rattle.width_check.specs.Broken.{BreaksFirst, IsBroken}
use Rattle.width_check.proofs.BrokenLaws.{breaks_of}
use Rattle.p4all_top.specs.declared.parsing.Refusal.{Refusal}
use Rattle.p4all_top.specs.declared.parsing.Refusal.TheVariants as refusal
use Rattle.p4all_top.specs.Refusing.{parser_refusal, check_refusal}
use Rattle.p4all_top.specs.Source.{HasNoProgram, IsOnlyProgram, IsNoSource, IsRefusedBy, IsSourceRefused, SpellsOne}

abbrev OnlyReads : List ℕ → List Token → Result Program SyntaxError → Type 0
OnlyReads text given result = (more : ℕ) (program : PlainProgram) → SpellsProgram more program (words text given) → IsReadWithin ((more ≤ most_brackets) × ProgramHasFew program) seen_program program result

-- a program of the text is spelled by its tokens
spelled_by : (text : List ℕ) (tokens given : List Token) (program : PlainProgram) → TokensOf text tokens → given ≡ tokens → IsProgramOf text program → SpellsProgram most_brackets program (words text given)
spelled_by text tokens given program of e spells =
    subst (λ (z : List Token). SpellsProgram most_brackets program (words text z)) (one_list text spells.tokens tokens spells.tokens_are of ∙ sym e) spells.spelled

-- where the tokens spell nothing
pub refused_tree : (text : List ℕ) (tokens given : List Token) (error : SyntaxError) (why : Refusal) → TokensOf text tokens → given ≡ tokens → OnlyReads text given (Err error) → NamesAtMost (length given) error → IfTooDeepAt (PassedAt (ProgramPassed most_brackets) text given 0) error → parser_refusal error ≡ Some why
    → IsRefusedBy text why
refused_tree text tokens given (parsed.NotProgram token) why of e only named deep is =
    let same : refusal.Syntax token ≡ why = cc in
    subst (λ (z : Refusal). IsRefusedBy text z) same record {
      tokens = given;
      tokens_are = subst (λ (z : List Token). TokensOf text z) (sym e) of;
      within = named;
      none = only;
    }
refused_tree text tokens given (parsed.TooDeep token) why of e only named deep is =
    let same : refusal.Deep token ≡ why = cc in
    subst (λ (z : Refusal). IsRefusedBy text z) same record {
      tokens = given;
      tokens_are = subst (λ (z : List Token). TokensOf text z) (sym e) of;
      passed = deep;
      none = λ program spells. only most_brackets program (spelled_by text tokens given program of e spells) (omega arith, spells.few);
    }
refused_tree text tokens given parsed.Memory why of e only named deep is = absurd (cc is)

-- what the parser gives of the tokens of a text
pub record IsParsed (text : List ℕ) (tokens given : List Token) (tree : Program) : Type 0 where
  pub of : TokensOf text tokens
  pub same : given ≡ tokens
  pub only : OnlyReads text given (Ok tree)
  pub spelled : SpellsProgram most_brackets (seen_program tree) (words text given)
  pub few : ProgramHasFew (seen_program tree)

-- the parser gives no more declarations than the checker takes
pub few_parsed : (text : List ℕ) (tokens given : List Token) (tree : Program) → IsParsed text tokens given tree → length text ≤ most_source → length tokens ≤ length text → length tree.decls ≤ most_declarations
few_parsed text tokens given tree read short fewer =
    let many = few_declarations most_brackets (seen_program tree) (words text given) read.spelled in
    let seen : length (seen_program tree) ≡ length tree.decls = length-map tree.decls seen_decl in
    let worded : length (words text given) ≡ length given = length-map given (word_of text) in
    let same : length given ≡ length tokens = ap length read.same in
    omega (arith, many, seen, worded, same, short, fewer)

program_is : (text : List ℕ) (tokens given : List Token) (tree : Program) → IsParsed text tokens given tree → IsProgramOf text (seen_program tree)
program_is text tokens given tree read = record {
  tokens = tokens;
  tokens_are = read.of;
  spelled = subst (λ (z : List Token). SpellsProgram most_brackets (seen_program tree) (words text z)) read.same read.spelled;
  few = read.few;
}

-- all that a program of the text can be
same_tree : (text : List ℕ) (tokens given : List Token) (tree : Program) (program : PlainProgram) → IsParsed text tokens given tree → IsProgramOf text program → program ≡ seen_program tree
same_tree text tokens given tree program read spells = sym (read.only most_brackets program (spelled_by text tokens given program read.of read.same spells))

spells_one : (Holds : PlainProgram → Type 0) (text : List ℕ) (tokens given : List Token) (tree : Program) → IsParsed text tokens given tree → Holds (seen_program tree) → SpellsOne Holds text
spells_one Holds text tokens given tree read holds = record {
  program = seen_program tree;
  spelled = program_is text tokens given tree read;
  only = λ other spells. same_tree text tokens given tree other read spells;
  holds = holds;
}

-- where the program isn't taken
pub refused_program : (text : List ℕ) (tokens given : List Token) (tree : Program) (error : CheckError) (why : Refusal) → IsParsed text tokens given tree → IsBroken false (seen_program tree) error → check_refusal error ≡ Some why → IsRefusedBy text why
refused_program text tokens given tree (checked.Broken found) why read broken is =
    let same : refusal.Rule found.rule found.decl ≡ why = cc in
    subst (λ (z : Refusal). IsRefusedBy text z) same (spells_one (λ program. BreaksFirst false program found.rule found.decl) text tokens given tree read broken)
refused_program text tokens given tree checked.Memory why read broken is = absurd (cc is)

-- where it is
pub only_program : (text : List ℕ) (tokens given : List Token) (tree : Program) (taken : List Decl) → IsParsed text tokens given tree → taken ≡ tree.decls → Typed false (seen_program tree)
    → IsOnlyProgram text (seen_decls taken)
only_program text tokens given tree taken read same typed =
    subst (λ (z : List Decl). IsOnlyProgram text (seen_decls z)) (sym same) record {
      program = record {
        spelled = program_is text tokens given tree read;
        typed = typed;
      };
      only = λ other program. same_tree text tokens given tree other read program.spelled;
    }

-- a text that is refused has no program
pub refused_has_none : (text : List ℕ) (why : Refusal) → IsRefusedBy text why → HasNoProgram text
refused_has_none text (refusal.Byte at) bad decls program = bad_has_none text at bad.0 program.spelled.tokens program.spelled.tokens_are
refused_has_none text (refusal.Number at) bad decls program = bad_has_none text at bad.0 program.spelled.tokens program.spelled.tokens_are
refused_has_none text (refusal.Comment at) bad decls program = bad_has_none text at bad.0 program.spelled.tokens program.spelled.tokens_are
refused_has_none text (refusal.Syntax token) bad decls program = bad.none most_brackets decls (spelled_by text bad.tokens bad.tokens decls bad.tokens_are refl program.spelled)
refused_has_none text (refusal.Deep token) bad decls program = bad.none decls program.spelled
refused_has_none text (refusal.Rule rule decl) bad decls program =
    subst (λ (z : PlainProgram). Typed false z) (bad.only decls program.spelled) program.typed rule decl (breaks_of false bad.program rule decl bad.holds)
refused_has_none text _ bad decls program = bad

-- a source that is refused isn't taken
pub refused_source : (text : List ℕ) (why : Refusal) → IsSourceRefused text why → IsNoSource text
refused_source text refusal.LongSource bad = inl bad
refused_source text (refusal.Byte at) bad = inr (refused_has_none text (refusal.Byte at) bad.1)
refused_source text (refusal.Number at) bad = inr (refused_has_none text (refusal.Number at) bad.1)
refused_source text (refusal.Comment at) bad = inr (refused_has_none text (refusal.Comment at) bad.1)
refused_source text (refusal.Syntax token) bad = inr (refused_has_none text (refusal.Syntax token) bad.1)
refused_source text (refusal.Deep token) bad = inr (refused_has_none text (refusal.Deep token) bad.1)
refused_source text (refusal.Rule rule decl) bad = inr (refused_has_none text (refusal.Rule rule decl) bad.1)
refused_source text _ bad = absurd bad.1
