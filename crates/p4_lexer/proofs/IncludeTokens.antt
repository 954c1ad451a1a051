-- Where an include is the longest piece of a text, and where none begins.
use Rattle.std.proofs.Common.{◌≡◌, ◌∙◌, ◌<◌, ◌≤◌, ◌+◌, ◌-◌, ◌++◌, ℕ, List, true, false, length, drop, take, get_or, sym, subst, ap, refl, arith, length-append, inl, inr, ⊎_elim}
use Rattle.std.specs.Prelude.{slice_range, codes}
use Rattle.std.specs.List.{AllPass}
use Rattle.std.proofs.lemmas.List.{get_or_default}
use Rattle.std.proofs.Math.Seq.{take-append_seam, drop-append_seam}
use Rattle.std.proofs.lemmas.Bool.{false≢true, cases_lt}
use Rattle.p4_lexer.specs.declared.token.Kind.{Kind}
use Rattle.p4_lexer.specs.declared.token.Kind.TheVariants.{Include}
use Rattle.p4_lexer.specs.Pieces.{is_blank, IsFile, IsInclude}
use Rattle.p4_lexer.specs.Tokens.{IsLongest, IsTokenAt}
use Rattle.p4_lexer.specs.BadPlaces.{HasNoToken}
use Rattle.p4_lexer.proofs.PieceBytes.{include_piece, range_len, range_byte, range_first, range_some, range_split, front_of_rest}

file_first : (code : ℕ) (file : List ℕ) → IsFile code file → get_or file 0 0 ≡ 60
file_first code file (inl core) = ap (λ list. get_or list 0 0) core.1
file_first code file (inr pisa) = ap (λ list. get_or list 0 0) pisa.1

file_len : (code : ℕ) (file : List ℕ) → IsFile code file → length file ≡ 9
file_len code file (inl core) = ap (λ list. length list) core.1
file_len code file (inr pisa) = ap (λ list. length list) pisa.1

bracket_is_no_blank : (byte : ℕ) → byte ≡ 60 → is_blank byte ≡ true → ⊥
bracket_is_no_blank byte is blank = let P : ℕ → Type 0 = λ each. is_blank each ≡ true in false≢true (subst P is blank)

blanks_bytes : (text : List ℕ) (from to : ℕ) → to ≤ length text
    → ((k : ℕ) → from ≤ k → k < to → is_blank (get_or text k 0) ≡ true) → AllPass is_blank (slice_range text from to)
blanks_bytes text from to within run k d inside =
    let len = range_len text from to within in
    let before : from + k < to = omega (arith, len) in
    let after : from ≤ from + k = omega arith in
    let P : ℕ → Type 0 = λ byte. is_blank byte ≡ true in
    subst P (sym (get_or_default (slice_range text from to) k d 0 inside ∙ range_byte text from to k before)) (run (from + k) after before)

include_text : (text : List ℕ) (at file code : ℕ) → at + 8 < file → file + 9 ≤ length text
    → slice_range text at (at + 8) ≡ codes "#include" → ((k : ℕ) → at + 8 ≤ k → k < file → is_blank (get_or text k 0) ≡ true)
    → IsFile code (slice_range text file (file + 9)) → IsInclude code (slice_range text at (file + 9))
include_text text at file code some within word blanks is = record {
  blanks = slice_range text (at + 8) file;
  file = slice_range text file (file + 9);
  split =
      range_split text at file (file + 9) (omega arith) (omega arith)
      ∙ ap (λ list. list ++ slice_range text file (file + 9)) (range_split text at (at + 8) file (omega arith) (omega arith))
      ∙ ap (λ list. (list ++ slice_range text (at + 8) file) ++ slice_range text file (file + 9)) word;
  some = range_some text (at + 8) file some (omega arith);
  blank = blanks_bytes text (at + 8) file (omega arith) blanks;
  file_is = is;
}

-- ---- the parts of an include in a text

-- an include from `at` to `end`, whose file begins at `file`
record IsIncludeIn (text : List ℕ) (at file end code : ℕ) : Type 0 where
  some : at + 8 < file
  end_is : end ≡ file + 9
  word : slice_range text at (at + 8) ≡ codes "#include"
  blank : (k : ℕ) → at + 8 ≤ k → k < file → is_blank (get_or text k 0) ≡ true
  file_is : IsFile code (slice_range text file (file + 9))

same_fronts : (front back other behind : List ℕ) → length front ≡ length other → front ++ back ≡ other ++ behind → front ≡ other
same_fronts front back other behind len same =
    sym (take-append_seam front back) ∙ ap (λ n. take n (front ++ back)) len ∙ ap (λ list. take (length other) list) same ∙ take-append_seam other behind

same_backs : (front back other behind : List ℕ) → length front ≡ length other → front ++ back ≡ other ++ behind → back ≡ behind
same_backs front back other behind len same =
    sym (drop-append_seam front back) ∙ ap (λ n. drop n (front ++ back)) len ∙ ap (λ list. drop (length other) list) same ∙ drop-append_seam other behind

include_len : (code : ℕ) (piece : List ℕ) (is : IsInclude code piece) → length piece ≡ 8 + length is.blanks + 9
include_len code piece is =
    let whole = ap (λ list. length list) is.split in
    let parts = length-append (codes "#include" ++ is.blanks) is.file in
    let front = length-append (codes "#include") is.blanks in
    let tail = file_len code is.file is.file_is in
    let eight : length (codes "#include") ≡ 8 = refl in
    omega (arith, whole, parts, front, tail, eight)

include_in : (text : List ℕ) (at end code : ℕ) → at < end → end ≤ length text → IsInclude code (slice_range text at end)
    → (file : ℕ) × IsIncludeIn text at file end code
include_in text at end code after inside is =
    let blanks : List ℕ = is.blanks in
    let file : ℕ = (at + 8) + length blanks in
    let eight : length (codes "#include") ≡ 8 = refl in
    let len : length (slice_range text at end) ≡ end - at = range_len text at end inside in
    let whole : length (slice_range text at end) ≡ 8 + length blanks + 9 = include_len code (slice_range text at end) is in
    let end_is : end ≡ file + 9 = omega arith in
    let file_in : file ≤ length text = omega arith in
    let word_in : at + 8 ≤ length text = omega arith in
    let front_len : length (slice_range text at file) ≡ length (codes "#include" ++ blanks) =
    omega (arith, range_len text at file file_in, length-append (codes "#include") blanks, eight) in
    let word_len : length (slice_range text at (at + 8)) ≡ length (codes "#include") = omega (arith, range_len text at (at + 8) word_in, eight) in
    let cut : slice_range text at file ++ slice_range text file end ≡ (codes "#include" ++ blanks) ++ is.file =
    sym (range_split text at file end (omega arith) (omega arith)) ∙ is.split in
    let front : slice_range text at file ≡ codes "#include" ++ blanks =
    same_fronts (slice_range text at file) (slice_range text file end) (codes "#include" ++ blanks) is.file front_len cut in
    let back : slice_range text file end ≡ is.file =
    same_backs (slice_range text at file) (slice_range text file end) (codes "#include" ++ blanks) is.file front_len cut in
    let front_cut : slice_range text at (at + 8) ++ slice_range text (at + 8) file ≡ codes "#include" ++ blanks =
    sym (range_split text at (at + 8) file (omega arith) (omega arith)) ∙ front in
    let blanks_are : slice_range text (at + 8) file ≡ blanks =
    same_backs (slice_range text at (at + 8)) (slice_range text (at + 8) file) (codes "#include") blanks word_len front_cut in
    let some = is.some in
    let F : List ℕ → Type 0 = λ list. IsFile code list in
    let G : ℕ → Type 0 = λ n. IsFile code (slice_range text file n) in
    let B : ℕ → Type 0 = λ byte. is_blank byte ≡ true in (
      file,
      record {
        some = omega arith;
        end_is = end_is;
        word = same_fronts (slice_range text at (at + 8)) (slice_range text (at + 8) file) (codes "#include") blanks word_len front_cut;
        blank = λ k from before.
            let j : ℕ = k - (at + 8) in
            let here : (at + 8) + j ≡ k = omega arith in
            let short : (at + 8) + j < file = omega arith in
            let inside_blanks : j < length blanks = omega arith in
            let same : get_or blanks j 0 ≡ get_or text k 0 =
            ap (λ list. get_or list j 0) (sym blanks_are) ∙ range_byte text (at + 8) file j short ∙ ap (λ i. get_or text i 0) here in
            subst B same (is.blank j 0 inside_blanks);
        file_is = subst G end_is (subst F (sym back) is.file_is);
      },
    )

bracket_at : (text : List ℕ) (file code : ℕ) → IsFile code (slice_range text file (file + 9)) → get_or text file 0 ≡ 60
bracket_at text file code is =
    let inside : file < file + 9 = omega arith in
    sym (range_first text file (file + 9) inside) ∙ file_first code (slice_range text file (file + 9)) is

-- the file begins where the blanks behind `#include` end
file_place : (text : List ℕ) (at file end code place : ℕ) → end ≤ length text → IsIncludeIn text at file end code → at + 8 ≤ place
    → ((k : ℕ) → at + 8 ≤ k → k < place → is_blank (get_or text k 0) ≡ true)
    → (place < length text → is_blank (get_or text place 0) ≡ false) → place ≡ file
file_place text at file end code place inside is from blank stop =
    let some = is.some in
    let end_is = is.end_is in
    ⊎_elim
    (λ (less : place < file). absurd (false≢true (sym (stop (omega arith)) ∙ is.blank place from less)))
    (λ (most : file ≤ place). ⊎_elim
    (λ (more : file < place). absurd (bracket_is_no_blank (get_or text file 0) (bracket_at text file code is.file_is) (blank file (omega arith) more)))
    (λ (least : place ≤ file). let same : place ≡ file = omega arith in same)
    (cases_lt file place))
    (cases_lt place file)

bracket_is_other : (byte : ℕ) → byte ≡ 60 → is_blank byte ≡ false
bracket_is_other byte is = ap (λ each. is_blank each) is

-- an include ends where its file does, since the name of a file begins with no blank
include_bound : (text : List ℕ) (at file n code other : ℕ) → at + 8 < file → n ≤ length text
    → ((k : ℕ) → at + 8 ≤ k → k < file → is_blank (get_or text k 0) ≡ true)
    → IsFile code (slice_range text file (file + 9)) → at < n → IsInclude other (slice_range text at n) → n ≤ file + 9
include_bound text at file n code other some inside blanks is after include =
    let found = include_in text at n other after inside include in
    let end_is = found.1.end_is in
    let same : file ≡ found.0 =
    file_place text at found.0 n other file inside found.1 (omega arith) blanks
    (λ within. bracket_is_other (get_or text file 0) (bracket_at text file code is)) in
    omega arith

pub include_token : (text : List ℕ) (at file code : ℕ) → get_or text at 0 ≡ 35 → at + 8 < file → file + 9 ≤ length text
    → slice_range text at (at + 8) ≡ codes "#include" → ((k : ℕ) → at + 8 ≤ k → k < file → is_blank (get_or text k 0) ≡ true)
    → IsFile code (slice_range text file (file + 9)) → IsTokenAt text at (record { kind = Include code; at = at; end = file + 9 })
include_token text at file code hash some within word blanks is = record {
  at_is = refl;
  longest = record {
    some = omega arith;
    within = within;
    piece = include_text text at file code some within word blanks is;
    longest = λ kind n after inside piece.
        let found = include_piece kind (slice_range text at n) (range_some text at n after inside) piece (range_first text at n after ∙ hash) in
        include_bound text at file n code found.0 some inside blanks is after found.1;
    alone = λ number. absurd number;
  };
}

pub file_within : (text : List ℕ) (file : ℕ) → file ≤ length text → 9 ≤ length (take (length text - file) (drop file text)) → file + 9 ≤ length text
file_within text file within long = let len = range_len text file (length text) (omega arith) in omega arith

pub file_at : (text : List ℕ) (file code : ℕ) → IsFile code (take 9 (take (length text - file) (drop file text)))
    → IsFile code (slice_range text file (file + 9))
file_at text file code is = let P : List ℕ → Type 0 = λ list. IsFile code list in subst P (front_of_rest text file 9) is

-- ---- where no include begins

include_of : (text : List ℕ) (at n : ℕ) → get_or text at 0 ≡ 35 → (kind : Kind) → IsLongest text at n kind
    → (code : ℕ) × ((file : ℕ) × IsIncludeIn text at file n code)
include_of text at n hash kind longest =
    let found = include_piece kind (slice_range text at n) (range_some text at n longest.some longest.within) longest.piece
    (range_first text at n longest.some ∙ hash) in
    (found.0, include_in text at n found.0 longest.some longest.within found.1)

pub no_include_word : (text : List ℕ) (at : ℕ) → get_or text at 0 ≡ 35
    → (take 8 (take (length text - at) (drop at text)) ≡ codes "#include" → ⊥) → HasNoToken text at
no_include_word text at hash none n kind longest =
    let found = include_of text at n hash kind longest in
    none (front_of_rest text at 8 ∙ found.1.1.word)

pub no_include_blank : (text : List ℕ) (at file : ℕ) → get_or text at 0 ≡ 35
    → (file < length text → is_blank (get_or text file 0) ≡ false) → file ≡ at + 8 → HasNoToken text at
no_include_blank text at file hash stop none n kind longest =
    let found = include_of text at n hash kind longest in
    let some = found.1.1.some in
    let same : file ≡ found.1.0 =
    file_place text at found.1.0 n found.0 file longest.within found.1.1 (omega arith) (λ k from before. absurd (omega arith)) stop in
    omega arith

pub no_include_file : (text : List ℕ) (at file : ℕ) → get_or text at 0 ≡ 35 → at + 8 ≤ file
    → ((k : ℕ) → at + 8 ≤ k → k < file → is_blank (get_or text k 0) ≡ true)
    → (file < length text → is_blank (get_or text file 0) ≡ false)
    → ((code : ℕ) → IsFile code (take 9 (take (length text - file) (drop file text))) → ⊥) → HasNoToken text at
no_include_file text at file hash from blank stop none n kind longest =
    let found = include_of text at n hash kind longest in
    let same : file ≡ found.1.0 = file_place text at found.1.0 n found.0 file longest.within found.1.1 from blank stop in
    let P : List ℕ → Type 0 = λ list. IsFile found.0 list in
    let Q : ℕ → Type 0 = λ place. IsFile found.0 (slice_range text place (place + 9)) in
    none found.0 (subst P (sym (front_of_rest text file 9)) (subst Q (sym same) found.1.1.file_is))

-- ---- an include has one file

core_is_not_pisa : (file : List ℕ) → file ≡ codes "<core.p4>" → file ≡ codes "<pisa.p4>" → ⊥
core_is_not_pisa file core pisa =
    let first : get_or file 1 0 ≡ 99 = ap (λ list. get_or list 1 0) core in
    let second : get_or file 1 0 ≡ 112 = ap (λ list. get_or list 1 0) pisa in
    omega arith

one_file : (code other : ℕ) (file : List ℕ) → IsFile code file → IsFile other file → code ≡ other
one_file code other file (inl core) (inl second) = core.0 ∙ sym second.0
one_file code other file (inl core) (inr second) = absurd (core_is_not_pisa file core.1 second.1)
one_file code other file (inr pisa) (inl second) = absurd (core_is_not_pisa file second.1 pisa.1)
one_file code other file (inr pisa) (inr second) = pisa.0 ∙ sym second.0

pub one_include : (code other : ℕ) (piece : List ℕ) → IsInclude code piece → IsInclude other piece → code ≡ other
one_include code other piece is second =
    let first_len = include_len code piece is in
    let second_len = include_len other piece second in
    let fronts : length (codes "#include" ++ is.blanks) ≡ length (codes "#include" ++ second.blanks) =
    omega (arith, length-append (codes "#include") is.blanks, length-append (codes "#include") second.blanks) in
    let files : is.file ≡ second.file =
    same_backs (codes "#include" ++ is.blanks) is.file (codes "#include" ++ second.blanks) second.file fronts (sym is.split ∙ second.split) in
    let P : List ℕ → Type 0 = λ list. IsFile code list in
    one_file code other second.file (subst P files is.file_is) second.file_is
