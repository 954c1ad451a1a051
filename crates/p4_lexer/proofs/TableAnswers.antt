-- What the look-ups in the tables of reserved words and signs say of these words.
use Rattle.std.proofs.Common.{◌≡◌, ◌<◌, ◌≤◌, ◌+◌, ◌-◌, ℕ, List, Option, Some, None, length, drop, take, sym, subst, arith, length-drop}
use Rattle.std.specs.Prelude.{MatchOption, slice_range}
use Rattle.case_table.specs.declared.rows.Case.{Case}
use Rattle.case_table.specs.Rows.{IsWordAt, ListsWords, IsMunched, code_in}
use Rattle.case_table.proofs.Found.{code_of_some, code_of_none, word_of_row, row_of_word, longest_has_row, longest_some, longest_within, longest_bounds, none_stands}
use Rattle.p4_lexer.specs.Pieces.{reserved_words, signs}
use Rattle.p4_lexer.specs.Tokens.{IsLongestSign}

pub reserved_answer : (table : List Case) (word : List ℕ) (found : Option ℕ) → found ≡ code_in table word → ListsWords table reserved_words
    → MatchOption found ((code : ℕ) → IsWordAt reserved_words code word → ⊥) (λ code. IsWordAt reserved_words code word)
reserved_answer table word None is lists = λ code at. code_of_none table word code (sym is) (row_of_word table reserved_words word code lists at)
reserved_answer table word (Some code) is lists = word_of_row table reserved_words word code lists (code_of_some table word code (sym is))

pub sign_answer : (table : List Case) (text : List ℕ) (at : ℕ) (found : Option (ℕ × ℕ)) → at < length text → ListsWords table signs
    → IsMunched table (drop at text) found
    → MatchOption found ((code end : ℕ) → at < end → end ≤ length text → IsWordAt signs code (slice_range text at end) → ⊥)
    (λ sign. IsLongestSign text at sign.0 sign.1)
unfolding IsMunched
sign_answer table text at None within lists munched = λ code end after most word.
    none_stands table (drop at text) munched (end - at) code (omega arith) (omega (arith, length-drop at text))
    (row_of_word table signs (take (end - at) (drop at text)) code lists word)
sign_answer table text at (Some sign) within lists munched =
    let code : ℕ = sign.0 in
    let len : ℕ = sign.1 in
    let inside : len ≤ length (drop at text) = longest_within table (drop at text) code len munched in
    let cut : (at + len) - at ≡ len = omega arith in
    let P : ℕ → Type 0 = λ n. IsWordAt signs code (take n (drop at text)) in
    record {
      some = longest_some table (drop at text) code len munched;
      within = omega (arith, length-drop at text);
      sign = subst P (sym cut) (word_of_row table signs (take len (drop at text)) code lists (longest_has_row table (drop at text) code len munched));
      longest = λ other n after most word.
          let short : n - at ≤ len = longest_bounds table (drop at text) code len munched (n - at) other (omega arith) (omega (arith, length-drop at text))
          (row_of_word table signs (take (n - at) (drop at text)) other lists word) in
          omega arith;
    }
