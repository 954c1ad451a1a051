-- Which bytes a space or a comment begins with, where it ends, and that no token begins where it does.
use Rattle.std.proofs.Common.{◌≡◌, ◌∙◌, ◌<◌, ◌≤◌, ◌+◌, ◌-◌, ℕ, Bool, true, false, List, length, get_or, sym, subst, arith, inl, inr, ⊎_elim, Option, Some, None}
use Rattle.std.specs.Prelude.{MatchOption, IfSome, IfNone, ◌==◌, ◌||◌, slice_range}
use Rattle.std.proofs.lemmas.Bool.{false≢true, cases_lt}
use Rattle.std.proofs.lemmas.Bool.Decides.{nat_tests}
use Rattle.p4_lexer.specs.declared.token.Kind.{Kind}
use Rattle.p4_lexer.specs.Gaps.{is_space, IsClose, IsLineComment, IsBlockComment, IsSpacing}
use Rattle.p4_lexer.specs.Tokens.{IsLongest}
use Rattle.p4_lexer.specs.BadPlaces.{HasNoSpacing}
use Rattle.p4_lexer.proofs.PieceBytes.{piece_first, range_some, range_first}

-- a space or `/`
abbrev begins_spacing : ℕ → Bool
begins_spacing byte = is_space byte || byte == 47

slash_is_no_space : (byte : ℕ) → byte ≡ 47 → is_space byte ≡ true → ⊥
slash_is_no_space byte slash space = let P : ℕ → Type 0 = λ each. is_space each ≡ true in false≢true (subst P slash space)

space_begins : (byte : ℕ) → is_space byte ≡ true → begins_spacing byte ≡ true
space_begins byte is = grind (arith, nat_tests)

slash_begins : (byte : ℕ) → byte ≡ 47 → begins_spacing byte ≡ true
slash_begins byte is = grind (arith, nat_tests)

spacing_first : (text : List ℕ) (at end : ℕ) → IsSpacing text at end → begins_spacing (get_or text at 0) ≡ true
spacing_first text at end (inl space) = space_begins (get_or text at 0) space.space
spacing_first text at end (inr (inl line)) = slash_begins (get_or text at 0) line.first
spacing_first text at end (inr (inr block)) = slash_begins (get_or text at 0) block.first

-- ---- a space or a comment ends at one place

one_line_end : (text : List ℕ) (at end other : ℕ) → IsLineComment text at end → IsLineComment text at other → other ≤ end
one_line_end text at end other line second = ⊎_elim
    (λ (less : end < other).
    let long = line.long in
    let within = second.within in
    absurd (second.one_line end (omega arith) less (line.stop (omega arith))))
    (λ (most : other ≤ end). most)
    (cases_lt end other)

one_block_end : (text : List ℕ) (at end other : ℕ) → IsBlockComment text at end → IsBlockComment text at other → other ≤ end
one_block_end text at end other block second = ⊎_elim
    (λ (less : end < other).
    let long = block.long in
    let k : ℕ = end - 2 in
    let here : k + 2 ≡ end = omega arith in
    absurd (second.open_before k (omega arith) (omega arith) (block.closed k here)))
    (λ (most : other ≤ end). most)
    (cases_lt end other)

two_ways : (first second : ℕ) → first ≤ second → second ≤ first → first ≡ second
two_ways first second low high = omega arith

pub one_spacing : (text : List ℕ) (at end other : ℕ) → IsSpacing text at end → IsSpacing text at other → end ≡ other
one_spacing text at end other (inl space) (inl second) = space.end_is ∙ sym second.end_is
one_spacing text at end other (inl space) (inr (inl second)) = absurd (slash_is_no_space (get_or text at 0) second.first space.space)
one_spacing text at end other (inl space) (inr (inr second)) = absurd (slash_is_no_space (get_or text at 0) second.first space.space)
one_spacing text at end other (inr (inl line)) (inl second) = absurd (slash_is_no_space (get_or text at 0) line.first second.space)
one_spacing text at end other (inr (inl line)) (inr (inl second)) =
    two_ways end other (one_line_end text at other end second line) (one_line_end text at end other line second)
one_spacing text at end other (inr (inl line)) (inr (inr second)) = let a = line.second in let b = second.second in absurd (omega arith)
one_spacing text at end other (inr (inr block)) (inl second) = absurd (slash_is_no_space (get_or text at 0) block.first second.space)
one_spacing text at end other (inr (inr block)) (inr (inl second)) = let a = block.second in let b = second.second in absurd (omega arith)
one_spacing text at end other (inr (inr block)) (inr (inr second)) =
    two_ways end other (one_block_end text at other end second block) (one_block_end text at end other block second)

pub spacing_inside : (text : List ℕ) (at end : ℕ) → IsSpacing text at end → at < length text
spacing_inside text at end (inl space) = space.within
spacing_inside text at end (inr (inl line)) = let a = line.long in let b = line.within in omega arith
spacing_inside text at end (inr (inr block)) = let a = block.long in let b = block.within in omega arith

-- ---- where a space or a comment begins no token does

pub spacing_no_token : (text : List ℕ) (at end n : ℕ) (kind : Kind) → IsSpacing text at end → IsLongest text at n kind → ⊥
spacing_no_token text at end n kind spacing longest =
    let some = longest.some in
    let first = piece_first kind (slice_range text at n) (range_some text at n some longest.within) longest.piece in
    let P : ℕ → Type 0 = λ byte. begins_spacing byte ≡ false in
    false≢true (sym (subst P (range_first text at n some) first) ∙ spacing_first text at end spacing)

-- ---- the answer where `/*` stands

pub block_spacing : (text : List ℕ) (at : ℕ) (found : Option ℕ) → at < length text → get_or text at 0 ≡ 47 → get_or text (at + 1) 0 ≡ 42
    → IfSome found (λ end. (at + 2) + 2 ≤ end) → IfSome found (λ end. end ≤ length text)
    → IfSome found (λ end. (k : ℕ) → at + 2 ≤ k → k + 2 < end → IsClose text k → ⊥)
    → IfSome found (λ end. (k : ℕ) → k + 2 ≡ end → IsClose text k)
    → IfNone found ((k : ℕ) → at + 2 ≤ k → k < length text → IsClose text k → ⊥)
    → MatchOption found (HasNoSpacing text at) (IsSpacing text at)
block_spacing text at None within first second after inside before closed none = no_block
  where
    no_block : HasNoSpacing text at
    no_block end (inl space) = slash_is_no_space (get_or text at 0) first space.space
    no_block end (inr (inl line)) = let a = line.second in omega arith
    no_block end (inr (inr block)) =
        let long = block.long in
        let most = block.within in
        let k : ℕ = end - 2 in
        let here : k + 2 ≡ end = omega arith in
        none k (omega arith) (omega arith) (block.closed k here)
block_spacing text at (Some end) within first second after inside before closed none = inr (inr (record {
  long = omega arith;
  within = inside;
  first = first;
  second = second;
  open_before = before;
  closed = closed;
}))
