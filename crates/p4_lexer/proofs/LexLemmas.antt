-- How the tokens of a text follow from its spaces, comments and tokens one behind another.
use Rattle.std.proofs.Common.{◌≡◌, ◌<◌, ◌≤◌, ◌++◌, ◌∷◌, [], ℕ, List, length, sym, subst, refl, arith, inl, inr}
use Rattle.std.specs.Prelude.{All}
use Rattle.std.proofs.lemmas.List.Elements.{All-nil, All-cons}
use Rattle.p4_lexer.specs.declared.token.Token.{Token}
use Rattle.p4_lexer.specs.Gaps.{IsSpacing, SpacingBy, IsGap}
use Rattle.p4_lexer.specs.Tokens.{IsTokenAt, LiesWithin, TokensBetween, TokensOf}

gap_none : (text : List ℕ) (at : ℕ) → IsGap text at at
unfolding SpacingBy
gap_none text at = record { ends = []; spacing = refl }

spacing_push : (text : List ℕ) (from : ℕ) (ends : List ℕ) (at end : ℕ) → SpacingBy text from ends at → IsSpacing text at end
    → SpacingBy text from (ends ++ end ∷ []) end
unfolding SpacingBy
spacing_push text from [] at end here last = (let P : ℕ → Type 0 = λ place. IsSpacing text place end in subst P (sym here) last, refl)
spacing_push text from (first ∷ ends) at end spacing last = (spacing.0, spacing_push text first ends at end spacing.1 last)

gap_push : (text : List ℕ) (from at end : ℕ) → IsGap text from at → IsSpacing text at end → IsGap text from end
gap_push text from at end gap last = record { ends = gap.ends ++ end ∷ []; spacing = spacing_push text from gap.ends at end gap.spacing last }

pub spacing_after : (text : List ℕ) (at end : ℕ) → IsSpacing text at end → at < end
spacing_after text at end (inl space) = let e = space.end_is in omega arith
spacing_after text at end (inr (inl line)) = let e = line.long in omega arith
spacing_after text at end (inr (inr block)) = let e = block.long in omega arith

pub spacing_within : (text : List ℕ) (at end : ℕ) → IsSpacing text at end → end ≤ length text
spacing_within text at end (inl space) = let e = space.end_is in let w = space.within in omega arith
spacing_within text at end (inr (inl line)) = line.within
spacing_within text at end (inr (inr block)) = block.within

-- before the first byte of a text stand no tokens
pub none_at_start : (text : List ℕ) → TokensBetween text 0 [] 0
unfolding TokensBetween
none_at_start text = gap_none text 0

-- a space or a comment may stand behind tokens
pub behind_spacing : (text : List ℕ) (from : ℕ) (tokens : List Token) (at end : ℕ) → TokensBetween text from tokens at → IsSpacing text at end
    → TokensBetween text from tokens end
unfolding TokensBetween
behind_spacing text from [] at end before last = gap_push text from at end before last
behind_spacing text from (token ∷ tokens) at end before last = (before.0, before.1, behind_spacing text token.end tokens at end before.2 last)

-- and so may the token there
pub behind_token : (text : List ℕ) (from : ℕ) (tokens : List Token) (at : ℕ) (token : Token) → TokensBetween text from tokens at
    → IsTokenAt text at token → TokensBetween text from (tokens ++ token ∷ []) token.end
unfolding TokensBetween
behind_token text from [] at token before here =
    (let P : ℕ → Type 0 = λ place. IsGap text from place in subst P (sym here.at_is) before, here.longest, gap_none text token.end)
behind_token text from (first ∷ tokens) at token before here = (before.0, before.1, behind_token text first.end tokens at token before.2 here)

-- each token of a text isn't empty and lies within the text
pub tokens_within : (text : List ℕ) (from : ℕ) (tokens : List Token) (to : ℕ) → TokensBetween text from tokens to → All (LiesWithin (length text)) tokens
unfolding TokensBetween
tokens_within text from [] to rest = All-nil (LiesWithin (length text))
tokens_within text from (token ∷ tokens) to rest =
    All-cons (LiesWithin (length text)) token tokens (record { some = rest.1.some; within = rest.1.within }) (tokens_within text token.end tokens to rest.2)

-- the step of the walk over a text at a token
pub token_added : (text : List ℕ) (at : ℕ) (tokens more : List Token) (token : Token) → TokensBetween text 0 tokens at
    → IsTokenAt text at token → more ≡ tokens ++ token ∷ [] → TokensBetween text 0 more token.end
token_added text at tokens more token before here more_is =
    let P : List Token → Type 0 = λ list. TokensBetween text 0 list token.end in
    subst P (sym more_is) (behind_token text 0 tokens at token before here)

-- the walk at its end
pub all_tokens : (text : List ℕ) (at : ℕ) (tokens : List Token) → TokensBetween text 0 tokens at → at ≡ length text → TokensOf text tokens
all_tokens text at tokens before end = let P : ℕ → Type 0 = λ to. TokensBetween text 0 tokens to in subst P end before
