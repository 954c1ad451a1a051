-- A text is one list of tokens at most, and has one bad place at most, and not both.
use Rattle.std.proofs.Common.{◌≡◌, ◌∙◌, ◌∷◌, [], ℕ, List, length, refl, sym, subst, arith}
use Rattle.p4_lexer.specs.declared.token.Kind.{Kind}
use Rattle.p4_lexer.specs.declared.token.Token.{Token}
use Rattle.p4_lexer.specs.Gaps.{IsSpacing, SpacingBy, IsGap}
use Rattle.p4_lexer.specs.Tokens.{IsLongest, TokensBetween, TokensOf}
use Rattle.p4_lexer.specs.BadPlaces.{HasNoSpacing, HasNoToken, IsBadPlace}
use Rattle.p4_lexer.proofs.Spacings.{one_spacing, spacing_inside, spacing_no_token}
use Rattle.p4_lexer.proofs.OneToken.{one_longest}

-- neither a space or a comment nor a token begins at this place
record IsStop (text : List ℕ) (at : ℕ) : Type 0 where
  no_spacing : HasNoSpacing text at
  no_token : HasNoToken text at

-- spaces and comments go on to the first place where none begins
one_way : (text : List ℕ) (from : ℕ) (ends : List ℕ) (to : ℕ) (others : List ℕ) (other : ℕ) → SpacingBy text from ends to
    → SpacingBy text from others other → HasNoSpacing text to → HasNoSpacing text other → to ≡ other
unfolding SpacingBy
one_way text from [] to [] other here there stop stop_other = sym here ∙ there
one_way text from [] to (next ∷ others) other here there stop stop_other =
    let P : ℕ → Type 0 = λ place. IsSpacing text place next in absurd (stop next (subst P here there.0))
one_way text from (end ∷ ends) to [] other here there stop stop_other =
    let P : ℕ → Type 0 = λ place. IsSpacing text place end in absurd (stop_other end (subst P there here.0))
one_way text from (end ∷ ends) to (next ∷ others) other here there stop stop_other =
    let P : ℕ → Type 0 = λ place. SpacingBy text place others other in
    one_way text end ends to others other here.1 (subst P (sym (one_spacing text from end next here.0 there.0)) there.1) stop stop_other

one_gap : (text : List ℕ) (from to other : ℕ) → IsGap text from to → IsGap text from other → HasNoSpacing text to → HasNoSpacing text other → to ≡ other
one_gap text from to other gap second stop stop_other = one_way text from gap.ends to second.ends other gap.spacing second.spacing stop stop_other

token_stops : (text : List ℕ) (at n : ℕ) (kind : Kind) → IsLongest text at n kind → HasNoSpacing text at
token_stops text at n kind longest end spacing = spacing_no_token text at end n kind spacing longest

-- a gap up to a place where nothing begins isn't followed by a token
gap_or_token : (text : List ℕ) (from to at n : ℕ) (kind : Kind) → IsGap text from to → IsStop text to → IsGap text from at → IsLongest text at n kind → ⊥
gap_or_token text from to at n kind gap stop before longest =
    let same : to ≡ at = one_gap text from to at gap before stop.no_spacing (token_stops text at n kind longest) in
    let P : ℕ → Type 0 = λ place. IsLongest text place n kind in
    stop.no_token n kind (subst P (sym same) longest)

abbrev made : Kind → ℕ → ℕ → Token
made kind at end = record { kind = kind; at = at; end = end }

same_token : (token other : Token) → token.kind ≡ other.kind → token.at ≡ other.at → token.end ≡ other.end → token ≡ other
same_token token other kind at end =
    let same : made token.kind token.at token.end ≡ made other.kind other.at other.end = cc (kind, at, end) in same

-- two readings from one place to places where nothing begins are the same
one_reading : (text : List ℕ) (from : ℕ) (tokens : List Token) (to : ℕ) (others : List Token) (other : ℕ)
    → TokensBetween text from tokens to → TokensBetween text from others other → IsStop text to → IsStop text other
    → (tokens ≡ others) × (to ≡ other)
unfolding TokensBetween
one_reading text from [] to [] other here there stop stop_other = (refl, one_gap text from to other here there stop.no_spacing stop_other.no_spacing)
one_reading text from [] to (next ∷ others) other here there stop stop_other =
    absurd (gap_or_token text from to next.at next.end next.kind here stop there.0 there.1)
one_reading text from (token ∷ tokens) to [] other here there stop stop_other =
    absurd (gap_or_token text from other token.at token.end token.kind there stop_other here.0 here.1)
one_reading text from (token ∷ tokens) to (next ∷ others) other here there stop stop_other =
    let at_same : token.at ≡ next.at =
    one_gap text from token.at next.at here.0 there.0 (token_stops text token.at token.end token.kind here.1)
    (token_stops text next.at next.end next.kind there.1) in
    let P : ℕ → Type 0 = λ place. IsLongest text place token.end token.kind in
    let same = one_longest text next.at token.end next.end token.kind next.kind (subst P at_same here.1) there.1 in
    let Q : ℕ → Type 0 = λ place. TokensBetween text place others other in
    let rest = one_reading text token.end tokens to others other here.2 (subst Q (sym same.0) there.2) stop stop_other in
    let first : token ≡ next = same_token token next same.1 at_same same.0 in
    let behind : tokens ≡ others = rest.0 in
    (cc (first, behind), rest.1)

end_stops : (text : List ℕ) → IsStop text (length text)
end_stops text = record {
  no_spacing = λ end spacing. let inside = spacing_inside text (length text) end spacing in omega arith;
  no_token = λ end kind longest. let some = longest.some in let within = longest.within in omega arith;
}

bad_stops : (text : List ℕ) (at : ℕ) → IsBadPlace text at → IsStop text at
bad_stops text at bad = record { no_spacing = bad.no_spacing; no_token = bad.no_token }

-- a text is one list of tokens at most
pub one_list : (text : List ℕ) (tokens other : List Token) → TokensOf text tokens → TokensOf text other → tokens ≡ other
one_list text tokens other first second =
    (one_reading text 0 tokens (length text) other (length text) first second (end_stops text) (end_stops text)).0

-- a text with a bad place is no list of tokens
pub bad_has_none : (text : List ℕ) (at : ℕ) → IsBadPlace text at → (tokens : List Token) → TokensOf text tokens → ⊥
bad_has_none text at bad tokens all =
    let same : at ≡ length text =
    (one_reading text 0 bad.tokens at tokens (length text) bad.reached all (bad_stops text at bad) (end_stops text)).1 in
    let within = bad.within in
    omega arith

-- a text has one bad place at most
pub one_bad_place : (text : List ℕ) (at other : ℕ) → IsBadPlace text at → IsBadPlace text other → at ≡ other
one_bad_place text at other bad second =
    (one_reading text 0 bad.tokens at second.tokens other bad.reached second.reached (bad_stops text at bad) (bad_stops text other second)).1
