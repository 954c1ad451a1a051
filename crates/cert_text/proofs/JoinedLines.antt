-- The text that is written of two lists of lines.
use Rattle.std.proofs.Common.{◌≡◌, ℕ, List, [], ◌∷◌, ◌++◌, refl, sym, ◌∙◌}
use Rattle.cert_text.specs.Pieces.{Piece}
use Rattle.cert_text.specs.WrittenLines.{with_line, with_lines, FitPieces, FitLines}

pub lines_joined : (text : List ℕ) (a b : List (List Piece)) → with_lines text (a ++ b) ≡ with_lines (with_lines text a) b
lines_joined text [] b = refl
lines_joined text (x ∷ a) b = lines_joined (with_line text x) a b

pub fit_joined : (a b : List (List Piece)) → FitLines a → FitLines b → FitLines (a ++ b)
fit_joined [] b of_a of_b = of_b
fit_joined (x ∷ a) b of_a of_b = (of_a.0, fit_joined a b of_a.1 of_b)

pub two_and_joined : (text after : List ℕ) (a b : List Piece) (c d : List (List Piece)) → after ≡ with_lines (with_lines (with_line (with_line text a) b) c) d → after ≡ with_lines text (a ∷ b ∷ (c ++ d))
two_and_joined text after a b c d is = is ∙ sym (lines_joined (with_line (with_line text a) b) c d)

pub fit_two_and_joined : (a b : List Piece) (c d : List (List Piece)) → FitPieces a → FitPieces b → FitLines c → FitLines d → FitLines (a ∷ b ∷ (c ++ d))
fit_two_and_joined a b c d of_a of_b of_c of_d = (of_a, (of_b, fit_joined c d of_c of_d))
