-- The lines of a search that was cut off: how many splits were made, the greatest utility that was found, and the certificate of
-- this; this project's own.
use Rattle.std.specs.Prelude.{◌≡◌, ℕ, ℤ, pos, List, [], ◌∷◌, codes, Option, Some, None}
use Rattle.elastic_ast.specs.declared.flat.At.{At}
use Rattle.elx_io.specs.Lines.{with_word, with_number, with_end}
use Rattle.int_program.specs.declared.program.Tree.{Tree}
use Rattle.cert_text.specs.declared.claim.Claim.{Claim}
use Rattle.cert_text.specs.declared.claim.ClaimKind.TheVariants as kind
use Rattle.cert_text.specs.Certificate.{certificate_lines}
use Rattle.cert_text.specs.WrittenLines.{with_lines}
use Rattle.size_search.specs.declared.choosing.Placed.{Placed}
use Rattle.size_search.specs.Choice.{known_of}

-- each symbol with its size
unfoldable pub named_sizes : List (List ℕ) → List ℕ → List (List ℕ × ℕ)
named_sizes [] sizes = []
named_sizes (symbol ∷ symbols) [] = []
named_sizes (symbol ∷ symbols) (size ∷ sizes) = (symbol, size) ∷ named_sizes symbols sizes

-- the symbols with the sizes that were found, and their placement
abbrev pub sizes_found : List (List ℕ) → Option Placed → List (List ℕ × ℕ)
sizes_found symbols None = []
sizes_found symbols (Some placed) = named_sizes symbols placed.sizes.values

abbrev pub places_found : Option Placed → List At
places_found None = []
places_found (Some placed) = placed.placement.at

-- what is claimed of what was found
pub record IsUnfinishedClaim (symbols : List (List ℕ)) (best : Option Placed) (claim : Claim) : Type 0 where
  pub kind : claim.kind ≡ kind.Unfinished (known_of best)
  pub sizes : claim.sizes ≡ sizes_found symbols best
  pub placement : claim.placement.at ≡ places_found best

-- a text and the line `unfinished LIMIT`
abbrev pub with_limit : List ℕ → ℕ → List ℕ
with_limit text limit = with_end (with_number (with_word text (codes "unfinished")) (pos limit))

-- a text and the line `best VALUE` or `best none`
abbrev pub with_best : List ℕ → Option ℤ → List ℕ
with_best text None = with_end (with_word (with_word text (codes "best")) (codes "none"))
with_best text (Some value) = with_end (with_number (with_word text (codes "best")) value)

abbrev pub unfinished_text : ℕ → Option ℤ → Claim → Tree → List ℕ
unfinished_text limit best claim tree = with_lines (with_best (with_limit [] limit) best) (certificate_lines claim tree.nodes)
