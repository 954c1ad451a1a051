-- What holds of an index of hashes: the map has the last place of each hash, and each place the one before it with its
-- hash. This project's own.
use Rattle.std.specs.Prelude.{◌≡◌, ◌<◌, ◌≤◌, ℕ, ◌^◌, List, map, length, take, get_or, Option}
use Rattle.elastic_ast.specs.declared.chains.Link.{Link}
use Rattle.elastic_ast.specs.Containers.LastWith.{last_with}

abbrev pub hashes : List Link → List ℕ
hashes links = map (λ (l : Link). l.hash) links

-- the place before a place; past the end of the list there is any link
abbrev pub HasBefore : List Link → ℕ → Link → Type 0
HasBefore links k past = (get_or links k past).before ≡ last_with (get_or links k past).hash (take k (hashes links))

pub record Linked (heads : ℕ → Option ℕ) (links : List Link) : Type 0 where
  pub few : length links ≤ 2 ^ 32
  pub at_head : (hash : ℕ) → heads hash ≡ last_with hash (hashes links)
  pub at_link : (k : ℕ) (past : Link) → k < length links → HasBefore links k past
