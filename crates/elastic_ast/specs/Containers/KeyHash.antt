-- The hash of the name and the index of a register. This project's own, over the hash FNV-1a of 64 bits.
use Rattle.std.specs.Prelude.{ℕ, ◌+◌, Option, Some, None}
use Rattle.std.specs.Int.{to_le_bytes, w64}
use Rattle.elastic_ast.specs.Containers.Fnv.{fnv, fnv_start}
use Rattle.elastic_ast.specs.Containers.RegisterLists.{Key}

-- the bytes of the name, and then 0 for no index or one more than the index
abbrev pub index_number : Option ℕ → ℕ
index_number None = 0
index_number (Some index) = index + 1

unfoldable pub hash_of : Key → ℕ
hash_of key = fnv (fnv fnv_start key.0) (to_le_bytes w64 (index_number key.1))
