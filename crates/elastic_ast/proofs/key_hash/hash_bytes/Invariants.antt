use Rattle.std.proofs.Common.{◌≡◌, take}
use Rattle.elastic_ast.specs.Containers.Fnv.{fnv}
use Rattle.elastic_ast.proofs.key_hash.hash_bytes.Given as goal

abbrev pub invariant-loop-byte : goal.invariant-loop-byte
invariant-loop-byte l = l.hash ≡ fnv l.state (take l.byte-index l.bytes)
