-- The hashes that the authors of FNV-1a publish for texts, over 64 bits.
use Rattle.std.proofs.Common.{◌≡◌, [], codes, refl}
use Rattle.elastic_ast.specs.Containers.Fnv.{fnv, fnv_start}

of_nothing : fnv fnv_start [] ≡ 0xcbf29ce484222325
of_nothing = refl

of_a : fnv fnv_start (codes "a") ≡ 0xaf63dc4c8601ec8c
of_a = refl

of_b : fnv fnv_start (codes "b") ≡ 0xaf63df4c8601f1a5
of_b = refl

of_foobar : fnv fnv_start (codes "foobar") ≡ 0x85944171f73967e8
of_foobar = refl
