use Rattle.std.proofs.Common.{ℕ, [], ◌∷◌, length, ap}
use Rattle.elastic_ast.proofs.Containers.HashLaws.{names_and, two_and, three_and}
use Rattle.elastic_ast.proofs.location_ref.LocationRef.hash.Goals as goal

pub returns-in-Header : goal.returns-in-Header
returns-in-Header c =
    rw c.in-Header.is (names_and _ _ _ _ _ _ _ _ _ _ _ _ c.hash_bytes.ensures c.hash_bytes-first.ensures c.three.ensures c.index_number-code.ensures (ap length c.as_slice.ensures) c.as_slice-in-Header.ensures c.as_slice-in-Header-2.ensures)

pub returns-in-Valid : goal.returns-in-Valid
returns-in-Valid c =
    rw c.in-Valid.is (two_and _ _ _ _ _ _ _ c.hash_bytes-in-Valid.ensures c.two.ensures c.index_number-code.ensures c.as_slice-in-Valid.ensures)

pub returns-in-Meta : goal.returns-in-Meta
returns-in-Meta c =
    rw c.in-Meta.is (three_and _ _ _ _ _ _ _ _ _ c.hash_bytes-in-Meta.ensures c.three-in-Meta.ensures c.index_number-code.ensures c.flag_number.ensures c.as_slice-in-Meta.ensures)

pub returns-in-Std : goal.returns-in-Std
returns-in-Std c =
    rw c.in-Std.is (two_and _ _ _ _ _ _ _ c.hash_bytes-in-Std.ensures c.two-in-Std.ensures c.index_number-code.ensures c.as_slice-in-Std.ensures)

pub returns-in-Pred : goal.returns-in-Pred
returns-in-Pred c =
    rw c.in-Pred.is (three_and _ _ _ _ _ _ _ (c.from.result ∷ []) _ c.hash_word.ensures c.three-in-Pred.ensures c.index_number-code.ensures c.flag_number-in-Pred.ensures (ap (λ (n : ℕ). n ∷ []) c.from.ensures))

pub returns-in-Reg : goal.returns-in-Reg
returns-in-Reg c =
    rw c.in-Reg.is (three_and _ _ _ _ _ _ _ _ _ c.hash_bytes-in-Reg.ensures c.three-in-Reg.ensures c.index_number-code.ensures c.flag_number-in-Reg.ensures c.as_slice-in-Reg.ensures)
