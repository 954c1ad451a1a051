-- The calls that may be made of a shelf; this project's own.
use Rattle.std.specs.Prelude.{◌≡◌, ◌⊎◌, List, ℕ, refl}
use Rattle.std.specs.Coded.{Coded, code_by, coded×, coded⊎, coded_list, coded_ℕ}
use Rattle.std.proofs.Common.{inl, inr}

-- a read of a name, or a write of bytes to a name
pub data Call : Type 0 where
  Read : List ℕ → Call
  Write : List ℕ → List ℕ → Call

abbrev Parts : Type 0
Parts = List ℕ ⊎ (List ℕ × List ℕ)

abbrev parts_of : Call → Parts
parts_of (Read name) = inl name
parts_of (Write name bytes) = inr (name, bytes)

abbrev of_parts : Parts → Call
of_parts (inl name) = Read name
of_parts (inr p) = Write p.0 p.1

pub parts_and_back : (call : Call) → of_parts (parts_of call) ≡ call
parts_and_back (Read name) = refl
parts_and_back (Write name bytes) = refl

-- how calls are stored
abbrev pub calls_code : Coded (List Call)
calls_code =
    coded_list (code_by Parts (coded⊎ (coded_list coded_ℕ) (coded× (coded_list coded_ℕ) (coded_list coded_ℕ))) parts_of of_parts parts_and_back)
