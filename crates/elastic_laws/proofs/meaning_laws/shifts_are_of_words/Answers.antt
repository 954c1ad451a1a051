use Rattle.std.proofs.Common.{◌≡◌, ◌≤◌, ℕ, Bool, true, false, refl}
use Rattle.std.specs.Prelude.{nat_le, if◌then◌else◌}
use Rattle.std.proofs.lemmas.Bool.{leb-true}
use Rattle.elx_bits.specs.Words as words
use Rattle.elx_bits.proofs.WordLaws.{shl_past, shr_past}
use Rattle.elastic_laws.proofs.meaning_laws.shifts_are_of_words.Goals as goal

tested : (width by value : ℕ) → (width ≤ by → 0 ≡ value) → (if nat_le width by then 0 else value) ≡ value
tested width by value past = go (nat_le width by) refl
  where
    go : (b : Bool) → nat_le width by ≡ b → (if b then 0 else value) ≡ value
    go true e = past (leb-true width by e)
    go false e = refl

pub returns : goal.returns
returns c = record {
  up = λ width low a by. tested width by (words.shl width a by) (shl_past a width by);
  down = λ width low a by small. tested width by (words.shr a by) (shr_past a width by small);
}
