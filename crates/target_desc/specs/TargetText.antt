-- Which text describes which target: a TOML document whose table has the eight keys of a target, each with a whole
-- number in its range, and no other key. TOML is the TOML specification 1.0.0; the keys and ranges are this project's own.
use Rattle.std.specs.Prelude.{◌≡◌, ℕ, ◌≤◌, ℤ, pos, negsuc, Bool, true, false, not, nat_le, ◌&&◌, is_none, List, Option, Some, None, Result, Ok, Err, IsUtf8, option_and_then}
use Rattle.std.specs.List.{find, list_any}
use Rattle.std.specs.Str.{bytes_eq}
use Rattle.toml.specs.Data.{Members, no_members, member, as_integer, get_member, integer}
use Rattle.toml.specs.Parse.{parse_document}
use Rattle.target_desc.specs.InRange.{IsInRange}
use Rattle.target_desc.specs.TargetKeys.{key_text, least_at, most_at, target_keys}
use Rattle.target_desc.specs.declared.key_name.KeyName.{KeyName}
use Rattle.target_desc.specs.declared.key_name.KeyName.TheVariants as key
use Rattle.target_desc.specs.declared.target.Target.{Target}
use Rattle.target_desc.specs.declared.target.TargetError.{TargetError}
use Rattle.target_desc.specs.declared.target.TargetError.TheVariants as error

-- a table has a whole number at a key
abbrev pub IsNumberAt : Members → KeyName → ℕ → Type 0
IsNumberAt table name number = get_member (key_text name) table ≡ Some (integer (pos number))

-- the key of a number of a target
abbrev pub is_key : List ℕ → Bool
is_key text = list_any (λ name. bytes_eq text (key_text name)) target_keys

-- each key of a table is the key of a number of a target
abbrev pub has_no_other_key : Members → Bool
has_no_other_key no_members = true
has_no_other_key (member text value rest) = is_key text && has_no_other_key rest

-- a table has nothing at a key
abbrev pub lacks : Members → KeyName → Bool
lacks table name = is_none (get_member (key_text name) table)

-- what a table has at a key is no whole number in the range of the key
abbrev pub is_between : (least most : ℕ) → Option ℤ → Bool
is_between least most None = false
is_between least most (Some (pos number)) = nat_le least number && nat_le number most
is_between least most (Some (negsuc number)) = false

abbrev pub is_outside : Members → KeyName → Bool
is_outside table name = not (is_between (least_at name) (most_at name) (option_and_then as_integer (get_member (key_text name) table)))

-- the number that was found, where it is in its range
abbrev pub IsNumberBetween : (least most : ℕ) → Option ℤ → Option ℕ → Type 0
IsNumberBetween least most found (Some number) = (found ≡ Some (pos number)) × (least ≤ number) × (number ≤ most) × (is_between least most found ≡ true)
IsNumberBetween least most found None = is_between least most found ≡ false

-- the number that a table has at a key, or that it is out of the key's range
abbrev pub IsNumberFound : Members → KeyName → Result ℕ TargetError → Type 0
IsNumberFound table name (Ok number) = IsNumberAt table name number × (least_at name ≤ number) × (number ≤ most_at name) × (is_outside table name ≡ false)
IsNumberFound table name (Err (error.OutOfRange other)) = (name ≡ other) × (is_outside table name ≡ true)
IsNumberFound table name (Err _) = ⊥

-- a table has the numbers of a target at its keys, each in its range
pub record HasNumbers (table : Members) (target : Target) : Type 0 where
  pub stages : IsNumberAt table key.Stages target.stages
  pub memory_bits : IsNumberAt table key.MemoryBits target.memory_bits
  pub stateful : IsNumberAt table key.Stateful target.stateful
  pub stateless : IsNumberAt table key.Stateless target.stateless
  pub table_bits : IsNumberAt table key.TableBits target.table_bits
  pub ternary_bits : IsNumberAt table key.TernaryBits target.ternary_bits
  pub header_bits : IsNumberAt table key.HeaderBits target.header_bits
  pub ops : IsNumberAt table key.Ops target.ops
  pub in_range : IsInRange target

-- a table describes a target
pub record IsTargetTable (table : Members) (target : Target) : Type 0 where
  pub no_other_key : has_no_other_key table ≡ true
  pub numbers : HasNumbers table target

-- the numbers that a table has, or the first key whose number is out of its range
abbrev pub AreNumbersFound : Members → Result Target TargetError → Type 0
AreNumbersFound table (Ok target) = HasNumbers table target
AreNumbersFound table (Err (error.OutOfRange name)) = find (is_outside table) target_keys ≡ Some name
AreNumbersFound table (Err _) = ⊥

-- why a table describes no target, the first in this order: another key, the first key that it lacks, the first whose number is out
-- of its range
abbrev pub IsRefusedTable : Members → TargetError → Type 0
IsRefusedTable table error.UnknownKey = has_no_other_key table ≡ false
IsRefusedTable table (error.MissingKey name) = (has_no_other_key table ≡ true) × (find (lacks table) target_keys ≡ Some name)
IsRefusedTable table (error.OutOfRange name) = (has_no_other_key table ≡ true) × (find (lacks table) target_keys ≡ None) × (find (is_outside table) target_keys ≡ Some name)
IsRefusedTable table _ = ⊥

-- the target that a table describes, or why it describes none
abbrev pub IsTargetFound : Members → Result Target TargetError → Type 0
IsTargetFound table (Ok target) = IsTargetTable table target
IsTargetFound table (Err why) = IsRefusedTable table why

-- a text is a TOML document with that table
abbrev pub IsDocument : List ℕ → Members → Type 0
IsDocument text table = IsUtf8 text × (parse_document text ≡ Some table)

-- a text describes a target
abbrev pub IsTargetText : List ℕ → Target → Type 0
IsTargetText text target = (table : Members) × IsDocument text table × IsTargetTable table target

-- why a text describes no target: it is no document, or its table is refused. Want of memory says nothing
abbrev pub IsRefusedText : List ℕ → TargetError → Type 0
IsRefusedText text error.NotToml = (table : Members) → IsDocument text table → ⊥
IsRefusedText text error.Memory = Unit {0}
IsRefusedText text why = (table : Members) × IsDocument text table × IsRefusedTable table why

-- what reading a text gives: the target that it describes, or why it describes none
abbrev pub ReadsTarget : List ℕ → Result Target TargetError → Type 0
ReadsTarget text (Ok target) = IsTargetText text target
ReadsTarget text (Err why) = IsRefusedText text why
