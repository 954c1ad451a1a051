-- A text that is refused describes no target.
use Rattle.std.proofs.Common.{◌≡◌, ◌≢◌, arith, rules, ℕ, ◌≤◌, Bool, false, cond, true≢false, List, [], ◌∷◌, Some, None, refl, sym, ap, ◌∙◌, subst}
use Rattle.std.specs.Prelude.{is_none}
use Rattle.std.specs.List.{find}
use Rattle.toml.specs.Data.{Members}
use Rattle.target_desc.specs.TargetKeys.{least_at, most_at, target_keys}
use Rattle.target_desc.specs.TargetText.{HasNumbers, IsDocument, IsNumberAt, IsRefusedTable, IsRefusedText, IsTargetTable, IsTargetText, is_outside, lacks}
use Rattle.target_desc.specs.declared.key_name.KeyName.{KeyName}
use Rattle.target_desc.specs.declared.key_name.KeyName.TheVariants as key
use Rattle.target_desc.specs.declared.target.Target.{Target}
use Rattle.target_desc.specs.declared.target.TargetError.{TargetError}
use Rattle.target_desc.specs.declared.target.TargetError.TheVariants as error

-- the number of a target at a key, in the range of the key
pub record HasNumber (table : Members) (name : KeyName) : Type 0 where
  pub number : ℕ
  pub there : IsNumberAt table name number
  pub at_least : least_at name ≤ number
  pub at_most : number ≤ most_at name

has_number : (table : Members) (target : Target) → HasNumbers table target → (name : KeyName) → HasNumber table name
has_number table target h key.Stages = record { number = target.stages; there = h.stages; at_least = h.in_range.stages.0; at_most = h.in_range.stages.1 }
has_number table target h key.MemoryBits = record { number = target.memory_bits; there = h.memory_bits; at_least = omega arith; at_most = h.in_range.memory_bits }
has_number table target h key.Stateful = record { number = target.stateful; there = h.stateful; at_least = omega arith; at_most = h.in_range.stateful }
has_number table target h key.Stateless = record { number = target.stateless; there = h.stateless; at_least = omega arith; at_most = h.in_range.stateless }
has_number table target h key.TableBits = record { number = target.table_bits; there = h.table_bits; at_least = omega arith; at_most = h.in_range.table_bits }
has_number table target h key.TernaryBits = record { number = target.ternary_bits; there = h.ternary_bits; at_least = omega arith; at_most = h.in_range.ternary_bits }
has_number table target h key.HeaderBits = record { number = target.header_bits; there = h.header_bits; at_least = omega arith; at_most = h.in_range.header_bits }
has_number table target h key.Ops = record { number = target.ops; there = h.ops; at_least = omega arith; at_most = h.in_range.ops }

never_lacks : (table : Members) (name : KeyName) → HasNumber table name → lacks table name ≡ false
never_lacks table name h = ap is_none h.there

never_outside : (table : Members) (name : KeyName) → HasNumber table name → is_outside table name ≡ false
never_outside table name h = rw (h.there) (search rules)

none_found : (test : KeyName → Bool) (names : List KeyName) → ((name : KeyName) → test name ≡ false) → find test names ≡ None
none_found test [] none = refl
none_found test (name ∷ names) none = ap (λ b. cond b (Some name) (find test names)) (none name) ∙ none_found test names none

-- what is found of a test that no key passes
never_found : (test : KeyName → Bool) (name : KeyName) → ((other : KeyName) → test other ≡ false) → find test target_keys ≡ Some name → ⊥
never_found test name none found = let none = none_found test target_keys none in cc

-- a table that is refused describes no target
refused_table : (table : Members) (why : TargetError) (target : Target) → IsRefusedTable table why → IsTargetTable table target → ⊥
refused_table table error.UnknownKey target bad is = true≢false (sym is.no_other_key ∙ bad)
refused_table table (error.MissingKey name) target bad is = never_found (lacks table) name (λ other. never_lacks table other (has_number table target is.numbers other)) bad.1
refused_table table (error.OutOfRange name) target bad is = never_found (is_outside table) name (λ other. never_outside table other (has_number table target is.numbers other)) bad.2
refused_table table _ target bad is = bad

same_table : (text : List ℕ) (one other : Members) → IsDocument text one → IsDocument text other → one ≡ other
same_table text one other a b = cc (sym a.1 ∙ b.1)

pub no_target_of : (text : List ℕ) (why : TargetError) → why ≢ error.Memory → IsRefusedText text why → (target : Target) → IsTargetText text target → ⊥
no_target_of text error.NotToml wants bad target is = bad is.0 is.1
no_target_of text error.Memory wants bad target is = wants refl
no_target_of text why wants bad target is = refused_table bad.0 why target bad.2 (subst (λ table. IsTargetTable table target) (sym (same_table text bad.0 is.0 bad.1 is.1)) is.2)
