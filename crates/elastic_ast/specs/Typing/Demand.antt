-- What a declaration asks, and of which rule; this project's own. Each line of `met` is one rule, or one part of one. What has
-- no known type breaks a rule already, and meets what is asked of its type.
use Rattle.std.specs.Prelude.{ℕ, ◌==◌, ◌%◌, ◌^◌, nat_le, nat_lt, Bool, true, false, not, ◌&&◌, ◌||◌, List, [], ◌∷◌, Option, Some, None, codes, if◌then◌else◌}
use Rattle.elastic_ast.specs.Typing.LanguageLimits.{most_number, most_terms}
use Rattle.elastic_ast.specs.declared.rule.Rule.{Rule}
use Rattle.elastic_ast.specs.declared.rule.Rule.TheVariants.{UnknownName, Twice, Width, NoWidth, LiteralTooWide, NotBool, NotConst, BadIndex, BadAmount, BadTerm, BadSlice, OddHeader, NestedLoop, RegisterInTable, BadKey, BadEntries, BadCall, ReservedName}
use Rattle.elastic_ast.specs.Tree.{Name}
use Rattle.elastic_ast.specs.Typing.Scope.{among}
use Rattle.elastic_ast.specs.Typing.Types.{Ty, Bits, Bare, Truth, Unknown, is_width, lie_within}

pub data Demand : Type 0 where
  Known : Bool → Demand  -- the name is declared before, as what its place asks for
  Fresh : List Name → Name → Demand  -- the name is new to the names before it in its scope, and none of the fixed ones
  First : Bool → Demand  -- nothing of this kind was declared before
  Wide : ℕ → Demand  -- the number is a width
  Alike : Ty → Ty → Demand  -- the two widths are one, where there are two
  HasWidth : Ty → Demand  -- what stands there has a width
  Fits : ℕ → Ty → Demand  -- the number is below 2 to its width, where it has one
  Boolean : Ty → Demand  -- what stands there is a boolean
  Number : Ty → Demand  -- what stands there is no boolean
  Constant : Bool → Demand  -- the name is that of a constant
  Indexed : Bool → Demand  -- an array, or an action, has the index that it wants
  Counts : ℕ → Demand  -- the number counts cells or is a modulus
  Term : ℕ → Demand  -- the number may stand in a sum of sizes
  Few : ℕ → Demand  -- there are not too many terms or keys
  Rising : List ℕ → Demand  -- the keys rise from 0
  Cut : ℕ → ℕ → Ty → Demand  -- from the one bit down to the other is a part of what stands there
  Bytes : ℕ → Demand  -- so many bits are whole bytes
  Alone : Bool → Demand  -- the loop stands in no loop
  NoRegister : Bool → Demand  -- the action names no register
  Keyed : Bool → Demand  -- sets and keys go together
  Listed : Bool → Demand  -- entries, size and actions of a table go together
  Called : Bool → Demand  -- the action may be called so
  Plain : Name → Demand  -- the name isn't one that the compiler makes

abbrev pub rule_of : Demand → Rule
rule_of (Known known) = UnknownName
rule_of (Fresh before name) = Twice
rule_of (First first) = Twice
rule_of (Wide width) = Width
rule_of (Alike left right) = Width
rule_of (HasWidth type) = NoWidth
rule_of (Fits number type) = LiteralTooWide
rule_of (Boolean type) = NotBool
rule_of (Number type) = NotBool
rule_of (Constant known) = NotConst
rule_of (Indexed fits_type) = BadIndex
rule_of (Counts number) = BadAmount
rule_of (Term number) = BadTerm
rule_of (Few count) = BadTerm
rule_of (Rising keys) = BadTerm
rule_of (Cut high low type) = BadSlice
rule_of (Bytes bits) = OddHeader
rule_of (Alone alone) = NestedLoop
rule_of (NoRegister none) = RegisterInTable
rule_of (Keyed fits_type) = BadKey
rule_of (Listed fits_type) = BadEntries
rule_of (Called fits_type) = BadCall
rule_of (Plain name) = ReservedName

-- the names that stand for something of the language itself
unfoldable pub fixed_names : List Name
fixed_names =
    codes "hash" ∷ codes "Register" ∷ codes "NoAction" ∷ codes "accept" ∷ codes "reject" ∷ codes "main" ∷ codes "Pisa" ∷
    codes "std_t" ∷ codes "headers_t" ∷ codes "meta_t" ∷ codes "hdr" ∷ codes "meta" ∷ codes "std" ∷ codes "pkt" ∷ []

-- two underscores stand in a row
abbrev pub has_underscores : Name → Bool
has_underscores [] = false
has_underscores (a ∷ []) = false
has_underscores (a ∷ b ∷ rest) = (a == 95 && b == 95) || has_underscores (b ∷ rest)

abbrev pub alike : Ty → Ty → Bool
alike (Bits left) (Bits right) = left == right
alike left right = true

abbrev pub has_width : Ty → Bool
has_width Bare = false
has_width type = true

abbrev pub fits_type : ℕ → Ty → Bool
fits_type number (Bits width) = nat_lt number (2 ^ width)
fits_type number type = true

abbrev pub is_truth : Ty → Bool
is_truth Truth = true
is_truth type = false

abbrev pub may_be_truth : Ty → Bool
may_be_truth Unknown = true
may_be_truth type = is_truth type

-- `low <= high < width`; what has no width breaks another rule
abbrev pub is_cut : ℕ → ℕ → Ty → Bool
is_cut high low (Bits width) = lie_within high low width
is_cut high low type = nat_le low high

abbrev pub rises : List ℕ → Bool
rises [] = true
rises (first ∷ []) = true
rises (first ∷ second ∷ rest) = nat_lt first second && rises (second ∷ rest)

abbrev pub from_zero : List ℕ → Bool
from_zero [] = true
from_zero (first ∷ rest) = first == 0

-- a demand is met, where names with two underscores in a row are allowed or not
abbrev pub met : Bool → Demand → Bool
met allow (Known known) = known
met allow (Fresh before name) = not (among before name) && not (among fixed_names name)
met allow (First first) = first
met allow (Wide width) = is_width width
met allow (Alike left right) = alike left right
met allow (HasWidth type) = has_width type
met allow (Fits number type) = fits_type number type
met allow (Boolean type) = may_be_truth type
met allow (Number type) = not (is_truth type)
met allow (Constant known) = known
met allow (Indexed fits_type) = fits_type
met allow (Counts number) = nat_le 1 number && nat_le number most_number
met allow (Term number) = nat_le number most_number
met allow (Few count) = nat_le count most_terms
met allow (Rising keys) = from_zero keys && rises keys
met allow (Cut high low type) = is_cut high low type
met allow (Bytes bits) = bits % 8 == 0
met allow (Alone alone) = alone
met allow (NoRegister none) = none
met allow (Keyed fits_type) = fits_type
met allow (Listed fits_type) = fits_type
met allow (Called fits_type) = fits_type
met allow (Plain name) = allow || not (has_underscores name)

-- the rule of the first demand that isn't met
abbrev pub first_broken : Bool → List Demand → Option Rule
first_broken allow [] = None
first_broken allow (demand ∷ demands) = if met allow demand then first_broken allow demands else Some (rule_of demand)
