-- The units of a program, in the order of the text, and the header bits that it takes; this project's own.
use Rattle.std.specs.Prelude.{◌≡◌, ℕ, ◌+◌, ◌≤◌, nat_eq, Bool, false, List, [], ◌∷◌, ◌++◌, map, All, sum_by, is_some, Option, Some, None, option_map, if◌then◌else◌}
use Rattle.std.specs.Option.{option_eq}
use Rattle.elastic_ast.specs.declared.declarations.Field.{Field}
use Rattle.elastic_ast.specs.Tree.{Name, PlainDecl}
use Rattle.elastic_ast.specs.Typing.Scope.{same}
use Rattle.elastic_ast.specs.Sizes.SizeSums.{symbols_of}
use Rattle.elastic_ast.specs.Typing.LookUps.{members_of, fields_of_type, bits_of_fields, meta_fields}
use Rattle.elastic_ast.specs.Packets.MainParts.{body_of}
use Rattle.elastic_ast.specs.Units.PlainUnits.{PlainUnit, PlainUnits}
use Rattle.elastic_ast.specs.Units.Cuts.{Piece, Cuts, Nil, One, Loop, tests_in, cut_all}
use Rattle.elastic_ast.specs.Units.Reach.{piece_reads, piece_writes}
use Rattle.elastic_ast.specs.Units.Costs.{piece_ops, cost_of, place_of_symbol, cells_named, width_named, exact_bits, masked_bits, table_applied}

-- the loop around a unit: its number, and the names of its index and its size
pub record Around : Type 0 where
  pub number : ℕ
  pub index : Name
  pub size : Name

-- the unit of a piece of work
abbrev pub unit_of : List PlainDecl → Option Around → Piece → PlainUnit
unit_of decls around piece =
    let writes = piece_writes decls (is_some around) piece.work in
    record {
      lits = piece.lits;
      conds = piece.conds;
      work = piece.work;
      loop_no = option_map (λ loop. loop.number) around;
      size = option_map (λ loop. place_of_symbol decls loop.size) around;
      index = option_map (λ loop. loop.index) around;
      stage = piece.stage;
      reads = piece_reads decls piece.lits piece.conds piece.work;
      writes = writes;
      cells = cells_named decls writes;
      cell_width = width_named decls writes;
      cost = cost_of writes;
      ops = piece_ops decls piece.lits piece.conds piece.work;
      table_bits = exact_bits decls (table_applied decls piece.work);
      ternary_bits = masked_bits decls (table_applied decls piece.work);
    }

-- the pieces of a loop, in order. Typed programs have no loop in a loop.
abbrev pub inner_pieces : Cuts → List Piece
inner_pieces Nil = []
inner_pieces (One piece rest) = piece ∷ inner_pieces rest
inner_pieces (Loop index size inner rest) = inner_pieces inner ++ inner_pieces rest

-- the units of pieces, where the next loop has number `loop`: loops are numbered in the order of the text, also those without
-- units
abbrev pub flat : List PlainDecl → Cuts → ℕ → List PlainUnit
flat decls Nil loop = []
flat decls (One piece rest) loop = unit_of decls None piece ∷ flat decls rest loop
flat decls (Loop index size inner rest) loop =
    map (unit_of decls (Some (record { number = loop; index = index; size = size }))) (inner_pieces inner) ++ flat decls rest (loop + 1)

-- the pieces of the control's body
abbrev pub cuts_of : List PlainDecl → Cuts
cuts_of decls = cut_all (body_of decls) false 0 None

-- a unit's number is its place
abbrev pub units_of : List PlainDecl → List PlainUnit
units_of decls = flat decls (cuts_of decls) 0

-- no unit has more operators than the target allows
abbrev pub OpsFit : List PlainDecl → ℕ → Type 0
OpsFit decls most = All (λ unit. unit.ops ≤ most) (units_of decls)

abbrev pub member_bits : List PlainDecl → Name × Name → ℕ
member_bits decls member = bits_of_fields (fields_of_type decls member.0) + 1

abbrev pub scalar_bits : Field → ℕ
scalar_bits field = if is_some field.size then 0 else field.width

-- one for a unit that keeps a condition, in no loop, or in a loop over the symbol of this number
abbrev pub predicate_bits : Option ℕ → PlainUnit → ℕ
predicate_bits size unit = if option_eq nat_eq unit.size size then tests_in unit.work else 0

-- the header bits that a program takes at all sizes: the fields of each header and one bit for its validity, the scalar
-- metadata, and one bit for each predicate outside of loops
abbrev pub fixed_bits : List PlainDecl → ℕ
fixed_bits decls =
    sum_by (member_bits decls) (members_of decls)
    + (sum_by scalar_bits (meta_fields decls) + sum_by (predicate_bits None) (units_of decls))

abbrev pub is_of_size : Name → Option Name → Bool
is_of_size symbol None = false
is_of_size symbol (Some name) = same symbol name

abbrev pub array_bits : Name → Field → ℕ
array_bits symbol field = if is_of_size symbol field.size then field.width else 0

-- the header bits for each one in the size of a symbol: the widths of the metadata arrays of that size, and one bit for each
-- predicate in loops over it
abbrev pub bits_of_symbol : List PlainDecl → Name → ℕ
bits_of_symbol decls symbol =
    sum_by (array_bits symbol) (meta_fields decls) + sum_by (predicate_bits (Some (place_of_symbol decls symbol))) (units_of decls)

abbrev pub symbol_bits : List PlainDecl → List ℕ
symbol_bits decls = map (bits_of_symbol decls) (symbols_of decls)

-- these are the units of the program, with the header bits that it takes. Their terms are no part of this.
pub record UnitsOf (decls : List PlainDecl) (units : PlainUnits) : Type 0 where
  pub list : units.list ≡ units_of decls
  pub fixed : units.fixed_bits ≡ fixed_bits decls
  pub symbols : units.symbol_bits ≡ symbol_bits decls
