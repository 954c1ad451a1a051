-- Whole worked programs with one header, and what they do with packets, for the equations that show what programs mean; this
-- project's own.
use Rattle.std.specs.Prelude.{ℕ, false, true, List, [], ◌∷◌, ◌++◌, Option, Some, None, codes}
use Rattle.elastic_ast.specs.declared.declarations.Field.{Field}
use Rattle.elastic_ast.specs.declared.declarations.LinTerm.{LinTerm}
use Rattle.elastic_ast.specs.declared.declarations.Rel.TheVariants as rel
use Rattle.elastic_ast.specs.declared.declarations.UtilTerm.TheVariants as util
use Rattle.elastic_ast.specs.declared.flat.Packet.{Packet}
use Rattle.elastic_ast.specs.declared.flat.Out.{Out}
use Rattle.elastic_ast.specs.declared.statements.Amount.TheVariants as amount
use Rattle.elastic_ast.specs.declared.statements.Lval.{Lval}
use Rattle.elastic_ast.specs.declared.statements.Lval.TheVariants as lval
use Rattle.elastic_ast.specs.declared.statements.RegRef.{RegRef}
use Rattle.elastic_ast.specs.Tree.{Name, PlainDecl, PlainExpr, PlainStmt, PlainKeyset, PlainEntry, PlainLocal, PlainNext}
use Rattle.elastic_ast.specs.OperatorSorts.{Equal, Less, Plus, Join, binary}
use Rattle.elastic_ast.specs.Meaning.Memory.{Cells}
use Rattle.elastic_ast.specs.Packets.PacketMeaning.{packets_meaning}
use Rattle.elastic_laws.specs.Examples.WorkedProgram.{stmts}
use Rattle.elastic_laws.specs.Examples.WorkedValues.{bare}

-- A program around one header, whose type and name are given, which the one state of the parser extracts and the deparser
-- emits: what stands in front, the fields of the header, the metadata, the registers, and the actions and tables and the body of
-- the control
abbrev pub around : Name → Name → List PlainDecl → List Field → List Field → List PlainDecl → List PlainLocal → List PlainStmt → List PlainDecl
around type header before fields metadata registers locals body =
    before
    ++ (PlainDecl.Header type fields
    ∷ PlainDecl.Headers ((type, header) ∷ [])
    ∷ PlainDecl.Meta metadata
    ∷ (registers
    ++ (PlainDecl.Parser (codes "P") (record { name = codes "start"; extracts = header ∷ []; next = PlainNext.To (codes "accept") } ∷ [])
    ∷ PlainDecl.Control (codes "C") locals (stmts body)
    ∷ PlainDecl.Deparser (codes "D") (header ∷ [])
    ∷ PlainDecl.Main (codes "P") (codes "C") (codes "D")
    ∷ [])))

abbrev pub source_frame : List PlainDecl → List Field → List Field → List PlainDecl → List PlainLocal → List PlainStmt → List PlainDecl
source_frame = around (codes "h_t") (codes "h")

abbrev pub bits : ℕ → Name → Field
bits width name = record { name = name; width = width; size = None }

abbrev pub array : ℕ → Name → Name → Field
array width size name = record { name = name; width = width; size = Some size }

-- `hdr.h.NAME`, `meta.NAME` and `std.NAME`
abbrev pub of_header : Name → Lval
of_header name = lval.Header (codes "h") name

abbrev pub of_meta : Name → Lval
of_meta name = lval.Meta name None

abbrev pub of_std : Name → Lval
of_std name = lval.Std name

abbrev pub value_at_lval : Lval → PlainExpr
value_at_lval = PlainExpr.At

abbrev pub plus : PlainExpr → PlainExpr → PlainExpr
plus left right = binary Plus left right

abbrev pub is_equal : PlainExpr → PlainExpr → PlainExpr
is_equal left right = binary Equal left right

abbrev pub plain_register : Name → RegRef
plain_register name = record { name = name; index = None }

abbrev pub packet_at : ℕ → List ℕ → Packet
packet_at port bytes = record { port = port; bytes = bytes }

-- so many bytes of one number
abbrev pub sixteen : ℕ → List ℕ
sixteen byte = byte ∷ byte ∷ byte ∷ byte ∷ byte ∷ byte ∷ byte ∷ byte ∷ byte ∷ byte ∷ byte ∷ byte ∷ byte ∷ byte ∷ byte ∷ byte ∷ []

-- registers of these cells, whatever their names
abbrev pub all_with : List ℕ → Cells
all_with cells = λ name index. cells

abbrev pub answers_of : List PlainDecl → List ℕ → List ℕ → List Packet → List Out
answers_of program sizes cells packets = (packets_meaning program sizes (all_with cells) packets).1

abbrev pub cells_after_packets : List PlainDecl → List ℕ → List ℕ → List Packet → Name → Option ℕ → List ℕ
cells_after_packets program sizes cells packets = (packets_meaning program sizes (all_with cells) packets).0

-- `hdr.h.x = hdr.h.y; hdr.h.y = 1;`
abbrev pub swap_then_set : List PlainDecl
swap_then_set =
    source_frame [] (bits 8 (codes "x") ∷ bits 8 (codes "y") ∷ []) [] [] []
    (PlainStmt.Assign (of_header (codes "x")) (value_at_lval (of_header (codes "y"))) ∷ PlainStmt.Assign (of_header (codes "y")) (bare 1) ∷ [])

-- `if (hdr.h.a == 0) { hdr.h.a = 1; hdr.h.b = 2; }`
abbrev pub changed_condition : List PlainDecl
changed_condition =
    source_frame [] (bits 8 (codes "a") ∷ bits 8 (codes "b") ∷ []) [] [] []
    (PlainStmt.If (is_equal (value_at_lval (of_header (codes "a"))) (bare 0))
    (stmts (PlainStmt.Assign (of_header (codes "a")) (bare 1) ∷ PlainStmt.Assign (of_header (codes "b")) (bare 2) ∷ []))
    ∷ [])

-- `action note() { meta.n = seen.read(0); seen.write(0, meta.n + 1); }`, and the body
-- `note(); if (hdr.h.big == 0) { std.drop = 1; } hdr.h.big = hdr.h.big + 1; std.out_port = std.in_port;`
abbrev pub count_big_headers : List PlainDecl
count_big_headers =
    source_frame [] (bits 128 (codes "big") ∷ []) (bits 8 (codes "n") ∷ []) (PlainDecl.Register (codes "seen") 8 (amount.Num 1) None ∷ [])
    (PlainLocal.OfAction record {
      name = codes "note";
      index = None;
      params = [];
      body = stmts
          (PlainStmt.Read (of_meta (codes "n")) (plain_register (codes "seen")) (bare 0)
          ∷ PlainStmt.Write (plain_register (codes "seen")) (bare 0) (plus (value_at_lval (of_meta (codes "n"))) (bare 1))
          ∷ []);
    } ∷ [])
    (PlainStmt.Call (codes "note") None []
    ∷ PlainStmt.If (is_equal (value_at_lval (of_header (codes "big"))) (bare 0)) (stmts (PlainStmt.Assign (of_std (codes "drop")) (bare 1) ∷ []))
    ∷ PlainStmt.Assign (of_header (codes "big")) (plus (value_at_lval (of_header (codes "big"))) (bare 1))
    ∷ PlainStmt.Assign (of_std (codes "out_port")) (value_at_lval (of_std (codes "in_port")))
    ∷ [])

-- `action note() { meta.n = r.read(1); r.write(1, meta.n + hdr.h.v); }`, and the body
-- `@stage(0) { note(); } @stage(1) { hdr.h.v = meta.n; }`
abbrev pub two_staged_blocks : List PlainDecl
two_staged_blocks =
    source_frame [] (bits 8 (codes "v") ∷ []) (bits 8 (codes "n") ∷ []) (PlainDecl.Register (codes "r") 8 (amount.Num 4) None ∷ [])
    (PlainLocal.OfAction record {
      name = codes "note";
      index = None;
      params = [];
      body = stmts
          (PlainStmt.Read (of_meta (codes "n")) (plain_register (codes "r")) (bare 1)
          ∷ PlainStmt.Write (plain_register (codes "r")) (bare 1) (plus (value_at_lval (of_meta (codes "n"))) (value_at_lval (of_header (codes "v"))))
          ∷ []);
    } ∷ [])
    (PlainStmt.Block (Some 0) (stmts (PlainStmt.Call (codes "note") None [] ∷ []))
    ∷ PlainStmt.Block (Some 1) (stmts (PlainStmt.Assign (of_header (codes "v")) (value_at_lval (of_meta (codes "n"))) ∷ []))
    ∷ [])

-- `hdr.h.o = hash(0, hdr.h.x, 256);`
abbrev pub hashed_header : List PlainDecl
hashed_header =
    source_frame [] (bits 128 (codes "x") ∷ bits 32 (codes "o") ∷ []) [] [] []
    (PlainStmt.Assign (of_header (codes "o")) (PlainExpr.Hash (amount.Num 0) (value_at_lval (of_header (codes "x"))) (amount.Num 256)) ∷ [])

-- `action set(bit<8> n) { hdr.h.x = n; }`, the table
-- `table t { key = { hdr.h.x : ternary; } actions = { set; NoAction; } const entries = { (5 &&& 0xF) : set(1);
-- (0x15) : set(2); } default_action = NoAction(); }`, and the body `t.apply();`
abbrev pub source_entry : PlainKeyset → ℕ → PlainEntry
source_entry set number = record { keys = set ∷ []; action = codes "set"; args = bare number ∷ [] }

abbrev pub table_with_two_matches : List PlainDecl
table_with_two_matches =
    source_frame [] (bits 8 (codes "x") ∷ []) [] []
    (PlainLocal.OfAction record {
      name = codes "set";
      index = None;
      params = record { name = codes "n"; width = 8 } ∷ [];
      body = stmts (PlainStmt.Assign (of_header (codes "x")) (PlainExpr.Named (codes "n")) ∷ []);
    }
    ∷ PlainLocal.OfTable record {
      name = codes "t";
      keys = record { field = of_header (codes "x"); ternary = true } ∷ [];
      actions = codes "set" ∷ codes "NoAction" ∷ [];
      entries = source_entry (PlainKeyset.Masked (bare 5) (bare 0xF)) 1 ∷ source_entry (PlainKeyset.One (bare 0x15)) 2 ∷ [];
      fallback = Some (codes "NoAction", []);
      size = None;
    }
    ∷ [])
    (PlainStmt.Apply (codes "t") ∷ [])

-- `symbolic int n; assume(n <= 4);`, `Register<bit<8>>(2)[n] r;`, and the body
-- `for (i < n) { r[i].write(1, hdr.h.v + 1); } hdr.h.v = hdr.h.v + 250;`
abbrev pub counted_rows : List PlainDecl
counted_rows =
    source_frame (PlainDecl.Symbol (codes "n") ∷ []) (bits 8 (codes "v") ∷ []) [] (PlainDecl.Register (codes "r") 8 (amount.Num 2) (Some (codes "n")) ∷ []) []
    (PlainStmt.For (codes "i") (codes "n")
    (stmts (PlainStmt.Write (record { name = codes "r"; index = Some (codes "i") }) (bare 1) (plus (value_at_lval (of_header (codes "v"))) (bare 1)) ∷ []))
    ∷ PlainStmt.Assign (of_header (codes "v")) (plus (value_at_lval (of_header (codes "v"))) (bare 250))
    ∷ [])

-- `symbolic int a; symbolic int b; assume(b >= 5); maximize(3*a + 2*b);`, `Register<bit<32>>(a) ra; Register<bit<32>>(b) rb;`, and
-- the body `meta.x = ra.read(0); meta.y = rb.read(0);`
abbrev pub number : ℕ → LinTerm
number by = record { minus = false; by = by; symbol = None }

abbrev pub times : ℕ → Name → LinTerm
times by symbol = record { minus = false; by = by; symbol = Some symbol }

abbrev pub at_least : Name → ℕ → PlainDecl
at_least symbol by = PlainDecl.Assume (record { left = times 1 symbol ∷ []; rel = rel.Ge; right = number by ∷ [] } ∷ [])

abbrev pub two_register_arrays : List PlainDecl
two_register_arrays =
    source_frame
    (PlainDecl.Symbol (codes "a") ∷ PlainDecl.Symbol (codes "b") ∷ at_least (codes "b") 5
    ∷ PlainDecl.Maximize (util.Lin (times 3 (codes "a")) ∷ util.Lin (times 2 (codes "b")) ∷ [])
    ∷ [])
    (bits 8 (codes "v") ∷ []) (bits 32 (codes "x") ∷ bits 32 (codes "y") ∷ [])
    (PlainDecl.Register (codes "ra") 32 (amount.Named (codes "a")) None ∷ PlainDecl.Register (codes "rb") 32 (amount.Named (codes "b")) None ∷ [])
    []
    (PlainStmt.Read (of_meta (codes "x")) (plain_register (codes "ra")) (bare 0) ∷ PlainStmt.Read (of_meta (codes "y")) (plain_register (codes "rb")) (bare 0) ∷ [])

-- A count-min sketch of `rows` rows and `cols` columns over the source address of Ethernet: `count[i]` hashes it into a row of
-- `sketch` and counts there, and the least of the counts is kept in `meta.low`
abbrev pub of_row : Name → Lval
of_row name = lval.Meta name (Some (codes "i"))

abbrev pub sketch_row : RegRef
sketch_row = record { name = codes "sketch"; index = Some (codes "i") }

abbrev pub call_in_row : Name → PlainStmt
call_in_row action = PlainStmt.Call action (Some (codes "i")) []

abbrev pub is_less : PlainExpr
is_less = binary Less (value_at_lval (of_row (codes "cnt"))) (value_at_lval (of_meta (codes "low")))

-- the sketch, with more symbols, metadata, registers, actions and statements behind its own
abbrev pub sketch_with : List PlainDecl → List Field → List PlainDecl → List PlainLocal → List PlainStmt → List PlainDecl
sketch_with symbols metadata registers locals body =
    PlainDecl.Include 0
    ∷ PlainDecl.Include 1
    ∷ around (codes "eth_t") (codes "eth")
    (PlainDecl.Symbol (codes "rows") ∷ PlainDecl.Symbol (codes "cols") ∷ (symbols ++ (at_least (codes "rows") 1
    ∷ PlainDecl.Maximize (util.Lin (times 100 (codes "rows")) ∷ util.Lin (times 1 (codes "cols")) ∷ [])
    ∷ [])))
    (bits 48 (codes "dst") ∷ bits 48 (codes "src") ∷ bits 16 (codes "kind") ∷ [])
    (array 32 (codes "rows") (codes "idx") ∷ array 32 (codes "rows") (codes "cnt") ∷ bits 32 (codes "low") ∷ metadata)
    (PlainDecl.Register (codes "sketch") 32 (amount.Named (codes "cols")) (Some (codes "rows")) ∷ registers)
    (PlainLocal.OfAction record {
      name = codes "count";
      index = Some (codes "i");
      params = [];
      body = stmts
          (PlainStmt.Assign (of_row (codes "idx")) (PlainExpr.Hash (amount.Named (codes "i")) (value_at_lval (lval.Header (codes "eth") (codes "src"))) (amount.Named (codes "cols")))
          ∷ PlainStmt.Read (of_row (codes "cnt")) sketch_row (value_at_lval (of_row (codes "idx")))
          ∷ PlainStmt.Write sketch_row (value_at_lval (of_row (codes "idx"))) (plus (value_at_lval (of_row (codes "cnt"))) (bare 1))
          ∷ []);
    }
    ∷ PlainLocal.OfAction record {
      name = codes "least";
      index = Some (codes "i");
      params = [];
      body = stmts (PlainStmt.Assign (of_meta (codes "low")) (value_at_lval (of_row (codes "cnt"))) ∷ []);
    }
    ∷ locals)
    (PlainStmt.Assign (of_meta (codes "low")) (bare 0xFFFFFFFF)
    ∷ PlainStmt.For (codes "i") (codes "rows")
    (stmts (call_in_row (codes "count") ∷ PlainStmt.If is_less (stmts (call_in_row (codes "least") ∷ [])) ∷ []))
    ∷ body)

abbrev pub count_min_sketch : List PlainDecl
count_min_sketch = sketch_with [] [] [] [] []

-- The sketch, and a cache of `ways` ways with `slots` slots each: `keep[j]` keeps the destination and the kind in its way, and
-- reads what stood there.
abbrev pub of_way : Name → Lval
of_way name = lval.Meta name (Some (codes "j"))

abbrev pub store_of_way : RegRef
store_of_way = record { name = codes "store"; index = Some (codes "j") }

abbrev pub sketch_and_cache : List PlainDecl
sketch_and_cache =
    sketch_with (PlainDecl.Symbol (codes "ways") ∷ PlainDecl.Symbol (codes "slots") ∷ [])
    (array 32 (codes "ways") (codes "pos") ∷ array 64 (codes "ways") (codes "old") ∷ [])
    (PlainDecl.Register (codes "store") 64 (amount.Named (codes "slots")) (Some (codes "ways")) ∷ [])
    (PlainLocal.OfAction record {
      name = codes "keep";
      index = Some (codes "j");
      params = [];
      body = stmts
          (PlainStmt.Assign (of_way (codes "pos")) (PlainExpr.Hash (amount.Named (codes "j")) (value_at_lval (lval.Header (codes "eth") (codes "dst"))) (amount.Named (codes "slots")))
          ∷ PlainStmt.Read (of_way (codes "old")) store_of_way (value_at_lval (of_way (codes "pos")))
          ∷ PlainStmt.Write store_of_way (value_at_lval (of_way (codes "pos"))) (binary Join (value_at_lval (lval.Header (codes "eth") (codes "dst"))) (value_at_lval (lval.Header (codes "eth") (codes "kind"))))
          ∷ []);
    }
    ∷ [])
    (PlainStmt.For (codes "j") (codes "ways") (stmts (PlainStmt.Call (codes "keep") (Some (codes "j")) [] ∷ [])) ∷ [])
