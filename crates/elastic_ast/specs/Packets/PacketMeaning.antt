-- What a program does with packets, one after the other, at sizes: it parses a packet, runs the body of the control, and
-- drops the packet or sends it on (this project's own, over the parsers, controls and deparsers of P4-16 language
-- specification 1.2.3).
use Rattle.std.specs.Prelude.{ℕ, List, [], ◌∷◌, ◌==◌, Option, Some, None, codes, if◌then◌else◌}
use Rattle.elastic_ast.specs.declared.flat.Location.TheVariants as location
use Rattle.elastic_ast.specs.declared.flat.Packet.{Packet}
use Rattle.elastic_ast.specs.declared.flat.Out.{Out}
use Rattle.elastic_ast.specs.declared.flat.Out.TheVariants as out
use Rattle.elastic_ast.specs.Tree.{Name, PlainDecl}
use Rattle.elastic_ast.specs.Containers.LocationPlaces.{place}
use Rattle.elastic_ast.specs.Meaning.Memory.{Words, Cells, Memory, At, held, words_of, register_cells}
use Rattle.elastic_ast.specs.Meaning.StatementMeaning.{statements_meaning}
use Rattle.elastic_ast.specs.Packets.MainParts.{body_of}
use Rattle.elastic_ast.specs.Packets.Taken.{taken}
use Rattle.elastic_ast.specs.Packets.Given.{given}

-- a number in a field of `std`
abbrev pub std_value : Memory → Name → ℕ
std_value memory name = (memory (At (place (location.Std name) None))).1

-- what becomes of a packet after the body, where these bytes are unparsed
abbrev pub answer : List PlainDecl → Memory → List ℕ → Out
answer decls memory rest =
    if std_value memory (codes "drop") == 1 then out.Dropped
    else out.Sent (std_value memory (codes "out_port")) (given decls (words_of memory) rest)

-- the registers and the answer after a taken packet; a rejected one changes no register
abbrev pub worked : List PlainDecl → List ℕ → Cells → Option (Words × List ℕ) → Cells × Out
worked decls sizes cells (Some vector) =
    let memory = statements_meaning (body_of decls) decls sizes None (held vector.0 cells) in (register_cells memory, answer decls memory vector.1)
worked decls sizes cells None = (cells, out.Dropped)

abbrev pub packet_meaning : List PlainDecl → List ℕ → Cells → Packet → Cells × Out
packet_meaning decls sizes cells packet = worked decls sizes cells (taken decls sizes packet)

-- packets one after the other, each on the registers as they are then: the registers at the end, and the answers
abbrev pub packets_meaning : List PlainDecl → List ℕ → Cells → List Packet → Cells × List Out
packets_meaning decls sizes cells [] = (cells, [])
packets_meaning decls sizes cells (packet ∷ packets) =
    let first = packet_meaning decls sizes cells packet in
    let rest = packets_meaning decls sizes first.0 packets in
    (rest.0, first.1 ∷ rest.1)
