-- What a small program does with packets, for the equations that show what programs mean; this project's own.
use Rattle.std.specs.Prelude.{ℕ, List, [], ◌∷◌, None, codes}
use Rattle.elastic_ast.specs.declared.flat.Packet.{Packet}
use Rattle.elastic_ast.specs.declared.flat.Out.{Out}
use Rattle.elastic_ast.specs.Tree.{PlainDecl}
use Rattle.elastic_ast.specs.Packets.PacketMeaning.{packets_meaning}
use Rattle.elastic_laws.specs.Examples.WorkedProgram.{two_cells}

-- the cells and the answers after packets at port 9, where `s` has size 0
abbrev pub packet : List ℕ → Packet
packet bytes = record { port = 9; bytes = bytes }

abbrev pub cells_of_packets : List PlainDecl → List Packet → List ℕ
cells_of_packets program packets = (packets_meaning program (0 ∷ []) two_cells packets).0 (codes "r") None

abbrev pub answers : List PlainDecl → List Packet → List Out
answers program packets = (packets_meaning program (0 ∷ []) two_cells packets).1
