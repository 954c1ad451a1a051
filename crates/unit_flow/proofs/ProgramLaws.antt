-- The units of the pieces of a program's body are those of the program.
use Rattle.std.proofs.Common.{◌≡◌, ℕ, arith, List, length, sym, ap, ◌∙◌}
use Rattle.std.specs.Prelude.{map}
use Rattle.std.proofs.lemmas.Simd.{map-map}
use Rattle.std.proofs.lemmas.List.{take_all}
use Rattle.elastic_ast.specs.declared.declarations.Decl.{Decl}
use Rattle.elastic_ast.specs.Seen.{seen_decls}
use Rattle.elastic_ast.specs.Tree.{PlainDecl, PlainStmts}
use Rattle.elastic_ast.specs.Packets.MainParts.{body_of}
use Rattle.elastic_ast.specs.Units.UnitsOf.{units_of, cuts_of}
use Rattle.expr_types.specs.Scoped.{before_of}
use Rattle.unit_parts.specs.declared.pieces.Piece.{Piece}
use Rattle.unit_parts.specs.SeenPieces.{seen_piece, seen_pieces, pieces_in}
use Rattle.unit_parts.specs.UnitAt.{unit_at}
use Rattle.unit_parts.proofs.FlatLaws.{flat_outside}
use Rattle.unit_flow.specs.TooLarge.{units_at}

-- all declarations stand before the end
pub before_end : (decls : List Decl) (place : List Decl × ℕ) → place ≡ (decls, length decls) → before_of place ≡ seen_decls decls
before_end decls place e = ap before_of e ∙ ap seen_decls (take_all (length decls) decls (omega arith))

pub units_are : (known decls : List PlainDecl) (body : PlainStmts) (pieces : List Piece) → known ≡ decls → body ≡ body_of decls → seen_pieces pieces ≡ pieces_in body → units_at known pieces ≡ units_of decls
units_are known decls body pieces same here cut =
    ap (λ ds. units_at ds pieces) same ∙ sym (map-map (unit_at decls) seen_piece pieces) ∙ ap (map (unit_at decls)) (cut ∙ ap pieces_in here) ∙ sym (flat_outside decls (cuts_of decls) 0)
