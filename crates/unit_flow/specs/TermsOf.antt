-- The terms that are given of a program for its units; this project's own.
use Rattle.std.specs.Prelude.{◌≡◌, List}
use Rattle.elastic_ast.specs.declared.flat.Terms.{Terms}
use Rattle.elastic_ast.specs.Tree.{PlainDecl}
use Rattle.elastic_ast.specs.Sizes.SizeSums.{symbols_of}
use Rattle.size_terms.specs.Ones.{ones_of}
use Rattle.size_terms.specs.Rows.{AreShort}
use Rattle.size_terms.specs.Tables.{tables_of}

-- they have the symbols of the program, those of them that count cells or are a modulus, and the step tables of its utility; and
-- their sums are short
pub record AreTermsOf (decls : List PlainDecl) (terms : Terms) : Type 0 where
  pub symbols : terms.symbols ≡ symbols_of decls
  pub ones : terms.ones ≡ ones_of decls
  pub tables : terms.steps ≡ tables_of decls
  pub short : AreShort terms
