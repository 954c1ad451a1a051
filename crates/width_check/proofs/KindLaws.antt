-- The kinds of some declarations, and of one more.
use Rattle.std.proofs.Common.{◌≡◌, Bool, true, false, not, ◌||◌, List, [], ◌∷◌, ◌++◌, Option, Some, None, refl, ap, ◌∙◌}
use Rattle.std.specs.Prelude.{option_map, unwrap_or}
use Rattle.elastic_ast.specs.Tree.{PlainDecl}
use Rattle.elastic_ast.specs.Typing.Asked.{DeclKind, decl_kind, is_of_kind, has, is_first}
use Rattle.width_check.specs.declared.kinds.Kinds.{Kinds}
use Rattle.width_check.specs.Kinds.{flag, with_kind, lacks_kind, AreKinds}
use Rattle.expr_types.proofs.ScopeLaws.{has_step}

or_true : (b : Bool) → true ≡ (b || true)
or_true true = refl
or_true false = refl

or_false : (b : Bool) → b ≡ (b || false)
or_false true = refl
or_false false = refl

-- the flags after one more declaration
flag_step : (kind : DeclKind) (d : PlainDecl) (kinds : Kinds) → flag (with_kind (decl_kind d) kinds) kind ≡ (flag kinds kind || is_of_kind kind d)
flag_step DeclKind.Utility (PlainDecl.Maximize ts) kinds = or_true (flag kinds DeclKind.Utility)
flag_step DeclKind.Headers (PlainDecl.Headers ms) kinds = or_true (flag kinds DeclKind.Headers)
flag_step DeclKind.Metadata (PlainDecl.Meta fs) kinds = or_true (flag kinds DeclKind.Metadata)
flag_step DeclKind.Parser (PlainDecl.Parser n ss) kinds = or_true (flag kinds DeclKind.Parser)
flag_step DeclKind.Control (PlainDecl.Control n ls b) kinds = or_true (flag kinds DeclKind.Control)
flag_step DeclKind.Deparser (PlainDecl.Deparser n es) kinds = or_true (flag kinds DeclKind.Deparser)
flag_step DeclKind.Main (PlainDecl.Main p c d) kinds = or_true (flag kinds DeclKind.Main)
flag_step kind d kinds = or_false (flag kinds kind)

pub kinds_step : (kinds next : Kinds) (ds : List PlainDecl) (x : PlainDecl) (after : List PlainDecl) → next ≡ with_kind (decl_kind x) kinds → after ≡ ds ++ x ∷ [] → AreKinds kinds ds → AreKinds next after
kinds_step kinds next ds x after e taken h kind = ap (λ k. flag k kind) e ∙ flag_step kind x kinds ∙ has_step kind ds x after (flag kinds kind) taken (h kind)

-- a declaration is the first of its kind where its flag isn't set
pub first_by_kinds : (kinds : Kinds) (ds : List PlainDecl) (d : PlainDecl) → AreKinds kinds ds → lacks_kind kinds d ≡ is_first ds d
first_by_kinds kinds ds d h = by (decl_kind d)
  where
    by : (o : Option DeclKind) → unwrap_or (option_map (λ kind. not (flag kinds kind)) o) true ≡ unwrap_or (option_map (λ kind. not (has kind ds)) o) true
    by None = refl
    by (Some kind) = ap not (h kind)
