-- A primary expression is a base and the slices behind it.
use Rattle.std.proofs.Common.{ℕ, List, ◌++◌, refl, sym, subst, ◌∙◌, append_assoc, inl, inr}
use Rattle.elastic_ast.specs.Tree.{PlainExpr}
use Rattle.spelling.specs.Words.{Word}
use Rattle.spelling.specs.Grammar.{Begins}
use Rattle.p4_expr.specs.Parts.{SpellsSlice}
use Rattle.p4_expr.specs.Expressions.{SpellsPrimary}
use Rattle.p4_expr.specs.Bases.{SpellsBase}
use Rattle.p4_expr.proofs.LeftGrown.{Grown, first_alone, grown_one}
use Rattle.p4_expr.proofs.Starts.{IsPrimaryStart, base_starts, begins_front}

abbrev pub Bits : Type 0
Bits = ℕ × ℕ

-- put to the expression that it is a slice of
abbrev pub put_slice : PlainExpr → Bits → PlainExpr
put_slice e bits = PlainExpr.Slice e bits.0 bits.1

pub primary_parts : {depth : ℕ} {e : PlainExpr} {ws : List Word} → SpellsPrimary depth e ws → Grown put_slice (SpellsBase depth) (SpellsSlice depth) e ws
primary_parts {depth = depth} {e = e} {ws = ws} (SpellsPrimary.number h) = first_alone e ws (inl h)
primary_parts {depth = depth} {e = e} {ws = ws} (SpellsPrimary.name h) = first_alone e ws (inl h)
primary_parts {depth = depth} {e = e} {ws = ws} (SpellsPrimary.truth h) = first_alone e ws (inl h)
primary_parts {depth = depth} {e = e} {ws = ws} (SpellsPrimary.place h) = first_alone e ws (inl h)
primary_parts {depth = depth} {e = e} {ws = ws} (SpellsPrimary.is_valid h) = first_alone e ws (inl h)
primary_parts {e = e} {ws = ws} (SpellsPrimary.bracketed {depth = depth} opening inside closing o h c j) =
    first_alone e ws
    (inr record {
      front = opening;
      back = inside ++ closing;
      joined = j ∙ append_assoc opening inside closing;
      first = o;
      second = record { front = inside; back = closing; joined = refl; first = h; second = c };
    })
primary_parts {e = e} {ws = ws} (SpellsPrimary.hash {depth = depth} name opening front inside back closing n o f h b c j) =
    first_alone e ws
    (inl record {
      front = name;
      back = opening ++ ((front ++ inside ++ back) ++ closing);
      joined = j ∙ append_assoc (name ++ opening) (front ++ inside ++ back) closing ∙ append_assoc name opening ((front ++ inside ++ back) ++ closing);
      first = n;
      second = record {
        front = opening;
        back = (front ++ inside ++ back) ++ closing;
        joined = refl;
        first = o;
        second = record {
          front = front ++ inside ++ back;
          back = closing;
          joined = refl;
          first = record { front = front; back = inside ++ back; joined = append_assoc front inside back; first = f; second = record { front = inside; back = back; joined = refl; first = h; second = b } };
          second = c;
        };
      };
    })
primary_parts (SpellsPrimary.slice {high = high} {low = low} {of = of} front back first second j) = grown_one of (high, low) j (primary_parts first) second

pub primary_starts : (depth : ℕ) (e : PlainExpr) (ws : List Word) → SpellsPrimary depth e ws → Begins IsPrimaryStart ws
primary_starts depth e ws h =
    let p = primary_parts h in
    let s = p.spelled in
    subst (Begins IsPrimaryStart) (sym s.joined) (begins_front IsPrimaryStart s.front s.back (base_starts depth p.first s.front s.first))
