-- Look-ups of actions, tables and states of a whole program.
use Rattle.std.proofs.Common.{◌≡◌, ℕ, ◌+◌, Bool, true, false, cond, List, [], ◌∷◌, ◌++◌, map, find, slice_get, Option, Some, None, IfSome, refl, sym, ap, ◌∙◌}
use Rattle.std.specs.Prelude.{if◌then◌else◌, option_map, option_and_then, unwrap_or}
use Rattle.elastic_ast.specs.declared.declarations.Decl.{Decl}
use Rattle.elastic_ast.specs.declared.declarations.Local.{Local}
use Rattle.elastic_ast.specs.declared.declarations.State.{State}
use Rattle.elastic_ast.specs.Tree.{Name, PlainDecl, PlainLocal, PlainState, PlainStmts}
use Rattle.elastic_ast.specs.Seen.{seen_local, seen_state}
use Rattle.elastic_ast.specs.Typing.Scope.{same, among, or_else, found}
use Rattle.elastic_ast.specs.Typing.AskedInLocals.{local_name}
use Rattle.elastic_ast.specs.Typing.AskedOfNames.{top_name}
use Rattle.elastic_ast.specs.Typing.LookUps.{locals_in, locals_of}
use Rattle.elastic_ast.specs.Typing.ParserLoops.{state_name}
use Rattle.elastic_ast.specs.Packets.MainParts.{parser_in}
use Rattle.program_names.specs.LocalParts.{name_of_local, seen_locals, seen_states}
use Rattle.program_names.specs.TopNames.{controls_with, controls_of, part_names}
use Rattle.expr_types.specs.Scoped.{before_of, FindsPart, StandsUnder}
use Rattle.expr_types.specs.ProgramParts.{locals_at, parser_states, state_among, state_at, parser_state}
use Rattle.expr_types.proofs.PartLaws.{or_left_true}

map_twice : {X Y Z : Type 0} (f : X → Y) (g : Y → Z) (xs : List X) → map g (map f xs) ≡ map (λ x. g (f x)) xs
map_twice f g [] = refl
map_twice f g (x ∷ xs) = ap (λ z. g (f x) ∷ z) (map_twice f g xs)

-- what the first gives that gives something, of things that are seen as others and of two lists
found_map : {X Y B : Type 0} (f : X → Y) (gives : Y → Option B) (xs : List X) → found gives (map f xs) ≡ found (λ x. gives (f x)) xs
found_map f gives [] = refl
found_map f gives (x ∷ xs) = ap (or_else (gives (f x))) (found_map f gives xs)

found_append : {X B : Type 0} (gives : X → Option B) (xs ys : List X) → found gives (xs ++ ys) ≡ or_else (found gives xs) (found gives ys)
found_append gives [] ys = refl
found_append gives (x ∷ xs) ys = ap (or_else (gives x)) (found_append gives xs ys) ∙ turn (gives x) (found gives xs) (found gives ys)
  where
    turn : {B : Type 0} (a b c : Option B) → or_else a (or_else b c) ≡ or_else (or_else a b) c
    turn None b c = refl
    turn (Some x) b c = refl

-- what the actions and tables of all controls give
module _ {B : Type 0} (pick : PlainLocal → Option B) where
  in_controls : (decls : List PlainDecl) → found (λ decl. found pick (locals_in decl)) (controls_of decls) ≡ found pick (locals_of decls)
  in_controls [] = refl
  in_controls (d ∷ ds) =
      found_append (λ decl. found pick (locals_in decl)) (controls_with d) (controls_of ds) ∙ ap (or_else (found (λ decl. found pick (locals_in decl)) (controls_with d))) (in_controls ds)
      ∙ ap (λ z. or_else z (found pick (locals_of ds))) (one d) ∙ sym (found_append pick (locals_in d) (locals_of ds))
    where
      alone : (o : Option B) → or_else o None ≡ o
      alone None = refl
      alone (Some x) = refl

      one : (d : PlainDecl) → found (λ decl. found pick (locals_in decl)) (controls_with d) ≡ found pick (locals_in d)
      one (PlainDecl.Control name locals body) = alone (found pick locals)
      one _ = refl

  pub controls_give : (inside place : List Decl × ℕ) (numbers : List ℕ) → inside ≡ place → map (slice_get (before_of inside)) numbers ≡ map Some (controls_of (before_of inside)) → found (λ number. found pick (locals_at place number)) numbers ≡ found pick (locals_of (before_of place))
  controls_give inside place numbers same are =
      sym (found_map (slice_get (before_of place)) in_control numbers)
      ∙ ap (λ place. found in_control (map (slice_get (before_of place)) numbers)) (sym same) ∙ ap (found in_control) are
      ∙ found_map Some in_control (controls_of (before_of inside)) ∙ in_controls (before_of inside) ∙ ap (λ place. found pick (locals_of (before_of place))) same
    where
      in_control : Option PlainDecl → Option B
      in_control decl = found pick (unwrap_or (option_map locals_in decl) [])

-- the table of a control is that of its actions and tables
pub control_names : (place : List Decl × ℕ) (number : ℕ) (control : Name) (locals : List Local) (body : PlainStmts) (names : List Name) → Some (PlainDecl.Control control (seen_locals locals) body) ≡ slice_get (before_of place) number
    → Some names ≡ option_map part_names (slice_get (before_of place) number) → names ≡ map name_of_local locals
control_names place number control locals body names here table =
    let all : Some names ≡ Some (map local_name (seen_locals locals)) = table ∙ ap (option_map part_names) (sym here) in
    let these : names ≡ map local_name (seen_locals locals) = cc in
    these ∙ map_twice seen_local local_name locals

-- a state by its name, as it is seen
find_seen : (name : Name) (states : List State) → option_map seen_state (find (λ state. same name (state_name (seen_state state))) states) ≡ find (λ state. same name (state_name state)) (seen_states states)
find_seen name [] = refl
find_seen name (x ∷ xs) = by (same name (state_name (seen_state x))) (find_seen name xs)
  where
    by : (b : Bool) → option_map seen_state (find (λ state. same name (state_name (seen_state state))) xs) ≡ find (λ state. same name (state_name state)) (seen_states xs)
        → option_map seen_state (cond b (Some x) (find (λ state. same name (state_name (seen_state state))) xs)) ≡ cond b (Some (seen_state x)) (find (λ state. same name (state_name state)) (seen_states xs))
    by true h = refl
    by false h = h

pub state_found : (place : List Decl × ℕ) (number : ℕ) (parser name : Name) (states : List State) (result : Option State) → Some (PlainDecl.Parser parser (seen_states states)) ≡ slice_get (before_of place) number
    → FindsPart place number states name result → option_map seen_state result ≡ state_at place name number
state_found place number parser name states result here finds =
    ap (option_map seen_state) (finds (λ state. state_name (seen_state state)) (PlainDecl.Parser parser (seen_states states)) (sym here) (map_twice seen_state state_name states))
    ∙ find_seen name states
    ∙ ap (λ decl. state_among name (option_and_then parser_states decl)) here

-- a state of the parser of a name
states_under : (parser name : Name) (decl : Option PlainDecl) → IfSome decl (λ d. among (top_name d) parser ≡ true) → state_among name (option_and_then parser_states decl) ≡ state_among name (option_and_then (parser_in parser) decl)
states_under parser name None h = refl
states_under parser name (Some (PlainDecl.Parser other states)) h = sym (ap (λ b. state_among name (if b then Some states else None)) (or_left_true (same parser other) h))
states_under parser name (Some _) h = refl

pub parser_found : (parser name : Name) (place : List Decl × ℕ) (decl : Option PlainDecl) (result : Option PlainState) → StandsUnder parser (before_of place) decl → result ≡ state_among name (option_and_then parser_states decl)
    → result ≡ parser_state (before_of place) parser name
parser_found parser name place decl result under e = e ∙ states_under parser name decl under.named ∙ ap (state_among name) (sym under.parser)
