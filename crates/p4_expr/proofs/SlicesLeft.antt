-- Reading the slices behind a primary expression one by one.
use Rattle.std.proofs.Common.{◌≡◌, ℕ, zero, suc, ◌+◌, ◌≤◌, List, [], ◌∷◌, ◌++◌, codes, drop, Ok, refl, sym, ap, subst, ◌∙◌, arith, append_assoc, inl, inr, IsTrue}
use Rattle.elastic_ast.specs.declared.statements.Expr.{Expr}
use Rattle.elastic_ast.specs.Seen.{seen_expr}
use Rattle.elastic_ast.specs.Tree.{PlainExpr}
use Rattle.p4_expr.specs.Readings.{Anything, ReadsCounted}
use Rattle.spelling.specs.Readers.{ReadsLine, itself}
use Rattle.spelling.specs.declared.reader.Reader.{Reader}
use Rattle.spelling.specs.Words.{Word}
use Rattle.spelling.specs.Grammar.{Grammar, ◌⨟◌, IsSign, Begins, IsNum, is_number}
use Rattle.spelling.specs.Reading.{Takes, MayTake, ahead}
use Rattle.spelling.proofs.Only.{begins_bracketed, begins_first, behind_first, no_sign, of_where, split}
use Rattle.spelling.proofs.Taking.{takes_both}
use Rattle.p4_expr.specs.Parts.{SpellsBitRange, SpellsSlice}
use Rattle.p4_expr.specs.Expressions.{SpellsPrimary}
use Rattle.p4_expr.specs.Operators.{operators_in}
use Rattle.p4_expr.specs.Bases.{SpellsOwn, SpellsInBrackets, SpellsBase}
use Rattle.p4_expr.specs.Standing.{EndsBase, EndsLevel, StandsSlice}
use Rattle.p4_expr.proofs.LeftGrown.{GrownAhead, grown_ahead, grown_few}
use Rattle.p4_expr.proofs.Longest.{AllRead, NextOne, Parts, StillAhead, all_read, as_long, goes_on, next_one, part_read}
use Rattle.p4_expr.proofs.Slices.{Bits, primary_parts, put_slice}

-- a base, and what stands behind it
pub primary_ahead : (depth : ℕ) (e : PlainExpr) {a c : List Word} → MayTake (SpellsPrimary depth e) a c → GrownAhead put_slice (SpellsBase depth) (SpellsSlice depth) e a c
primary_ahead depth e m = grown_ahead (λ ws h. primary_parts h) m

-- the slices after those that are read stand ahead
abbrev pub SlicesLeft : (depth : ℕ) (now e : PlainExpr) (a c : List Word) → Type 0
SlicesLeft depth now e a c = StillAhead put_slice (SpellsSlice depth) (EndsLevel 0) now e a c

slice_begins : (depth : ℕ) (bits : Bits) {Q : Grammar} {a c : List Word} → MayTake (SpellsSlice depth bits ⨟ Q) a c → Begins (IsSign (codes "[")) a
slice_begins depth bits m = begins_bracketed _ _ depth _ (of_where (split m).first)

pub slice_count : (of : PlainExpr) (high low : ℕ) → operators_in (PlainExpr.Slice of high low) ≡ operators_in of + 1
unfolding operators_in
slice_count of high low = refl

slice_adds : (e : PlainExpr) (bits : Bits) → operators_in e ≤ operators_in (put_slice e bits)
slice_adds e bits = omega (arith, slice_count e bits.0 bits.1)

pub base_few : (depth : ℕ) {e : PlainExpr} {a c : List Word} (most : ℕ) (p : GrownAhead put_slice (SpellsBase depth) (SpellsSlice depth) e a c) → operators_in e ≤ most → operators_in p.first ≤ most
base_few depth {e = e} most p used = grown_few put_slice p.first e p.later most slice_adds p.whole used

numbered : (value : ℕ) (ws : List Word) → Begins (IsNum value) ws → Begins (λ word. IsTrue (is_number word.kind)) ws
numbered value [] b = b
numbered value (word ∷ ws) b = ap is_number b

-- a number stands behind the opening bracket of a slice
range_number : (depth high low : ℕ) {Q : Grammar} {a c : List Word} → MayTake (SpellsBitRange depth high low ⨟ Q) a c → Begins (λ word. IsTrue (is_number word.kind)) (drop 1 a)
range_number zero high low m = absurd (split m).first.spelled.1
range_number (suc depth) high low {a = a} m =
    let inner = behind_first (of_where (split m).first) in
    let begin = begins_first (split inner).first in
    numbered high (drop 1 a) begin

stands_slice : (depth : ℕ) (bits : Bits) {Q : Grammar} {a c : List Word} → MayTake (SpellsSlice depth bits ⨟ Q) a c → StandsSlice a
stands_slice depth bits m = (slice_begins depth bits m, range_number depth bits.0 bits.1 m)

-- behind a base only a slice may go on
ends_before_slice : (depth : ℕ) (bits : Bits) {Q : Grammar} {a c : List Word} → MayTake (SpellsSlice depth bits ⨟ Q) a c → EndsBase a
ends_before_slice depth bits {a = a} m = let at = stands_slice depth bits m in record {
  index = λ b. at.1;
  place = λ b. no_sign (codes "[") (codes ".") a refl at.0 b;
  call = λ b. no_sign (codes "[") (codes "(") a refl at.0 b;
}

pub slice_parts : (depth : ℕ) → Parts (SpellsSlice depth) EndsBase (EndsLevel 0)
slice_parts depth = record {
  whole = λ ws ends. record { index = λ b. absurd (ends.slice b); place = ends.place; call = ends.call };
  before = λ bits later a c m. ends_before_slice depth bits m;
}

-- where a slice goes on, which nothing behind the whole does
slice_end : {a c : List Word} → StandsSlice a → a ≡ c → EndsLevel 0 c → ⊥
slice_end at same ends = ends.slice (subst (Begins (IsSign (codes "["))) same at.0)

pub next_slice : (depth : ℕ) {now e : PlainExpr} {a c : List Word} → SlicesLeft depth now e a c → StandsSlice a → EndsLevel 0 c → NextOne put_slice (SpellsSlice depth) now e a c
next_slice depth still at ends = next_one still ends (slice_end at)

pub slice_few : (depth : ℕ) {now e : PlainExpr} {a c : List Word} (most : ℕ) (n : NextOne put_slice (SpellsSlice depth) now e a c) → operators_in e ≤ most → operators_in now + 1 ≤ most
slice_few depth {now = now} {e = e} most n used = omega (arith, grown_few put_slice (put_slice now n.one) e n.later most slice_adds n.whole used, slice_count now n.one.0 n.one.1)

-- the base, and one more slice
pub base_read : {depth left fewer : ℕ} {before after : Reader} {e : Expr} → ReadsCounted EndsBase Anything SpellsBase depth left before after (Ok (e, fewer)) → (more : ℕ) (x : PlainExpr) (rest : List Word) → MayTake (SpellsPrimary more x) (ahead before) rest → SlicesLeft more (seen_expr e) x (ahead after) rest
base_read {e = e} r more x rest m =
    let p = primary_ahead more x m in
    part_read (slice_parts more) (SpellsBase more) (λ y. y) p.first (seen_expr e) p.later refl p.whole p.ahead (r.longest more p.first) (r.only more p.first)

pub slice_read : {depth : ℕ} {before after : Reader} {bits : Bits} {now then : PlainExpr} → StandsSlice (ahead before) → ReadsLine SpellsSlice itself depth before after (Ok bits) → then ≡ put_slice now bits → (more : ℕ) (x : PlainExpr) (rest : List Word) → SlicesLeft more now x (ahead before) rest → SlicesLeft more then x (ahead after) rest
slice_read {bits = bits} {now = now} at r made more x rest still =
    goes_on still r.taken.fewer (slice_end at) (λ one later whole m.
    part_read (slice_parts more) (SpellsSlice more) (put_slice now) one bits later made whole m (λ rest f. as_long (r.only more one rest f).1) (λ rest f ends. r.only more one rest f))

-- where none goes on, all are read
pub no_slice : (depth : ℕ) {now e : PlainExpr} {a c : List Word} → SlicesLeft depth now e a c → (StandsSlice a → ⊥) → AllRead (EndsLevel 0) now e a c
no_slice depth still none = all_read still (λ bits later m. none (stands_slice depth bits m))

-- a base is a primary expression
own_primary : (depth : ℕ) (e : PlainExpr) (ws : List Word) → SpellsOwn depth e ws → SpellsPrimary depth e ws
own_primary depth (PlainExpr.Num width value) ws h = SpellsPrimary.number h
own_primary depth (PlainExpr.Truth which) ws h = SpellsPrimary.truth h
own_primary depth (PlainExpr.Named name) ws h = SpellsPrimary.name h
own_primary depth (PlainExpr.At lval) ws h = SpellsPrimary.place h
own_primary depth (PlainExpr.IsValid header) ws h = SpellsPrimary.is_valid h
own_primary zero (PlainExpr.Hash number of modulus) ws h = absurd h.second
own_primary (suc depth) (PlainExpr.Hash number of modulus) ws h =
    let b = h.second in
    let i = b.second in
    let p = i.first in
    let q = p.second in
    SpellsPrimary.hash h.front b.front p.front q.front q.back i.back h.first b.first p.first q.first q.second i.second
    (h.joined
    ∙ ap (λ l. h.front ++ l) (b.joined ∙ ap (λ l. b.front ++ l) (i.joined ∙ ap (λ l. l ++ i.back) (p.joined ∙ ap (λ l. p.front ++ l) q.joined ∙ sym (append_assoc p.front q.front q.back))))
    ∙ sym (append_assoc h.front b.front ((p.front ++ q.front ++ q.back) ++ i.back))
    ∙ sym (append_assoc (h.front ++ b.front) (p.front ++ q.front ++ q.back) i.back))
own_primary depth _ ws h = absurd h

brackets_primary : (depth : ℕ) (e : PlainExpr) (ws : List Word) → SpellsInBrackets depth e ws → SpellsPrimary depth e ws
brackets_primary zero e ws h = absurd h
brackets_primary (suc depth) e ws h =
    let i = h.second in
    SpellsPrimary.bracketed h.front i.front i.back h.first i.first i.second (h.joined ∙ ap (λ l. h.front ++ l) i.joined ∙ sym (append_assoc h.front i.front i.back))

pub base_primary : (depth : ℕ) (e : PlainExpr) (ws : List Word) → SpellsBase depth e ws → SpellsPrimary depth e ws
base_primary depth e ws (inl h) = own_primary depth e ws h
base_primary depth e ws (inr h) = brackets_primary depth e ws h

-- one more slice
pub takes_slice : (depth high low : ℕ) (of : PlainExpr) {a b c : List Word} → Takes (SpellsPrimary depth of) a b → Takes (SpellsBitRange depth high low) b c → Takes (SpellsPrimary depth (PlainExpr.Slice of high low)) a c
takes_slice depth high low of t u =
    let both = takes_both t u in
    record { front = both.front; joined = both.joined; spelled = SpellsPrimary.slice both.spelled.front both.spelled.back both.spelled.first both.spelled.second both.spelled.joined; fewer = both.fewer }
