-- The table's rule: what its entries are. Assumes nothing.
use Prim.Native.Nat.{ℕ, ◌<◌}
use mathlib.Core.Path.{◌≡◌, refl, ap}
use mathlib.Core.List.{List, [], ◌∷◌, map}
use native.Mathlib.Omega.{arith}
use Rattle.std.specs.Prelude.{Some, None, Option, slice_index_or}
use Rattle.values.specs.Kinds.{places_of}
use Rattle.rules.specs.Forms.{Row, alone, implied, byte, short, index, index2, index_const, branch, branch4, table, pairs, widened, length_of}
use Rattle.rules.specs.Forms as Forms
use Rattle.rules.specs.Instructions.{row_of}
use Rattle.rules.specs.declared.OpcodeLine.{OpcodeLine}
use Rattle.rules.specs.OpcodePage.{line, line_of, line_by}
use Rattle.rules.proofs.Rows.{up_to, agree}
use Rattle.instructions.specs.declared.forms.Entry.{Entry}
use Rattle.instructions.specs.declared.forms.Format.{Format}
use Rattle.instructions.specs.declared.table.TheConstants.{TABLE}
use Rattle.instructions.specs.Table.{format_of, length_in, shared_of, entry_for, entry_of, core_entry}

pub length_is : (f : Forms.Format) → length_in (format_of f) ≡ length_of f
length_is alone = refl
length_is (implied n) = refl
length_is byte = refl
length_is short = refl
length_is index = refl
length_is index2 = refl
length_is index_const = refl
length_is branch = refl
length_is branch4 = refl
length_is table = refl
length_is pairs = refl
length_is widened = refl

-- the numbers of an entry, and those of a row
abbrev numbers : Entry → Format × List ℕ
numbers e = (e.format, e.shared ∷ e.locals ∷ length_in e.format ∷ e.pops ∷ e.pushes ∷ [])

abbrev row_numbers : Row → Format × List ℕ
row_numbers r = (format_of r.format, shared_of r ∷ places_of r.rule.locals ∷ length_of r.format ∷ places_of r.rule.takes ∷ places_of r.rule.gives ∷ [])

-- an opcode outside the core has none
abbrev numbers_in : Option Entry → Option (Format × List ℕ)
numbers_in None = None
numbers_in (Some e) = Some (numbers e)

abbrev numbers_of : Option Row → Option (Format × List ℕ)
numbers_of None = None
numbers_of (Some r) = Some (row_numbers r)

-- one test over all 256 entries
entries_all : map (λ n. numbers_in (slice_index_or TABLE n None)) (up_to 256) ≡ map (λ n. numbers_of (row_of n)) (up_to 256)
unfolding row_of
entries_all = refl

-- so an entry is that of its opcode's row
same_entry : (o : Option Entry) (r : Option Row) → numbers_in o ≡ numbers_of r → o ≡ entry_of r
unfolding entry_of
same_entry None None e = refl
same_entry None (Some r) e = let z : ◌≡◌ {A = ℕ} 0 1 = cc in absurd (omega arith)
same_entry (Some x) None e = let z : ◌≡◌ {A = ℕ} 0 1 = cc in absurd (omega arith)
same_entry (Some x) (Some r) e =
    let both : numbers x ≡ row_numbers r = cc in
    let format : x.format ≡ format_of r.format = ap (λ (p : Format × List ℕ). p.0) both in
    let list : (numbers x).1 ≡ (row_numbers r).1 = ap (λ (p : Format × List ℕ). p.1) both in
    let shared : x.shared ≡ shared_of r = cc in
    let locals : x.locals ≡ places_of r.rule.locals = cc in
    let pops : x.pops ≡ places_of r.rule.takes = cc in
    let pushes : x.pushes ≡ places_of r.rule.gives = cc in
    rw (← format, ← shared, ← locals, ← pops, ← pushes)

pub table_rule : (n : ℕ) → n < 256 → slice_index_or TABLE n None ≡ entry_of (row_of n)
table_rule n l = same_entry (slice_index_or TABLE n None) (row_of n) (agree (λ n. numbers_in (slice_index_or TABLE n None)) (λ n. numbers_of (row_of n)) 256 entries_all n l)

pub core_entry_lem : (n : ℕ) (r : Row) → row_of n ≡ Some r → core_entry n ≡ entry_for r
unfolding entry_of
core_entry_lem n r e = rw e

-- ---- the page's line of an opcode is in its entry

abbrev pub page_line : ℕ → Option Entry → OpcodeLine
page_line n None = line n 255 0 0
page_line n (Some e) = line n (length_in e.format) e.pops e.pushes

pub line_is : (n : ℕ) → page_line n (entry_of (row_of n)) ≡ line_of n
unfolding entry_of line_of
line_is n = go (row_of n)
  where
    go : (o : Option Row) → page_line n (entry_of o) ≡ line_by n o
    go None = refl
    go (Some r) = rw (length_is r.format)
