-- Of every row of the table, by its shared opcode: where its words lie, whether it stores, by how much it branches, what it asks of the pool. Computed over
-- the table. Assumes nothing.
use Prim.Native.Nat.{ℕ}
use mathlib.Core.Path.{◌≡◌, refl, ap}
use mathlib.Core.Bool.{Bool, true, false, ◌||◌, cond}
use mathlib.Core.List.{List, [], ◌∷◌}
use lib.Dec.{eqb}
use lib.IntN.{ℤ}
use lib.ListN.{take}
use Rattle.values.specs.Kinds.{Kind, int, long, float, double}
use Rattle.values.specs.Words.{meaning}
use Rattle.rules.specs.Forms.{Row, Operand, Result, pushes, stores, divides, branches, returns, Source, stack, local, pool, table, pairs, offset_for}
use Rattle.rules.specs.Instructions.{instructions, row_of}
use Rattle.rules.proofs.Rows.{every_row_lem, of_row, works}
use Rattle.instructions.specs.Table.{shared_of}
use Rattle.interpreter.specs.Stages.{stores_to}
use Rattle.std.specs.Prelude.{Some}

-- ---- where the words lie

abbrev pub source_of : ℕ → Source
source_of op = cond (eqb op 18 || eqb op 20) pool (cond (eqb op 21 || eqb op 22 || eqb op 132) local stack)

pub row_reads : (n : ℕ) (r : Row) → row_of n ≡ Some r → r.rule.reads ≡ source_of (shared_of r)
unfolding instructions
row_reads n r e = of_row (λ q. q.rule.reads) (λ q. source_of (shared_of q)) (row_of n) r (every_row_lem (λ q. q.rule.reads) (λ q. source_of (shared_of q)) refl n) e

-- ---- the kinds that a constant may have

abbrev pub constant_kinds : ℕ → List Kind
constant_kinds op = cond (eqb op 18) (int ∷ float ∷ []) (cond (eqb op 20) (long ∷ double ∷ []) [])

pub row_constants : (n : ℕ) (r : Row) → row_of n ≡ Some r → r.rule.constants ≡ constant_kinds (shared_of r)
unfolding instructions
row_constants n r e = of_row (λ q. q.rule.constants) (λ q. constant_kinds (shared_of q)) (row_of n) r (every_row_lem (λ q. q.rule.constants) (λ q. constant_kinds (shared_of q)) refl n) e

-- and what it gives, if it has one
abbrev pub constant_given : ℕ → List Kind → List Kind
constant_given op ks = cond (eqb op 18) (int ∷ []) (cond (eqb op 20) (long ∷ []) ks)

pub row_given : (n : ℕ) (r : Row) → row_of n ≡ Some r → r.rule.gives ≡ constant_given (shared_of r) r.rule.gives
unfolding instructions
row_given n r e = of_row (λ q. q.rule.gives) (λ q. constant_given (shared_of q) q.rule.gives) (row_of n) r (every_row_lem (λ q. q.rule.gives) (λ q. constant_given (shared_of q) q.rule.gives) refl n) e

-- ---- the switches

pub row_table : (n : ℕ) (r : Row) → row_of n ≡ Some r → shared_of r ≡ 170 → r.format ≡ table
unfolding instructions
row_table n r e s = rw s at (of_row (λ q. cond (eqb (shared_of q) 170) q.format table) (λ q. table) (row_of n) r (every_row_lem (λ q. cond (eqb (shared_of q) 170) q.format table) (λ q. table) refl n) e)

pub row_pairs : (n : ℕ) (r : Row) → row_of n ≡ Some r → shared_of r ≡ 171 → r.format ≡ pairs
unfolding instructions
row_pairs n r e s = rw s at (of_row (λ q. cond (eqb (shared_of q) 171) q.format pairs) (λ q. pairs) (row_of n) r (every_row_lem (λ q. cond (eqb (shared_of q) 171) q.format pairs) (λ q. pairs) refl n) e)

-- ---- what it comes to, of any operand and any four words

abbrev pub does_four : Row → Operand → ℕ → ℕ → ℕ → ℕ → Result
does_four r o a b c d = r.rule.does o (take (works r.rule) (a ∷ b ∷ c ∷ d ∷ []))

abbrev pub is_store : Result → Bool
is_store (pushes ws) = false
is_store (stores ws) = true
is_store (divides by ws) = false
is_store (branches t z) = false
is_store (returns v) = false

row_stores : Row → Operand → ℕ → ℕ → ℕ → ℕ → Bool
row_stores r o a b c d = is_store (does_four r o a b c d)

opcode_stores : Row → Operand → ℕ → ℕ → ℕ → ℕ → Bool
opcode_stores r o a b c d = stores_to (shared_of r)

pub row_stores_lem : (n : ℕ) (r : Row) → row_of n ≡ Some r → (o : Operand) (a b c d : ℕ) → is_store (does_four r o a b c d) ≡ stores_to (shared_of r)
unfolding instructions row_stores opcode_stores
row_stores_lem n r e o a b c d =
    ap (λ (f : Operand → ℕ → ℕ → ℕ → ℕ → Bool). f o a b c d) (of_row row_stores opcode_stores (row_of n) r (every_row_lem row_stores opcode_stores refl n) e)

-- the offset of a branch, and z of what is none
abbrev pub offset_by : ℤ → Result → ℤ
offset_by z (pushes ws) = z
offset_by z (stores ws) = z
offset_by z (divides by ws) = z
offset_by z (branches t y) = y
offset_by z (returns v) = z

abbrev pub offset_of : ℕ → Operand → ℕ → ℤ
offset_of op o key = cond (eqb op 170 || eqb op 171) (offset_for (meaning int key) o.constant o.pairs) o.constant

row_offset : Row → Operand → ℕ → ℕ → ℕ → ℕ → ℤ
row_offset r o a b c d = offset_by o.constant (does_four r o a b c d)

opcode_offset : Row → Operand → ℕ → ℕ → ℕ → ℕ → ℤ
opcode_offset r o a b c d = offset_of (shared_of r) o a

pub row_offset_lem : (n : ℕ) (r : Row) → row_of n ≡ Some r → (o : Operand) (a b c d : ℕ) → offset_by o.constant (does_four r o a b c d) ≡ offset_of (shared_of r) o a
unfolding instructions row_offset opcode_offset
row_offset_lem n r e o a b c d =
    ap (λ (f : Operand → ℕ → ℕ → ℕ → ℕ → ℤ). f o a b c d) (of_row row_offset opcode_offset (row_of n) r (every_row_lem row_offset opcode_offset refl n) e)
