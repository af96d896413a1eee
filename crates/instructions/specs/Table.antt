-- What the step reads of an instruction's row: the table that the step uses. Assumes nothing.
use Rattle.std.specs.Prelude.{ℕ, ◌+◌, Bool, false, ◌&&◌, ◌||◌, cond, List, [], ◌∷◌, leb, eqb, Some, None, Option}
use Rattle.std.specs.Option.{unwrap_or}
use Rattle.values.specs.Kinds.{places_of}
use Rattle.rules.specs.Forms.{Row, alone, implied, byte, short, index, index2, index_const, branch, branch4, table, pairs, widened}
use Rattle.rules.specs.Forms as Forms
use Rattle.rules.specs.Instructions.{row_of}
use Rattle.instructions.specs.declared.forms.Format.{Format}
use Rattle.instructions.specs.declared.forms.Entry.{Entry}

-- how the operand bytes are read: a constant of 16 bits and a branch are read alike
abbrev pub format_of : Forms.Format → Format
format_of alone = Format.Alone
format_of (implied n) = Format.Implied n
format_of byte = Format.Byte
format_of short = Format.Short
format_of index = Format.Index
format_of index2 = Format.Index2
format_of index_const = Format.IndexConst
format_of branch = Format.Short
format_of branch4 = Format.Branch4
format_of table = Format.Table
format_of pairs = Format.Pairs
format_of widened = Format.Widened

-- the format of the rules that is read so; a branch has the length of a constant of 16 bits
abbrev pub form_of : Format → Forms.Format
form_of Format.Alone = alone
form_of (Format.Implied n) = implied n
form_of Format.Byte = byte
form_of Format.Short = short
form_of Format.Index = index
form_of Format.Index2 = index2
form_of Format.IndexConst = index_const
form_of Format.Branch4 = branch4
form_of Format.Table = table
form_of Format.Pairs = pairs
form_of Format.Widened = widened

-- the length in bytes, as the page of opcodes has it
abbrev pub length_in : Format → ℕ
length_in f = Forms.length_of (form_of f)

abbrev pub between : ℕ → ℕ → ℕ → Bool
between a b n = leb a n && leb n b

abbrev pub is_in : List ℕ → ℕ → Bool
is_in [] n = false
is_in (k ∷ ks) n = eqb n k || is_in ks n

-- opcodes that do the same with the same words share one: those of the loads and of the stores of one word and of two, of the constants of
-- operand bytes, of the constants of one word, of the jumps
abbrev pub shared_of : Row → ℕ
shared_of r =
    let n = r.opcode in
    cond (between 21 45 n) (20 + places_of r.rule.locals)
    (cond (between 54 78 n) (53 + places_of r.rule.locals)
    (cond (eqb n 17) 16 (cond (eqb n 19) 18 (cond (eqb n 200) 167 n))))

abbrev pub entry_by : Format → ℕ → ℕ → ℕ → ℕ → Entry
entry_by format shared locals pops pushes = record { format = format; shared = shared; locals = locals; pops = pops; pushes = pushes }

-- the entry of a row
abbrev pub entry_for : Row → Entry
entry_for r = entry_by (format_of r.format) (shared_of r) (places_of r.rule.locals) (places_of r.rule.takes) (places_of r.rule.gives)

-- an opcode outside the core has none
unfoldable pub entry_of : Option Row → Option Entry
entry_of None = None
entry_of (Some r) = Some (entry_for r)

-- the entry of an opcode of the core; what an instruction is fetched by is one
abbrev pub core_entry : ℕ → Entry
core_entry n = unwrap_or (entry_of (row_of n)) (entry_by Format.Alone 0 0 0 0)
