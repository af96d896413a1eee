-- The page of opcodes (document 02, request 02): a line for each of the 256, from its row of the table. Assumes nothing.
use Rattle.std.specs.Prelude.{ℕ, Some, None, Option}
use Rattle.values.specs.Kinds.{places_of}
use Rattle.rules.specs.declared.OpcodeLine.{OpcodeLine}
use Rattle.rules.specs.Forms.{Row, length_of}
use Rattle.rules.specs.Instructions.{row_of}

abbrev pub line : ℕ → ℕ → ℕ → ℕ → OpcodeLine
line n length popped pushed = record { opcode = n; length = length; popped = popped; pushed = pushed }

-- length 255 marks an opcode outside the core; it and WIDE have no places
abbrev pub line_by : ℕ → Option Row → OpcodeLine
line_by n None = line n 255 0 0
line_by n (Some r) = line n (length_of r.format) (places_of r.rule.takes) (places_of r.rule.gives)

-- the line of an opcode
unfoldable pub line_of : ℕ → OpcodeLine
line_of n = line_by n (row_of n)
