-- What decoding answers, case by case: questions 4 and 5 with the refusal, or the instruction's entry in the table, its length in bytes, its
-- index and its constant as a word. A switch's constant is its default; its table stays in the code. Assumes nothing.
use Rattle.std.specs.Prelude.{ℕ, Ok, Err}
use Rattle.values.specs.Integers.{low}
use Rattle.rules.specs.Check.{Check}
use Rattle.rules.specs.Fetch.{Instruction}
use Rattle.instructions.specs.declared.forms.Entry.{Entry}
use Rattle.instructions.specs.declared.decoding.Decoded.{Decoded}
use Rattle.instructions.specs.Table.{core_entry}

abbrev pub instruction_by : Entry → ℕ → ℕ → ℕ → Decoded
instruction_by entry size index constant = record { entry = entry; size = size; index = index; constant = constant }

unfoldable pub decoded : Check Instruction → Check Decoded
decoded (Ok i) = Ok (instruction_by (core_entry i.opcode) i.size i.operand.index (low 32 i.operand.constant))
decoded (Err r) = Err r
