-- Decoding in the stages of the code, on an entry of the table: for the contracts of private functions, tied to questions 4 and 5 by proofs/Fetching.
-- Assumes nothing.
use Rattle.std.specs.Prelude.{ℕ, ◌+◌, cond, List, leb, length, Err, Ok}
use Rattle.std.specs.Option.{ok_or}
use Rattle.values.specs.Integers.{low}
use Rattle.rules.specs.Forms.{Row}
use Rattle.rules.specs.Instructions.{row_of}
use Rattle.rules.specs.Fetch.{u8, u16, s8, s16, s32, table_check, lookup_check, wide_check}
use Rattle.operands.specs.declared.switches.Switch.{Switch}
use Rattle.operands.specs.Switch.{switch_of}
use Rattle.instructions.specs.declared.forms.Format.{Format}
use Rattle.instructions.specs.declared.forms.Entry.{Entry}
use Rattle.instructions.specs.declared.decoding.Decoded.{Decoded}
use Rattle.instructions.specs.Table.{length_in, entry_of}
use Rattle.instructions.specs.Decode.{instruction_by, decoded}
use Rattle.rules.specs.Check.{Check}
use Rattle.rules.specs.declared.refusals.Refusal.{Refusal}

-- question 4, with the entry of the opcode
abbrev pub core_of : ℕ → Check Entry
core_of n = ok_or (entry_of (row_of n)) Refusal.Opcode

-- an instruction of n bytes, if they are there
unfoldable pub sized_of : List ℕ → ℕ → Entry → ℕ → ℕ → ℕ → Check Decoded
sized_of code at e n index constant = cond (leb (at + n) (length code)) (Ok (instruction_by e n index constant)) (Err Refusal.OperandBytes)

abbrev pub switch_decoded : Entry → Check Switch → Check Decoded
switch_decoded e (Ok s) = Ok (instruction_by e s.size 0 s.default)
switch_decoded e (Err r) = Err r

-- an instruction of the length of its format
abbrev pub fixed_of : List ℕ → ℕ → Entry → ℕ → ℕ → Check Decoded
fixed_of code at e index constant = sized_of code at e (length_in e.format) index constant

-- the index that an opcode implies
abbrev pub implied_in : Format → ℕ
implied_in (Format.Implied n) = n
implied_in Format.Alone = 0
implied_in Format.Byte = 0
implied_in Format.Short = 0
implied_in Format.Index = 0
implied_in Format.Index2 = 0
implied_in Format.IndexConst = 0
implied_in Format.Branch4 = 0
implied_in Format.Table = 0
implied_in Format.Pairs = 0
implied_in Format.Widened = 0

-- by the format
abbrev pub decoded_by : List ℕ → ℕ → Row → Entry → Format → Check Decoded
decoded_by code at r e Format.Alone = fixed_of code at e 0 0
decoded_by code at r e (Format.Implied n) = fixed_of code at e n 0
decoded_by code at r e Format.Byte = fixed_of code at e 0 (low 32 (s8 code (at + 1)))
decoded_by code at r e Format.Short = fixed_of code at e 0 (low 32 (s16 code (at + 1)))
decoded_by code at r e Format.Index = fixed_of code at e (u8 code (at + 1)) 0
decoded_by code at r e Format.Index2 = fixed_of code at e (u16 code (at + 1)) 0
decoded_by code at r e Format.IndexConst = fixed_of code at e (u8 code (at + 1)) (low 32 (s8 code (at + 2)))
decoded_by code at r e Format.Branch4 = fixed_of code at e 0 (low 32 (s32 code (at + 1)))
decoded_by code at r e Format.Table = switch_decoded e (switch_of (table_check code at r))
decoded_by code at r e Format.Pairs = switch_decoded e (switch_of (lookup_check code at r))
decoded_by code at r e Format.Widened = decoded (wide_check code at)
