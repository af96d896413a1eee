-- The instruction at an offset of the code: questions 4 and 5 (RULES, 'Questions and refusals'), for every format, WIDE and both switches. Assumes nothing.
use Rattle.std.specs.Prelude.{ℕ, zero, suc, ◌+◌, ◌-◌, ◌*◌, ◌/◌, Bool, true, ◌&&◌, ◌||◌, cond, List, [], ◌∷◌, ℤ, pos, ◌+ℤ◌, ◌-ℤ◌, nat_abs, length, get_or, Ok, Err, Some, None, Option}
use Rattle.values.specs.Integers.{signed, ◌<ᶻ◌, ◌≤ᶻ◌}
use Rattle.rules.specs.Check.{Check, ◌else◌, ◌>>=◌, ◌>>◌, ◌≤ⁿ◌, ◌<ⁿ◌, ◌=ⁿ◌}
use Rattle.rules.specs.Forms.{Row, Rule, Operand, Format, alone, implied, byte, short, index, index2, index_const, branch, branch4, table, pairs, widened, length_of}
use Rattle.rules.specs.Instructions.{row_of}
use Rattle.rules.specs.declared.refusals.Refusal.{Refusal}

-- ---- the bytes of the code, big-endian; past its end they read as 0, and question 5 comes before any use of that

abbrev pub u8 : List ℕ → ℕ → ℕ
u8 code at = get_or code at 0

abbrev pub u16 : List ℕ → ℕ → ℕ
u16 code at = u8 code at * 256 + u8 code (at + 1)

abbrev pub u32 : List ℕ → ℕ → ℕ
u32 code at = u16 code at * 65536 + u16 code (at + 2)

abbrev pub s8 : List ℕ → ℕ → ℤ
s8 code at = signed 7 (u8 code at)

abbrev pub s16 : List ℕ → ℕ → ℤ
s16 code at = signed 15 (u16 code at)

abbrev pub s32 : List ℕ → ℕ → ℤ
s32 code at = signed 31 (u32 code at)

-- ---- an instruction: its opcode (after WIDE, that of the instruction widened), its rule, its length in bytes, its operands

pub record Instruction : Type 0 where
  pub opcode : ℕ
  pub rule : Rule
  pub size : ℕ
  pub operand : Operand

abbrev pub operands : ℕ → ℤ → List (ℤ × ℤ) → Operand
operands x c ps = record { index = x; constant = c; pairs = ps }

abbrev pub instruction : Row → ℕ → Operand → Instruction
instruction r n o = record { opcode = r.opcode; rule = r.rule; size = n; operand = o }

abbrev pub core_row : Option Row → Check Row
core_row None = Err Refusal.Opcode
core_row (Some r) = Ok r

-- 4. Is the opcode core?
abbrev pub core : ℕ → Check Row
core n = core_row (row_of n)

-- 5. Are its operand bytes in the code? The instruction is n bytes long
abbrev pub sized : List ℕ → ℕ → Row → ℕ → Operand → Check Instruction
sized code pc r n o = do
  pc + n ≤ⁿ length code else Refusal.OperandBytes
  Ok (instruction r n o)

-- ---- WIDE

-- WIDE takes 21–25, 54–58 and 132
abbrev pub widens : ℕ → Bool
widens n = (21 ≤ⁿ n) && (n ≤ⁿ 25) || (54 ≤ⁿ n) && (n ≤ⁿ 58) || (n =ⁿ 132)

abbrev pub wide_opcode : List ℕ → ℕ → ℕ
wide_opcode code pc = u8 code (pc + 1)

-- second byte there? 5. Allowed? 4. The rest there? 5
unfoldable pub wide_check : List ℕ → ℕ → Check Instruction
wide_check code pc = do
  pc + 1 <ⁿ length code else Refusal.OperandBytes
  widens (wide_opcode code pc) else Refusal.Opcode
  r ← core (wide_opcode code pc)
  cond (wide_opcode code pc =ⁿ 132)
      (sized code pc r 6 (operands (u16 code (pc + 2)) (s16 code (pc + 4)) []))
      (sized code pc r 4 (operands (u16 code (pc + 2)) (pos 0) []))

-- ---- switches

-- a switch's operands begin at the next multiple of 4 after the opcode
abbrev pub aligned : ℕ → ℕ
aligned pc = (pc / 4 + 1) * 4

-- n offsets from `at` on, for the keys from `low` on
unfoldable pub offsets_from : List ℕ → ℕ → ℤ → ℕ → List (ℤ × ℤ)
offsets_from code at low zero = []
offsets_from code at low (suc n) = (low, s32 code at) ∷ offsets_from code (at + 4) (low +ℤ pos 1) n

-- n pairs of a key and an offset from `at` on
unfoldable pub pairs_from : List ℕ → ℕ → ℕ → List (ℤ × ℤ)
pairs_from code at zero = []
pairs_from code at (suc n) = (s32 code at, s32 code (at + 4)) ∷ pairs_from code (at + 8) n

abbrev pub rising_from : ℤ → List (ℤ × ℤ) → Bool
rising_from k [] = true
rising_from k (p ∷ ps) = (k <ᶻ p.0) && rising_from p.0 ps

abbrev pub rising : List (ℤ × ℤ) → Bool
rising [] = true
rising (p ∷ ps) = rising_from p.0 ps

-- TABLESWITCH: default, low, high, then an offset for each key from low to high
abbrev pub low_key : List ℕ → ℕ → ℤ
low_key code pc = s32 code (aligned pc + 4)

abbrev pub high_key : List ℕ → ℕ → ℤ
high_key code pc = s32 code (aligned pc + 8)

abbrev pub keys : List ℕ → ℕ → ℕ
keys code pc = nat_abs (high_key code pc -ℤ low_key code pc) + 1

abbrev pub table_end : List ℕ → ℕ → ℕ
table_end code pc = aligned pc + 12 + 4 * keys code pc

abbrev pub table_operand : List ℕ → ℕ → Operand
table_operand code pc = operands 0 (s32 code (aligned pc)) (offsets_from code (aligned pc + 12) (low_key code pc) (keys code pc))

-- fixed fields in the code? 5. low ≤ high? 6. Table in the code? 5
unfoldable pub table_check : List ℕ → ℕ → Row → Check Instruction
table_check code pc r = do
  aligned pc + 12 ≤ⁿ length code else Refusal.OperandBytes
  low_key code pc ≤ᶻ high_key code pc else Refusal.SwitchKeys
  table_end code pc ≤ⁿ length code else Refusal.OperandBytes
  Ok (instruction r (table_end code pc - pc) (table_operand code pc))

-- LOOKUPSWITCH: default, npairs, then npairs pairs of a key and an offset
abbrev pub pair_count : List ℕ → ℕ → ℤ
pair_count code pc = s32 code (aligned pc + 4)

abbrev pub key_pairs : List ℕ → ℕ → List (ℤ × ℤ)
key_pairs code pc = pairs_from code (aligned pc + 8) (nat_abs (pair_count code pc))

abbrev pub pairs_end : List ℕ → ℕ → ℕ
pairs_end code pc = aligned pc + 8 + 8 * nat_abs (pair_count code pc)

abbrev pub pairs_operand : List ℕ → ℕ → Operand
pairs_operand code pc = operands 0 (s32 code (aligned pc)) (key_pairs code pc)

-- fixed fields in the code? 5. Pair count not negative? 6. Table in the code? 5. Keys strictly rising? 6
unfoldable pub lookup_check : List ℕ → ℕ → Row → Check Instruction
lookup_check code pc r = do
  aligned pc + 8 ≤ⁿ length code else Refusal.OperandBytes
  pos 0 ≤ᶻ pair_count code pc else Refusal.SwitchKeys
  pairs_end code pc ≤ⁿ length code else Refusal.OperandBytes
  rising (key_pairs code pc) else Refusal.SwitchKeys
  Ok (instruction r (pairs_end code pc - pc) (pairs_operand code pc))

-- ---- every format

abbrev pub by_format : List ℕ → ℕ → Row → Format → Check Instruction
by_format code pc r alone = sized code pc r (length_of alone) (operands 0 (pos 0) [])
by_format code pc r (implied n) = sized code pc r (length_of (implied n)) (operands n (pos 0) [])
by_format code pc r byte = sized code pc r (length_of byte) (operands 0 (s8 code (pc + 1)) [])
by_format code pc r short = sized code pc r (length_of short) (operands 0 (s16 code (pc + 1)) [])
by_format code pc r index = sized code pc r (length_of index) (operands (u8 code (pc + 1)) (pos 0) [])
by_format code pc r index2 = sized code pc r (length_of index2) (operands (u16 code (pc + 1)) (pos 0) [])
by_format code pc r index_const = sized code pc r (length_of index_const) (operands (u8 code (pc + 1)) (s8 code (pc + 2)) [])
by_format code pc r branch = sized code pc r (length_of branch) (operands 0 (s16 code (pc + 1)) [])
by_format code pc r branch4 = sized code pc r (length_of branch4) (operands 0 (s32 code (pc + 1)) [])
by_format code pc r table = table_check code pc r
by_format code pc r pairs = lookup_check code pc r
by_format code pc r widened = wide_check code pc

-- questions 4 and 5
unfoldable pub fetched : List ℕ → ℕ → Check Instruction
fetched code pc = do
  r ← core (u8 code pc)
  by_format code pc r r.format
