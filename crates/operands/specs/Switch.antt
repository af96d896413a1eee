-- A switch by the answers to its questions, the offset for a key, on any code, and which pair of a LOOKUPSWITCH has a key. Assumes nothing.
use Rattle.std.specs.Prelude.{ℕ, suc, ◌+◌, ◌-◌, ◌^◌, cond, List, [], ◌∷◌, ℤ, pos, Ok, Err, Option, Some, None}
use Rattle.values.specs.Integers.{low, ◌=ᶻ◌, ◌≤ᶻ◌}
use Rattle.rules.specs.Forms.{Operand, offset_for}
use Rattle.rules.specs.Check.{Check, ◌<ⁿ◌}
use Rattle.rules.specs.Fetch.{Instruction, s32, aligned, low_key, high_key, table_operand, pair_count, pairs_operand}
use Rattle.operands.specs.declared.switches.Switch.{Switch}

unfoldable pub switch_of : Check Instruction → Check Switch
switch_of (Ok i) = Ok (record { size = i.size; default = low 32 i.operand.constant })
switch_of (Err r) = Err r

abbrev pub offset_in : Operand → ℤ → ℤ
offset_in o key = offset_for key o.constant o.pairs

-- TABLESWITCH: with its lowest key above its highest, which question 5 refuses, the default
unfoldable pub table_offset : List ℕ → ℕ → ℤ → ℤ
table_offset code pc key = cond (low_key code pc ≤ᶻ high_key code pc) (offset_in (table_operand code pc) key) (s32 code (aligned pc))

-- LOOKUPSWITCH: with a negative count of pairs, which question 5 refuses, the default
unfoldable pub lookup_offset : List ℕ → ℕ → ℤ → ℤ
lookup_offset code pc key = cond (pos 0 ≤ᶻ pair_count code pc) (offset_in (pairs_operand code pc) key) (s32 code (aligned pc))

-- a switch whose operands are n bytes
abbrev pub switch_with : List ℕ → ℕ → ℕ → Switch
switch_with code pc n = record { size = aligned pc + n - pc; default = low 32 (s32 code (aligned pc)) }

-- a count of pairs, if it is not negative
abbrev pub counted : ℕ → Option ℕ
counted n = cond (n <ⁿ 2 ^ 31) (Some n) None

-- the bytes of a pair as a key and an offset
abbrev pub pair_of : List ℕ → ℤ × ℤ
pair_of p = (s32 p 0, s32 p 4)

-- how many pairs stand before the first that has the key: all of them, where none has it
unfoldable pub key_index : ℤ → List (ℤ × ℤ) → ℕ
key_index key [] = 0
key_index key (p ∷ ps) = cond (key =ᶻ p.0) 0 (suc (key_index key ps))
