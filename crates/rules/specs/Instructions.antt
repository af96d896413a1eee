-- The 164 instructions, one line each, in the groups of JVMS chapter 7: opcode, mnemonic, what follows the opcode, and the operand stack before and after (JVMS 6.5).
-- `int · int ⟶ int is f` pops value1 and value2 and pushes f of what they mean; `on-bits` says f of their bits. `v2 v1 ⇒ v1 v2 v1` moves words,
-- v1 being the top one. Results are cut to their kind's width by `bits` of Words; a sum or product here is the true one. Assumes nothing.
use Rattle.std.specs.Prelude.{ℕ, ◌/◌, ◌%◌, ◌^◌, not, cond, List, [], ◌∷◌, pos, neg_ℤ, ◌+ℤ◌, ◌-ℤ◌, ◌*ℤ◌, eqb, Some, None, Option}
use Rattle.std.specs.Int.Signed.{quot_z, rem_z, shr_z}
use Rattle.std.specs.Float.Ieee as Ieee
use Rattle.std.specs.Float.{binary32, binary64}
use Rattle.std.specs.Float.Ieee.{of_int, to_signed}
use Rattle.values.specs.declared.Value.{Value}
use Rattle.values.specs.Kinds.{int, long, float, double, reference}
use Rattle.values.specs.Integers.{low, to_byte, to_char, to_short, ◌=ᶻ◌, ◌<ᶻ◌, ◌≤ᶻ◌, −1, order, bitwise, and, or, xor, flipped}
use Rattle.values.specs.Floats.{order_or, nearest}
use Rattle.rules.specs.Forms.{Row, op, v1, v2, v3, v4, ◌⟶◌on_bits◌, ◌·◌⟶◌on_bits◌, ◌⟶◌is◌, ◌·◌⟶◌is◌, ◌÷◌is◌, ◌⇒◌, ◌jumps_if◌, ◌·◌jumps_if◌, constant, immediate, pool_constant, load, store, increment, jumps, switches, gives_back, gives_back_nothing, does_nothing, alone, implied, byte, short, index, index2, index_const, branch, branch4, table, pairs, widened}

unfoldable pub instructions : List Row
instructions =
    -- Constants (JVMS 2.11.2)
    op 0 "nop" alone does_nothing ∷
    op 1 "aconst_null" alone (constant reference 0) ∷
    op 2 "iconst_m1" alone (constant int −1) ∷
    op 3 "iconst_0" alone (constant int (pos 0)) ∷
    op 4 "iconst_1" alone (constant int (pos 1)) ∷
    op 5 "iconst_2" alone (constant int (pos 2)) ∷
    op 6 "iconst_3" alone (constant int (pos 3)) ∷
    op 7 "iconst_4" alone (constant int (pos 4)) ∷
    op 8 "iconst_5" alone (constant int (pos 5)) ∷
    op 9 "lconst_0" alone (constant long (pos 0)) ∷
    op 10 "lconst_1" alone (constant long (pos 1)) ∷
    op 11 "fconst_0" alone (constant float (of_int binary32 (pos 0))) ∷
    op 12 "fconst_1" alone (constant float (of_int binary32 (pos 1))) ∷
    op 13 "fconst_2" alone (constant float (of_int binary32 (pos 2))) ∷
    op 14 "dconst_0" alone (constant double (of_int binary64 (pos 0))) ∷
    op 15 "dconst_1" alone (constant double (of_int binary64 (pos 1))) ∷
    op 16 "bipush" byte immediate ∷
    op 17 "sipush" short immediate ∷
    op 18 "ldc" index (pool_constant int float) ∷
    op 19 "ldc_w" index2 (pool_constant int float) ∷
    op 20 "ldc2_w" index2 (pool_constant long double) ∷
    -- Loads (2.11.2): <n> in the mnemonic is the local
    op 21 "iload" index (load int) ∷
    op 22 "lload" index (load long) ∷
    op 23 "fload" index (load float) ∷
    op 24 "dload" index (load double) ∷
    op 25 "aload" index (load reference) ∷
    op 26 "iload_0" (implied 0) (load int) ∷
    op 27 "iload_1" (implied 1) (load int) ∷
    op 28 "iload_2" (implied 2) (load int) ∷
    op 29 "iload_3" (implied 3) (load int) ∷
    op 30 "lload_0" (implied 0) (load long) ∷
    op 31 "lload_1" (implied 1) (load long) ∷
    op 32 "lload_2" (implied 2) (load long) ∷
    op 33 "lload_3" (implied 3) (load long) ∷
    op 34 "fload_0" (implied 0) (load float) ∷
    op 35 "fload_1" (implied 1) (load float) ∷
    op 36 "fload_2" (implied 2) (load float) ∷
    op 37 "fload_3" (implied 3) (load float) ∷
    op 38 "dload_0" (implied 0) (load double) ∷
    op 39 "dload_1" (implied 1) (load double) ∷
    op 40 "dload_2" (implied 2) (load double) ∷
    op 41 "dload_3" (implied 3) (load double) ∷
    op 42 "aload_0" (implied 0) (load reference) ∷
    op 43 "aload_1" (implied 1) (load reference) ∷
    op 44 "aload_2" (implied 2) (load reference) ∷
    op 45 "aload_3" (implied 3) (load reference) ∷
    -- Stores (2.11.2)
    op 54 "istore" index (store int) ∷
    op 55 "lstore" index (store long) ∷
    op 56 "fstore" index (store float) ∷
    op 57 "dstore" index (store double) ∷
    op 58 "astore" index (store reference) ∷
    op 59 "istore_0" (implied 0) (store int) ∷
    op 60 "istore_1" (implied 1) (store int) ∷
    op 61 "istore_2" (implied 2) (store int) ∷
    op 62 "istore_3" (implied 3) (store int) ∷
    op 63 "lstore_0" (implied 0) (store long) ∷
    op 64 "lstore_1" (implied 1) (store long) ∷
    op 65 "lstore_2" (implied 2) (store long) ∷
    op 66 "lstore_3" (implied 3) (store long) ∷
    op 67 "fstore_0" (implied 0) (store float) ∷
    op 68 "fstore_1" (implied 1) (store float) ∷
    op 69 "fstore_2" (implied 2) (store float) ∷
    op 70 "fstore_3" (implied 3) (store float) ∷
    op 71 "dstore_0" (implied 0) (store double) ∷
    op 72 "dstore_1" (implied 1) (store double) ∷
    op 73 "dstore_2" (implied 2) (store double) ∷
    op 74 "dstore_3" (implied 3) (store double) ∷
    op 75 "astore_0" (implied 0) (store reference) ∷
    op 76 "astore_1" (implied 1) (store reference) ∷
    op 77 "astore_2" (implied 2) (store reference) ∷
    op 78 "astore_3" (implied 3) (store reference) ∷
    -- Stack (2.11.6): the book writes value1 for the top word, here v1
    op 87 "pop" alone (v1 ∷ [] ⇒ []) ∷
    op 88 "pop2" alone (v2 ∷ v1 ∷ [] ⇒ []) ∷
    op 89 "dup" alone (v1 ∷ [] ⇒ v1 ∷ v1 ∷ []) ∷
    op 90 "dup_x1" alone (v2 ∷ v1 ∷ [] ⇒ v1 ∷ v2 ∷ v1 ∷ []) ∷
    op 91 "dup_x2" alone (v3 ∷ v2 ∷ v1 ∷ [] ⇒ v1 ∷ v3 ∷ v2 ∷ v1 ∷ []) ∷
    op 92 "dup2" alone (v2 ∷ v1 ∷ [] ⇒ v2 ∷ v1 ∷ v2 ∷ v1 ∷ []) ∷
    op 93 "dup2_x1" alone (v3 ∷ v2 ∷ v1 ∷ [] ⇒ v2 ∷ v1 ∷ v3 ∷ v2 ∷ v1 ∷ []) ∷
    op 94 "dup2_x2" alone (v4 ∷ v3 ∷ v2 ∷ v1 ∷ [] ⇒ v2 ∷ v1 ∷ v4 ∷ v3 ∷ v2 ∷ v1 ∷ []) ∷
    op 95 "swap" alone (v2 ∷ v1 ∷ [] ⇒ v1 ∷ v2 ∷ []) ∷
    -- Math (2.11.3): the true result, of which an int or a long keeps its low bits; quot_z rounds toward zero, rem_z has the dividend's sign, shr_z rounds down
    op 96 "iadd" alone (int · int ⟶ int is λ a b. a +ℤ b) ∷
    op 97 "ladd" alone (long · long ⟶ long is λ a b. a +ℤ b) ∷
    op 98 "fadd" alone (float · float ⟶ float is Ieee.add binary32) ∷
    op 99 "dadd" alone (double · double ⟶ double is Ieee.add binary64) ∷
    op 100 "isub" alone (int · int ⟶ int is λ a b. a -ℤ b) ∷
    op 101 "lsub" alone (long · long ⟶ long is λ a b. a -ℤ b) ∷
    op 102 "fsub" alone (float · float ⟶ float is Ieee.sub binary32) ∷
    op 103 "dsub" alone (double · double ⟶ double is Ieee.sub binary64) ∷
    op 104 "imul" alone (int · int ⟶ int is λ a b. a *ℤ b) ∷
    op 105 "lmul" alone (long · long ⟶ long is λ a b. a *ℤ b) ∷
    op 106 "fmul" alone (float · float ⟶ float is Ieee.mul binary32) ∷
    op 107 "dmul" alone (double · double ⟶ double is Ieee.mul binary64) ∷
    op 108 "idiv" alone (int ÷ int is quot_z) ∷
    op 109 "ldiv" alone (long ÷ long is quot_z) ∷
    op 110 "fdiv" alone (float · float ⟶ float is Ieee.div binary32) ∷
    op 111 "ddiv" alone (double · double ⟶ double is Ieee.div binary64) ∷
    op 112 "irem" alone (int ÷ int is rem_z) ∷
    op 113 "lrem" alone (long ÷ long is rem_z) ∷
    op 114 "frem" alone (float · float ⟶ float is Ieee.rem binary32) ∷
    op 115 "drem" alone (double · double ⟶ double is Ieee.rem binary64) ∷
    op 116 "ineg" alone (int ⟶ int is neg_ℤ) ∷
    op 117 "lneg" alone (long ⟶ long is neg_ℤ) ∷
    op 118 "fneg" alone (float ⟶ float on_bits flipped 31) ∷
    op 119 "dneg" alone (double ⟶ double on_bits flipped 63) ∷
    op 120 "ishl" alone (int · int ⟶ int is λ a s. a *ℤ pos (2 ^ low 5 s)) ∷
    op 121 "lshl" alone (long · int ⟶ long is λ a s. a *ℤ pos (2 ^ low 6 s)) ∷
    op 122 "ishr" alone (int · int ⟶ int is λ a s. shr_z a (2 ^ low 5 s)) ∷
    op 123 "lshr" alone (long · int ⟶ long is λ a s. shr_z a (2 ^ low 6 s)) ∷
    op 124 "iushr" alone (int · int ⟶ int on_bits λ a s. a / 2 ^ (s % 32)) ∷
    op 125 "lushr" alone (long · int ⟶ long on_bits λ a s. a / 2 ^ (s % 64)) ∷
    op 126 "iand" alone (int · int ⟶ int on_bits bitwise 32 and) ∷
    op 127 "land" alone (long · long ⟶ long on_bits bitwise 64 and) ∷
    op 128 "ior" alone (int · int ⟶ int on_bits bitwise 32 or) ∷
    op 129 "lor" alone (long · long ⟶ long on_bits bitwise 64 or) ∷
    op 130 "ixor" alone (int · int ⟶ int on_bits bitwise 32 xor) ∷
    op 131 "lxor" alone (long · long ⟶ long on_bits bitwise 64 xor) ∷
    op 132 "iinc" index_const increment ∷
    -- Conversions (2.11.4): l2i keeps the low 32 bits, f2d is exact, to a float rounds once, from a float cuts off and saturates
    op 133 "i2l" alone (int ⟶ long is λ a. a) ∷
    op 134 "i2f" alone (int ⟶ float is of_int binary32) ∷
    op 135 "i2d" alone (int ⟶ double is of_int binary64) ∷
    op 136 "l2i" alone (long ⟶ int is λ a. a) ∷
    op 137 "l2f" alone (long ⟶ float is of_int binary32) ∷
    op 138 "l2d" alone (long ⟶ double is of_int binary64) ∷
    op 139 "f2i" alone (float ⟶ int is to_signed 31) ∷
    op 140 "f2l" alone (float ⟶ long is to_signed 63) ∷
    op 141 "f2d" alone (float ⟶ double is λ x. x) ∷
    op 142 "d2i" alone (double ⟶ int is to_signed 31) ∷
    op 143 "d2l" alone (double ⟶ long is to_signed 63) ∷
    op 144 "d2f" alone (double ⟶ float is nearest binary32) ∷
    op 145 "i2b" alone (int ⟶ int is to_byte) ∷
    op 146 "i2c" alone (int ⟶ int is to_char) ∷
    op 147 "i2s" alone (int ⟶ int is to_short) ∷
    -- Comparisons (2.11.3, 2.11.7)
    op 148 "lcmp" alone (long · long ⟶ int is order) ∷
    op 149 "fcmpl" alone (float · float ⟶ int is order_or −1) ∷
    op 150 "fcmpg" alone (float · float ⟶ int is order_or (pos 1)) ∷
    op 151 "dcmpl" alone (double · double ⟶ int is order_or −1) ∷
    op 152 "dcmpg" alone (double · double ⟶ int is order_or (pos 1)) ∷
    op 153 "ifeq" branch (int jumps_if λ a. a =ᶻ pos 0) ∷
    op 154 "ifne" branch (int jumps_if λ a. not (a =ᶻ pos 0)) ∷
    op 155 "iflt" branch (int jumps_if λ a. a <ᶻ pos 0) ∷
    op 156 "ifge" branch (int jumps_if λ a. pos 0 ≤ᶻ a) ∷
    op 157 "ifgt" branch (int jumps_if λ a. pos 0 <ᶻ a) ∷
    op 158 "ifle" branch (int jumps_if λ a. a ≤ᶻ pos 0) ∷
    op 159 "if_icmpeq" branch (int · int jumps_if λ a b. a =ᶻ b) ∷
    op 160 "if_icmpne" branch (int · int jumps_if λ a b. not (a =ᶻ b)) ∷
    op 161 "if_icmplt" branch (int · int jumps_if λ a b. a <ᶻ b) ∷
    op 162 "if_icmpge" branch (int · int jumps_if λ a b. b ≤ᶻ a) ∷
    op 163 "if_icmpgt" branch (int · int jumps_if λ a b. b <ᶻ a) ∷
    op 164 "if_icmple" branch (int · int jumps_if λ a b. a ≤ᶻ b) ∷
    op 165 "if_acmpeq" branch (reference · reference jumps_if λ a b. eqb a b) ∷
    op 166 "if_acmpne" branch (reference · reference jumps_if λ a b. not (eqb a b)) ∷
    -- Control (2.11.7, 2.11.8)
    op 167 "goto" branch jumps ∷
    op 170 "tableswitch" table switches ∷
    op 171 "lookupswitch" pairs switches ∷
    op 172 "ireturn" alone (gives_back int Value.Int) ∷
    op 173 "lreturn" alone (gives_back long Value.Long) ∷
    op 174 "freturn" alone (gives_back float Value.Float) ∷
    op 175 "dreturn" alone (gives_back double Value.Double) ∷
    op 176 "areturn" alone (gives_back reference Value.Reference) ∷
    op 177 "return" alone (gives_back_nothing Value.Void) ∷
    -- Extended (2.11.7; wide is read with its second byte, so its own row does nothing)
    op 196 "wide" widened does_nothing ∷
    op 198 "ifnull" branch (reference jumps_if λ a. eqb a 0) ∷
    op 199 "ifnonnull" branch (reference jumps_if λ a. not (eqb a 0)) ∷
    op 200 "goto_w" branch4 jumps ∷
    []

unfoldable pub row_in : List Row → ℕ → Option Row
row_in [] n = None
row_in (r ∷ rs) n = cond (eqb n r.opcode) (Some r) (row_in rs n)

-- the row of an opcode, if it is one of the core opcodes
unfoldable pub row_of : ℕ → Option Row
unfolding row_in instructions
row_of n = row_in instructions n
