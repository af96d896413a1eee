-- The families of the shared opcodes, each one function's, its last opcode first. Assumes nothing.
use Rattle.std.specs.Prelude.{ℕ, ◌%◌, cond, List, [], ◌∷◌, map, drop, eqb, ltb}
use Rattle.rules.specs.Instructions.{instructions}
use Rattle.instructions.specs.Table.{shared_of}
use Rattle.effects.specs.declared.choice.Numbers.{Numbers}
use Rattle.effects.specs.declared.choice.Numbers.TheVariants.{Ints, Longs, Floats, Doubles}

-- the opcodes that instructions share, of the whole table
unfoldable pub shared_opcodes : List ℕ
unfolding instructions
shared_opcodes = map shared_of instructions

-- what an arithmetic opcode works on: ints, longs, floats and doubles take turns, and from ISHL on ints and longs alone
abbrev pub arithmetic_kind : ℕ → Numbers
arithmetic_kind n = cond (ltb n 120) (cond (eqb (n % 4) 0) Ints (cond (eqb (n % 4) 1) Longs (cond (eqb (n % 4) 2) Floats Doubles))) (cond (eqb (n % 2) 0) Ints Longs)

-- ---- the families

abbrev pub constant_opcodes : List ℕ
constant_opcodes = 16 ∷ 15 ∷ 14 ∷ 13 ∷ 12 ∷ 11 ∷ 10 ∷ 9 ∷ 8 ∷ 7 ∷ 6 ∷ 5 ∷ 4 ∷ 3 ∷ 2 ∷ 1 ∷ 0 ∷ []

abbrev pub move_opcodes : List ℕ
move_opcodes = 55 ∷ 54 ∷ 22 ∷ 21 ∷ 20 ∷ 18 ∷ []

abbrev pub stack_opcodes : List ℕ
stack_opcodes = 95 ∷ 94 ∷ 93 ∷ 92 ∷ 91 ∷ 90 ∷ 89 ∷ 88 ∷ 87 ∷ []

abbrev pub int_opcodes : List ℕ
int_opcodes = 132 ∷ 130 ∷ 128 ∷ 126 ∷ 124 ∷ 122 ∷ 120 ∷ 116 ∷ 112 ∷ 108 ∷ 104 ∷ 100 ∷ 96 ∷ []

-- those that longs have too
abbrev pub shared_int_opcodes : List ℕ
shared_int_opcodes = drop 1 int_opcodes

abbrev pub long_opcodes : List ℕ
long_opcodes = 131 ∷ 129 ∷ 127 ∷ 125 ∷ 123 ∷ 121 ∷ 117 ∷ 113 ∷ 109 ∷ 105 ∷ 101 ∷ 97 ∷ []

abbrev pub float_opcodes : List ℕ
float_opcodes = 118 ∷ 114 ∷ 110 ∷ 106 ∷ 102 ∷ 98 ∷ []

abbrev pub double_opcodes : List ℕ
double_opcodes = 119 ∷ 115 ∷ 111 ∷ 107 ∷ 103 ∷ 99 ∷ []

abbrev pub conversion_opcodes : List ℕ
conversion_opcodes = 147 ∷ 146 ∷ 145 ∷ 144 ∷ 143 ∷ 142 ∷ 141 ∷ 140 ∷ 139 ∷ 138 ∷ 137 ∷ 136 ∷ 135 ∷ 134 ∷ 133 ∷ []

abbrev pub comparison_opcodes : List ℕ
comparison_opcodes = 152 ∷ 151 ∷ 150 ∷ 149 ∷ 148 ∷ []

abbrev pub branch_opcodes : List ℕ
branch_opcodes = 199 ∷ 198 ∷ 171 ∷ 170 ∷ 167 ∷ 166 ∷ 165 ∷ 164 ∷ 163 ∷ 162 ∷ 161 ∷ 160 ∷ 159 ∷ 158 ∷ 157 ∷ 156 ∷ 155 ∷ 154 ∷ 153 ∷ []

abbrev pub return_opcodes : List ℕ
return_opcodes = 177 ∷ 176 ∷ 175 ∷ 174 ∷ 173 ∷ 172 ∷ []
