-- Ints and longs alike, by their kind (JVMS 2.3.1): how many bits a word has, and the number that it stands for. Assumes nothing.
use Rattle.std.specs.Prelude.{ℕ, suc, ◌+◌, ◌-◌, ◌*◌, ℤ}
use Rattle.values.specs.Kinds.{Kind, places}
use Rattle.values.specs.Integers.{signed, low}

-- the bits of a word below its sign: of an int 31, of a long 63
abbrev pub below_sign : Kind → ℕ
below_sign k = 32 * places k - 1

-- the number that a word stands for, in two's complement
unfoldable pub number : Kind → ℕ → ℤ
number k a = signed (below_sign k) a

-- all its bits: of an int 32, of a long 64
abbrev pub width : Kind → ℕ
width k = suc (below_sign k)

-- the word of a number: its low bits
unfoldable pub low_bits : Kind → ℤ → ℕ
low_bits k z = low (width k) z

-- how many bits of its count a shift keeps: at an int 5, at a long 6 (2.11.3)
abbrev pub count_bits : Kind → ℕ
count_bits k = 4 + places k
