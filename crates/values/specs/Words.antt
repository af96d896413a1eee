-- What the bits of a value mean, and how they lie in 32-bit words, low word first. Assumes nothing.
use Rattle.std.specs.Prelude.{ℕ, ◌+◌, ◌*◌, ◌/◌, ◌%◌, ◌^◌, List, [], ◌∷◌, ℤ, get_or, Float}
use Rattle.std.specs.Float.{binary32, binary64}
use Rattle.std.specs.Float.Ieee.{of_bits, to_bits}
use Rattle.values.specs.Kinds.{Kind, int, long, float, double, reference, any}
use Rattle.values.specs.Integers.{signed, low}

-- ---- what bits mean: an int or a long a whole number, a float or a double a number of IEEE 754 (with one NaN), any other its bits

abbrev pub Meaning : Kind → Type 0
Meaning int = ℤ
Meaning long = ℤ
Meaning float = Float
Meaning double = Float
Meaning reference = ℕ
Meaning any = ℕ

abbrev pub meaning : (k : Kind) → ℕ → Meaning k
meaning int n = signed 31 n
meaning long n = signed 63 n
meaning float n = of_bits binary32 n
meaning double n = of_bits binary64 n
meaning reference n = n
meaning any n = n

-- the bits of a result: an int or a long keeps its low bits, a NaN is stored as 7FC00000 or 7FF8000000000000
abbrev pub bits : (k : Kind) → Meaning k → ℕ
bits int z = low 32 z
bits long z = low 64 z
bits float x = to_bits binary32 x
bits double x = to_bits binary64 x
bits reference n = n
bits any n = n

-- ---- how bits lie in words

-- the bits of the value of a kind at the front of some words
abbrev pub value_at : Kind → List ℕ → ℕ
value_at int ws = get_or ws 0 0
value_at long ws = get_or ws 0 0 + get_or ws 1 0 * 2 ^ 32
value_at float ws = get_or ws 0 0
value_at double ws = get_or ws 0 0 + get_or ws 1 0 * 2 ^ 32
value_at reference ws = get_or ws 0 0
value_at any ws = get_or ws 0 0

abbrev pub words_of : Kind → ℕ → List ℕ
words_of int v = v ∷ []
words_of long v = v % 2 ^ 32 ∷ v / 2 ^ 32 ∷ []
words_of float v = v ∷ []
words_of double v = v % 2 ^ 32 ∷ v / 2 ^ 32 ∷ []
words_of reference v = v ∷ []
words_of any v = v ∷ []
