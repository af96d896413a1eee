-- The operations that ints and longs share (JVMS 2.11.3), over the kind, and the opcodes of each. Assumes nothing.
use Rattle.std.specs.Prelude.{ℕ, ◌+◌, ◌-◌, ◌/◌, ◌%◌, ◌^◌, cond, ltb, get_or, List, [], ◌∷◌, pos, ◌+ℤ◌, ◌-ℤ◌, ◌*ℤ◌, neg_ℤ}
use Rattle.std.specs.Int.Signed.{quot_z, rem_z, shr_z}
use Rattle.values.specs.Kinds.{Kind, int}
use Rattle.values.specs.Integers.{low, bitwise, and, or, xor}
use Rattle.values.specs.Words.{words_of}
use Rattle.rules.specs.Forms.{Result, pushes, divides}
use Rattle.integers.specs.Widths.{width, count_bits, number, low_bits}
use Rattle.effects.specs.declared.arithmetic.Operation.{Operation}
use Rattle.effects.specs.declared.arithmetic.Operation.TheVariants.{Add, Sub, Mul, Div, Rem, Neg, Shl, Shr, Ushr, And, Or, Xor}

-- in the order of their opcodes, those of ints
abbrev operations : List Operation
operations = Add ∷ Sub ∷ Mul ∷ Div ∷ Rem ∷ Neg ∷ Shl ∷ Shr ∷ Ushr ∷ And ∷ Or ∷ Xor ∷ []

-- the operation of an opcode of ints: below ISHL every fourth opcode is one, and from there every second
abbrev pub operation_at : ℕ → Operation
operation_at n = get_or operations (cond (ltb n 120) ((n - 96) / 4) (6 + (n - 120) / 2)) Xor

-- the word that an operation makes of two words of a kind, and of a shift's count
unfoldable pub word_of : Kind → Operation → ℕ → ℕ → ℕ → ℕ
word_of k Add a b count = low_bits k (number k a +ℤ number k b)
word_of k Sub a b count = low_bits k (number k a -ℤ number k b)
word_of k Mul a b count = low_bits k (number k a *ℤ number k b)
word_of k Div a b count = low_bits k (quot_z (number k a) (number k b))
word_of k Rem a b count = low_bits k (rem_z (number k a) (number k b))
word_of k Neg a b count = low_bits k (neg_ℤ (number k a))
word_of k Shl a b count = low_bits k (number k a *ℤ pos (2 ^ low (count_bits k) (number int count)))
word_of k Shr a b count = low_bits k (shr_z (number k a) (2 ^ low (count_bits k) (number int count)))
word_of k Ushr a b count = a / 2 ^ (count % width k)
word_of k And a b count = bitwise (width k) and a b
word_of k Or a b count = bitwise (width k) or a b
word_of k Xor a b count = bitwise (width k) xor a b

-- what comes of it: a division by 0 gives no word
unfoldable pub result_of : Kind → Operation → ℕ → ℕ → ℕ → Result
result_of k Div a b count = divides b (words_of k (word_of k Div a b count))
result_of k Rem a b count = divides b (words_of k (word_of k Rem a b count))
result_of k f a b count = pushes (words_of k (word_of k f a b count))
