-- What an arithmetic opcode of floats or of doubles makes of its values, over the format. Assumes nothing.
use Rattle.std.specs.Prelude.{ℕ, Bool, cond, ◌||◌, eqb}
use Rattle.std.specs.Float.{Format}
use Rattle.std.specs.Float.Ieee.{add, sub, mul, div, rem, of_bits, to_bits}
use Rattle.values.specs.Integers.{flipped}

abbrev pub is_either : ℕ → ℕ → ℕ → Bool
is_either n i j = eqb n i || eqb n j

-- the bits of the result of an opcode, of the bits x and y of two values of a format with h bits below the sign
abbrev pub float_result : Format → ℕ → ℕ → ℕ → ℕ → ℕ
float_result f h op x y =
    cond (is_either op 98 99) (to_bits f (add f (of_bits f x) (of_bits f y)))
    (cond (is_either op 102 103) (to_bits f (sub f (of_bits f x) (of_bits f y)))
    (cond (is_either op 106 107) (to_bits f (mul f (of_bits f x) (of_bits f y)))
    (cond (is_either op 110 111) (to_bits f (div f (of_bits f x) (of_bits f y)))
    (cond (is_either op 114 115) (to_bits f (rem f (of_bits f x) (of_bits f y)))
    (flipped h x)))))
