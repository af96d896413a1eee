-- What a method gives back by its return type, with question 32 (JVMS 2.11.8, and 6.5 of IRETURN to RETURN). Assumes nothing.
use Rattle.std.specs.Prelude.{ℕ, ◌%◌, Bool, not, ◌||◌, cond, Ok}
use Rattle.values.specs.declared.Value.{Value}
use Rattle.values.specs.declared.Value.TheVariants.{Void, Int, Float, Reference, Long, Double}
use Rattle.values.specs.Kinds.{int}
use Rattle.values.specs.Integers.{to_byte, to_char, to_short}
use Rattle.values.specs.Words.{bits, meaning}
use Rattle.rules.specs.Check.{Check, ◌else◌, ◌>>◌, ◌=ⁿ◌}
use Rattle.rules.specs.Descriptor.{byte_type, char_type, double_type, float_type, int_type, long_type, class_type, short_type, void_type, boolean_type, is_base}
use Rattle.rules.specs.declared.refusals.Refusal.{Refusal}

-- the return type of a state: B C D F I J S Z, L for every reference, V; any other number counts as 0
unfoldable pub is_return_type : ℕ → Bool
is_return_type t = is_base t || (t =ⁿ class_type) || (t =ⁿ void_type)

-- the return types that go with each return instruction
abbrev pub suits : ℕ → Value → Bool
suits t (Int v) = (t =ⁿ boolean_type) || (t =ⁿ byte_type) || (t =ⁿ char_type) || (t =ⁿ short_type) || (t =ⁿ int_type)
suits t (Long v) = t =ⁿ long_type
suits t (Float v) = t =ⁿ float_type
suits t (Double v) = t =ⁿ double_type
suits t (Reference v) = t =ⁿ class_type
suits t Void = t =ⁿ void_type

-- what is kept of an int: bit 0 of a boolean, and the rest as by I2B, I2C and I2S
unfoldable pub narrowed : ℕ → ℕ → ℕ
narrowed t v =
    cond (t =ⁿ boolean_type) (v % 2)
    (cond (t =ⁿ byte_type) (bits int (to_byte (meaning int v)))
    (cond (t =ⁿ char_type) (bits int (to_char (meaning int v)))
    (cond (t =ⁿ short_type) (bits int (to_short (meaning int v)))
    v)))

abbrev pub given_back : ℕ → Value → Value
given_back t (Int v) = Int (narrowed t v)
given_back t (Long v) = Long v
given_back t (Float v) = Float v
given_back t (Double v) = Double v
given_back t (Reference v) = Reference v
given_back t Void = Void

-- is the return instruction of the return type's kind, where there is a return type? 32
unfoldable pub returned : ℕ → Value → Check Value
returned t v = do
  not (is_return_type t) || suits t v else Refusal.ReturnType
  Ok (given_back t v)
