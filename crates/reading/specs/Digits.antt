-- Upper-case hexadecimal digits.
use Rattle.std.specs.Prelude.{◌≡◌, ◌≢◌, ℕ, ◌+◌, ◌*◌, ◌<◌, nat_lt, cond, List, All, map, fold}

-- the digit of a value below 16: 0 to 9, and then A to F
abbrev pub digit_of : ℕ → ℕ
digit_of value = cond (nat_lt value 10) (48 + value) (55 + value)

-- the number whose digits have these values, the first one worth most
abbrev pub number_of : List ℕ → ℕ
number_of values = fold (λ n value. n * 16 + value) 0 values

-- the bytes are the digits of these values
abbrev pub AreDigits : List ℕ → List ℕ → Type 0
AreDigits values bytes = All (λ value. value < 16) values × (bytes ≡ map digit_of values)

-- a byte that is no digit
abbrev pub IsNoDigit : ℕ → Type 0
IsNoDigit byte = (value : ℕ) → value < 16 → byte ≢ digit_of value
