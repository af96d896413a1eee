-- A word of a float or double without its sign, as so many of the format's smallest value, for the remainder's private functions. `hidden` is what the exponent's field
-- counts in, and the weight of the leading digit that the field stands for. Assumes nothing.
use Rattle.std.specs.Prelude.{◌≡◌, ℕ, ◌+◌, ◌-◌, ◌*◌, ◌/◌, ◌%◌, ◌^◌, ◌<◌, ◌≤◌, ◌⊎◌, cond, ltb}

-- the digits with the leading one, and how far they are moved up
abbrev pub digits_of : ℕ → ℕ → ℕ
digits_of hidden word = cond (ltb word hidden) word (hidden + word % hidden)

abbrev pub place_of : ℕ → ℕ → ℕ
place_of hidden word = word / hidden - 1

abbrev pub units_of : ℕ → ℕ → ℕ
units_of hidden word = digits_of hidden word * 2 ^ place_of hidden word

-- the word of so many units: the digits have their leading one, or are not moved up
pub record IsWordOf (hidden units word : ℕ) : Type 0 where
  pub digits : ℕ
  pub place : ℕ
  pub value : digits * 2 ^ place ≡ units
  pub few : digits < 2 * hidden
  pub leading : (place ≡ 0) ⊎ (hidden ≤ digits)
  pub written : word ≡ place * hidden + digits
