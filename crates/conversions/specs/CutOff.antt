-- What a float is cut off to as an int or a long: the whole part of its size, and that with a sign, kept in the range. Assumes nothing.
use Rattle.std.specs.Prelude.{ℕ, ◌-◌, ◌*◌, ◌/◌, ◌^◌, min, Bool, cond, ℤ, pos, neg_ℤ, Float}
use Rattle.std.specs.Float.{nan, inf, fin}
use Rattle.std.specs.Float.Ieee.{up, down}

-- the whole part of a float's size, up to 2 ^ 63, which no range goes beyond
unfoldable pub whole_part : Float → ℕ
whole_part nan = 0
whole_part (inf s) = 2 ^ 63
whole_part (fin s m e) = min (m * up e / down e) (2 ^ 63)

-- the size w with a sign, or the nearest end of the range of h bits and a sign
abbrev pub saturated : ℕ → Bool → ℕ → ℤ
saturated h s w = cond s (neg_ℤ (pos (min w (2 ^ h)))) (pos (min w (2 ^ h - 1)))
