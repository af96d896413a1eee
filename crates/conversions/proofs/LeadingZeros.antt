-- Where the highest digit of a number stands once it is moved up by its leading zeros. Over the width. Assumes nothing.
use mathlib.Core.Path.{◌≡◌, ap, ◌∙◌, subst}
use Prim.Native.Nat.{ℕ, suc, ◌+◌, ◌-◌, ◌*◌, ◌^◌, ◌≤◌, ◌<◌}
use native.Mathlib.Nat.{le_trans, le_of_eq, mul-le-mul_right}
use native.Mathlib.Omega.{arith}
use lib.Pow.{pow-add, shl_lt}
use lib.Count.{count_leading_zeros, leading_top}

module _ (w n : ℕ) (positive : 0 < n) (below : n < 2 ^ w) where
  pub zeros_lt : count_leading_zeros w n < w
  zeros_lt =
      let t = leading_top w n positive below in
      under (count_leading_zeros w n) t.0 t.1
    where
      under : (z j : ℕ) → z + suc j ≡ w → z < w
      under z j e = omega arith

  -- moved up by all of them
  pub normalised : (2 ^ (w - 1) ≤ n * 2 ^ count_leading_zeros w n) × (n * 2 ^ count_leading_zeros w n < 2 ^ w)
  normalised =
      let t = leading_top w n positive below in
      let z = count_leading_zeros w n in
      let j = t.0 in (
        le_trans (le_of_eq (ap (λ (x : ℕ). 2 ^ x) (low z j t.1) ∙ pow-add 2 j z)) (mul-le-mul_right (2 ^ z) t.2),
        subst (λ (x : ℕ). n * 2 ^ z < 2 ^ x) (high z j t.1) (shl_lt (suc j) z t.3),
      )
    where
      low : (z j : ℕ) → z + suc j ≡ w → w - 1 ≡ j + z
      low z j g = omega arith

      high : (z j : ℕ) → z + suc j ≡ w → suc j + z ≡ w
      high z j g = omega arith
