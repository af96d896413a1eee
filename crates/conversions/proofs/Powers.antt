-- Powers of two: in a product, and in order. Assumes nothing.
use mathlib.Core.Path.{◌≡◌, sym, ap, ◌∙◌}
use Prim.Native.Nat.{ℕ, suc, ◌+◌, ◌-◌, ◌*◌, ◌^◌, ◌≤◌, ◌<◌}
use native.Mathlib.Nat.{lt_of_lt_of_le, lt_of_not-le, lt_irrefl, mul_assoc, pow-succ'}
use native.Mathlib.Omega.{arith}
use lib.Pow.{pow-add, pow_mono, pow-lt}

-- ---- in a product
pub two_powers : (m a b : ℕ) → m * 2 ^ a * 2 ^ b ≡ m * 2 ^ (a + b)
two_powers m a b = mul_assoc m (2 ^ a) (2 ^ b) ∙ ap (λ (x : ℕ). m * x) (sym (pow-add 2 a b))

pub three_powers : (m a b c d e : ℕ) → a + b + c ≡ d + e → m * 2 ^ a * 2 ^ b * 2 ^ c ≡ m * 2 ^ d * 2 ^ e
three_powers m a b c d e h =
    ap (λ (x : ℕ). x * 2 ^ c) (two_powers m a b) ∙ two_powers m (a + b) c ∙ ap (λ (x : ℕ). m * 2 ^ x) h ∙ sym (two_powers m d e)

-- 2 ^ p is twice the weight of the highest of p digits
pub twice_highest : (p : ℕ) → 2 ≤ p → 2 ^ p ≡ 2 * 2 ^ (p - 1)
twice_highest p h = ap (λ (x : ℕ). 2 ^ x) before ∙ pow-succ' 2 (p - 1)
  where
    before : p ≡ suc (p - 1)
    before = omega arith

-- ---- in order
pub pow_lt_back : (a b : ℕ) → 2 ^ a < 2 ^ b → a < b
pow_lt_back a b h = lt_of_not-le (λ (g : b ≤ a). lt_irrefl (2 ^ a) (lt_of_lt_of_le h (pow_mono g)))

pub pow_le_back : (a b : ℕ) → 2 ^ a ≤ 2 ^ b → a ≤ b
pow_le_back a b h = at_most (lt_of_not-le (λ (g : suc b ≤ a). lt_irrefl (2 ^ b) (lt_of_lt_of_le (pow-lt g) h)))
  where
    at_most : a < suc b → a ≤ b
    at_most l = omega arith
