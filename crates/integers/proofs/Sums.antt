-- Sums, differences, products and negatives of two words of a kind, as the machine has them. Assumes nothing.
use Rattle.std.proofs.Common.{◌≡◌, ℕ, ◌+◌, ◌-◌, ◌*◌, ◌%◌, ◌^◌, ◌<◌, ℤ, ◌+ℤ◌, ◌-ℤ◌, ◌*ℤ◌, neg_ℤ, ap, ◌∙◌, ap₂}
use Rattle.values.specs.Kinds.{Kind}
use Rattle.values.proofs.LowBits.{low_word, low_sum, low_neg, low_difference, low_product}
use Rattle.integers.specs.Widths.{below_sign, width, number, low_bits}

module _ (k : Kind) (a : ℕ) (A : a < 2 ^ width k) where
  -- a word is the low bits of its number
  pub same_word : low_bits k (number k a) ≡ a
  unfolding number low_bits
  same_word = low_word (below_sign k) a A

  -- with any number
  pub multiplied : (y : ℤ) → low_bits k (number k a *ℤ y) ≡ (a * low_bits k y) % 2 ^ width k
  unfolding low_bits
  multiplied y = low_product (width k) (number k a) y ∙ ap (λ (n : ℕ). (n * low_bits k y) % 2 ^ width k) same_word

  pub negative : low_bits k (neg_ℤ (number k a)) ≡ (2 ^ width k - a) % 2 ^ width k
  unfolding low_bits
  negative = low_neg (width k) (number k a) ∙ ap (λ (n : ℕ). (2 ^ width k - n) % 2 ^ width k) same_word

-- with another word
module _ (k : Kind) (a b : ℕ) (A : a < 2 ^ width k) (B : b < 2 ^ width k) where
  pub sum : low_bits k (number k a +ℤ number k b) ≡ (a + b) % 2 ^ width k
  unfolding low_bits
  sum = low_sum (width k) (number k a) (number k b) ∙ ap₂ (λ (m n : ℕ). (m + n) % 2 ^ width k) (same_word k a A) (same_word k b B)

  pub difference : low_bits k (number k a -ℤ number k b) ≡ (a + (2 ^ width k - b)) % 2 ^ width k
  unfolding low_bits
  difference = low_difference (width k) (number k a) (number k b) ∙ ap₂ (λ (m n : ℕ). (m + (2 ^ width k - n)) % 2 ^ width k) (same_word k a A) (same_word k b B)

  pub product : low_bits k (number k a *ℤ number k b) ≡ (a * b) % 2 ^ width k
  product = multiplied k a A (number k b) ∙ ap (λ (n : ℕ). (a * n) % 2 ^ width k) (same_word k b B)
