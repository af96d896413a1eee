-- Shifts of a word of a kind, by a count that is an int: only its low bits count. Assumes nothing.
use Rattle.std.proofs.Common.{◌≡◌, ℕ, ◌*◌, ◌%◌, ◌^◌, ◌<◌, ◌≤◌, pos, ◌*ℤ◌, refl, ap, ◌∙◌, mod-lt, arith, lit≤}
use lib.Pow.{pow-lt}
use Rattle.values.specs.Kinds.{Kind, int, long, float, double, reference, any}
use Rattle.values.specs.Integers.{low}
use Rattle.values.proofs.Integers.{low_plus}
use Rattle.values.proofs.LowBits.{low_signed}
use Rattle.integers.specs.Widths.{width, count_bits, number, low_bits}
use Rattle.integers.proofs.Sums.{multiplied}

-- as many counts as bits
counts : (k : Kind) → 2 ^ count_bits k ≡ width k
counts int = refl
counts long = refl
counts float = refl
counts double = refl
counts reference = refl
counts any = refl

few : (k : Kind) → count_bits k ≤ 32
few int = lit≤ tt
few long = lit≤ tt
few float = lit≤ tt
few double = lit≤ tt
few reference = lit≤ tt
few any = lit≤ tt

module _ (k : Kind) (s : ℕ) (S : s < 2 ^ 32) where
  pub count_is : low (count_bits k) (number int s) ≡ s % width k
  unfolding number
  count_is = low_signed (count_bits k) 31 s (few k) S ∙ ap (λ (n : ℕ). s % n) (counts k)

  count_lt : s % width k < width k
  count_lt = mod-lt s (omega arith)

  pub shift_left : (a : ℕ) → a < 2 ^ width k → low_bits k (number k a *ℤ pos (2 ^ low (count_bits k) (number int s))) ≡ (a * 2 ^ (s % width k)) % 2 ^ width k
  unfolding low_bits
  shift_left a A = ap (λ (n : ℕ). low_bits k (number k a *ℤ pos (2 ^ n))) count_is ∙ multiplied k a A (pos (2 ^ (s % width k)))
      ∙ ap (λ (n : ℕ). (a * n) % 2 ^ width k) (low_plus (width k) (2 ^ (s % width k)) (pow-lt count_lt))
