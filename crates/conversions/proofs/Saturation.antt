-- A whole size with a sign, brought into the range of an int or a long, and its word there. Over the width and the format. Assumes nothing.
use mathlib.Core.Path.{◌≡◌, sym, ap, ◌∙◌}
use Prim.Native.Nat.{ℕ, zero, suc, ◌+◌, ◌-◌, ◌*◌, ◌/◌, ◌^◌, ◌≤◌, ◌<◌, min}
use native.Mathlib.Nat.{lt_irrefl, le_of_lt, pow-succ'}
use native.Mathlib.Omega.{arith}
use mathlib.Core.Bool.{Bool, true, false, cond}
use lib.Dec.{leb}
use lib.IntN.{pos, neg_ℤ}
use lib.Pow.{pow_pos, pow_mono}
use lib.Ieee.{Float, nan, inf, fin, Format, up, down, top, of_bits, to_signed}
use Rattle.values.specs.Integers.{low}
use Rattle.values.proofs.Integers.{low_plus, low_minus}
use Rattle.conversions.specs.CutOff.{whole_part, saturated}
use Rattle.conversions.proofs.SignBit.{HasSign, bits_sign}

-- ---- `to_signed` is the whole part with its sign, saturated: at most 2 ^ 63 matters
capped : (a b : ℕ) → b ≤ 2 ^ 63 → min a b ≡ min (min a (2 ^ 63)) b
capped a b l = omega arith

at_inf : (b : ℕ) → b ≤ 2 ^ 63 → b ≡ min (2 ^ 63) b
at_inf b l = omega arith

at_nan : (b : ℕ) → 0 ≡ min 0 b
at_nan b = omega arith

module _ (h : ℕ) (narrow : h ≤ 63) where
  range : 2 ^ h ≤ 2 ^ 63
  range = pow_mono narrow

  range_less : 2 ^ h - 1 ≤ 2 ^ 63
  range_less = less (2 ^ h) range
    where
      less : (b : ℕ) → b ≤ 2 ^ 63 → b - 1 ≤ 2 ^ 63
      less b l = omega arith

  to_signed_is : (v : Float) (s : Bool) → HasSign v s → to_signed h v ≡ saturated h s (whole_part v)
  unfolding to_signed whole_part
  to_signed_is nan true e = ap (λ (n : ℕ). neg_ℤ (pos n)) (at_nan (2 ^ h))
  to_signed_is nan false e = ap pos (at_nan (2 ^ h - 1))
  to_signed_is (inf t) s e =
      ap (λ (b : Bool). cond b (neg_ℤ (pos (2 ^ h))) (pos (2 ^ h - 1))) e
      ∙ ap (λ (n : ℕ). cond s (neg_ℤ (pos n)) (pos (2 ^ h - 1))) (at_inf (2 ^ h) range)
      ∙ ap (λ (n : ℕ). cond s (neg_ℤ (pos (min (2 ^ 63) (2 ^ h)))) (pos n)) (at_inf (2 ^ h - 1) range_less)
  to_signed_is (fin t m e) s p =
      let w = m * up e / down e in
      ap (λ (b : Bool). cond b (neg_ℤ (pos (min w (2 ^ h)))) (pos (min w (2 ^ h - 1)))) p
      ∙ ap (λ (n : ℕ). cond s (neg_ℤ (pos n)) (pos (min w (2 ^ h - 1)))) (capped w (2 ^ h) range)
      ∙ ap (λ (n : ℕ). cond s (neg_ℤ (pos (min (min w (2 ^ 63)) (2 ^ h)))) (pos n)) (capped w (2 ^ h - 1) range_less)

  -- the pattern b, its whole part w
  pub cut_off : (f : Format) (b w : ℕ) → w ≡ whole_part (of_bits f b) → low (suc h) (saturated h (leb (top f) b) w) ≡ low (suc h) (to_signed h (of_bits f b))
  cut_off f b w e =
      ap (λ (n : ℕ). low (suc h) (saturated h (leb (top f) b) n)) e ∙ ap (low (suc h)) (sym (to_signed_is (of_bits f b) (leb (top f) b) (bits_sign f b)))

-- ---- the word of a size w with a sign s, inside the range and at its ends
in_word : (h n : ℕ) → n ≤ 2 ^ h → n < 2 ^ suc h
in_word h n l = under (2 ^ h) (2 ^ suc h) n (pow-succ' 2 h) (pow_pos h) l
  where
    under : (a b n : ℕ) → b ≡ 2 * a → 0 < a → n ≤ a → n < b
    under a b n e p l = omega arith

negative_word : (h n : ℕ) → 0 < n → n ≤ 2 ^ h → 2 ^ suc h - n ≡ low (suc h) (neg_ℤ (pos n))
negative_word h zero p l = absurd (lt_irrefl 0 p)
negative_word h (suc n) p l = sym (low_minus (suc h) n (le_of_lt (in_word h (suc n) l)))

module _ (h : ℕ) (s : Bool) (w : ℕ) where
  signed_as : (b : Bool) → s ≡ b → low (suc h) (saturated h b w) ≡ low (suc h) (saturated h s w)
  signed_as b e = ap (λ (t : Bool). low (suc h) (saturated h t w)) (sym e)

  pub plus : (n : ℕ) → s ≡ false → n ≡ min w (2 ^ h - 1) → n ≡ low (suc h) (saturated h s w)
  plus n e m = sym (low_plus (suc h) n (in_word h n (small (2 ^ h) m))) ∙ ap (λ (x : ℕ). low (suc h) (pos x)) m ∙ signed_as false e
    where
      small : (b : ℕ) → n ≡ min w (b - 1) → n ≤ b
      small b m = omega (arith, m)

  pub minus_zero : (n : ℕ) → s ≡ true → n ≡ min w (2 ^ h) → n ≡ 0 → 0 ≡ low (suc h) (saturated h s w)
  minus_zero n e m z = sym (low_plus (suc h) 0 (pow_pos (suc h))) ∙ ap (λ (x : ℕ). low (suc h) (neg_ℤ (pos x))) (sym z ∙ m) ∙ signed_as true e

  pub minus : (n : ℕ) → s ≡ true → n ≡ min w (2 ^ h) → (n ≡ 0 → ⊥) → 2 ^ h - n + 2 ^ h ≡ low (suc h) (saturated h s w)
  minus n e m p =
      twice (2 ^ h) (2 ^ suc h) (pow-succ' 2 h) (small (2 ^ h) m)
      ∙ negative_word h n (omega arith) (small (2 ^ h) m)
      ∙ ap (λ (x : ℕ). low (suc h) (neg_ℤ (pos x))) m
      ∙ signed_as true e
    where
      small : (b : ℕ) → n ≡ min w b → n ≤ b
      small b m = omega (arith, m)

      twice : (a b : ℕ) → b ≡ 2 * a → n ≤ a → a - n + a ≡ b - n
      twice a b e l = omega arith
