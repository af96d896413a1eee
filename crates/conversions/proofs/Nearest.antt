-- The pattern of the value nearest to m * 2 ^ p / 2 ^ l, from m moved up by its leading zeros. Over the format. Assumes nothing.
use mathlib.Core.Path.{◌≡◌, refl, sym, ap, ◌∙◌}
use mathlib.Core.Logic.{◌⊎◌, inl, inr}
use Prim.Native.Nat.{ℕ, ◌+◌, ◌-◌, ◌*◌, ◌%◌, ◌^◌, ◌≤◌, ◌<◌, min}
use native.Mathlib.Nat.{le_trans, le_of_eq, lt_of_lt_of_le, zero-add, zero-mul, mod-eq_of_lt}
use native.Mathlib.Omega.{arith}
use mathlib.Core.Bool.{Bool, true, false, not}
use lib.Count.{count_leading_zeros}
use lib.Dec.{T, ltb, ltb→lt, nltb→le, lit≤}
use lib.Pow.{pow_pos, pow_mono}
use lib.Ieee.{Format, binary32, binary64, prec, low, round, hid, ones, top, to_bits}
use lib.Ieee.Nearest.{closest}
use Rattle.conversions.proofs.Powers.{two_powers, three_powers}
use Rattle.conversions.proofs.LeadingZeros.{normalised}
use Rattle.conversions.proofs.RoundedBits.{round_bits}

-- the word is as wide as the format's digits
pub wide : (f : Format) → prec f ≤ 64
wide binary32 = lit≤ tt
wide binary64 = lit≤ tt

pub sum_fits : (f : Format) (n : ℕ) → n < 2 * top f → n < 2 ^ 64
sum_fits binary32 n h = lt_of_lt_of_le h (lit≤ tt)
sum_fits binary64 n h = h

pub rounded_zero : (f : Format) (p l : ℕ) → 0 ≡ to_bits f (round f false (0 * 2 ^ p) (2 ^ l))
rounded_zero f p l = none f ∙ sym (round_bits f false (0 * 2 ^ p) (2 ^ l) 0 0 0 (pow_pos l) (simp zero-mul) (pow_pos (prec f + 0)) (inl refl))
  where
    none : (f : Format) → 0 ≡ 0 + min (0 * hid f + closest 0 (2 ^ 0)) (ones f * hid f)
    none binary32 = refl
    none binary64 = refl

-- how far the digits are moved up, how far down, what is left of that, and how many are dropped
module _ (f : Format) (m p l : ℕ) (positive : 0 < m) (below : m < 2 ^ 64) where
  abbrev Zeros : ℕ
  Zeros = count_leading_zeros 64 m

  abbrev Up : ℕ
  Up = p + low f + (64 - prec f)

  abbrev Exponent : ℕ
  Exponent = Up - (l + Zeros)

  abbrev Shift : ℕ
  Shift = 64 - prec f + (l + Zeros - Up)

  in_range : m * 2 ^ Zeros < 2 ^ (prec f + Shift)
  in_range = lt_of_lt_of_le (normalised 64 m positive below).1 (pow_mono (room (prec f) (wide f)))
    where
      room : (n : ℕ) → n ≤ 64 → 64 ≤ n + (64 - n + (l + Zeros - (p + low f + (64 - n))))
      room n h = omega arith

  module _ (q : ℕ) (e : q ≡ closest ((m * 2 ^ Zeros) % 2 ^ 64) (2 ^ Shift)) where
    q_is : q ≡ closest (m * 2 ^ Zeros) (2 ^ Shift)
    q_is = e ∙ ap (λ (n : ℕ). closest n (2 ^ Shift)) (mod-eq_of_lt (normalised 64 m positive below).1)

    pub nearest_is : min (Exponent * hid f + q) (ones f * hid f) ≡ to_bits f (round f false (m * 2 ^ p) (2 ^ l))
    nearest_is =
        ap (λ (x : ℕ). min (Exponent * hid f + x) (ones f * hid f)) q_is
        ∙ sym (zero-add _)
        ∙ sym (round_bits f false (m * 2 ^ p) (2 ^ l) (m * 2 ^ Zeros) Shift Exponent (pow_pos l)
        (three_powers m p (low f) Shift (Zeros + Exponent) l (sums (p + low f) (64 - prec f) Zeros) ∙ ap (λ (n : ℕ). n * 2 ^ l) (sym (two_powers m Zeros Exponent)))
        in_range (lead (ltb Up (l + Zeros)) (ltb→lt Up (l + Zeros)) (nltb→le Up (l + Zeros))))
      where
        sums : (a d z : ℕ) → a + (d + (l + z - (a + d))) ≡ z + (a + d - (l + z)) + l
        sums a d z = omega arith

        highest : (n a z : ℕ) → 1 ≤ n → n ≤ 64 → l + z ≤ a + (64 - n) → n - 1 + (64 - n + (l + z - (a + (64 - n)))) ≡ 63
        highest n a z g h k = omega arith

        one_digit : (f : Format) → 1 ≤ prec f
        one_digit binary32 = lit≤ tt
        one_digit binary64 = lit≤ tt

        none : (a b : ℕ) → a < b → a - b ≡ 0
        none a b h = omega arith

        lead : (t : Bool) → (T t → Up < l + Zeros) → (T (not t) → l + Zeros ≤ Up) → (Exponent ≡ 0) ⊎ (2 ^ (prec f - 1 + Shift) ≤ m * 2 ^ Zeros)
        lead true g h = inl (none Up (l + Zeros) (g tt))
        lead false g h = inr (le_trans (le_of_eq (ap (λ (x : ℕ). 2 ^ x) (highest (prec f) (p + low f) Zeros (one_digit f) (wide f) (h tt)))) (normalised 64 m positive below).0)
