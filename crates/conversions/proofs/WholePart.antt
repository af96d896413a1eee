-- The whole part of what a pattern stands for, by its fields, and the shift that finds it. Over the format. Assumes nothing.
use mathlib.Core.Path.{◌≡◌, sym, ap, ◌∙◌}
use Prim.Native.Nat.{ℕ, suc, ◌+◌, ◌-◌, ◌*◌, ◌/◌, ◌%◌, ◌^◌, ◌≤◌, ◌<◌, min}
use native.Mathlib.Nat.{lt_of_lt_of_le, le_trans, le_of_eq, le_of_lt, mul-one, mul-le-mul_right, mul-div_cancel, div-eq_of_lt, div-le_self, min-eq_left, min-eq_right, mod-lt, mul-pos, zero-lt-suc}
use native.Mathlib.Omega.{arith}
use mathlib.Core.Bool.{Bool}
use lib.Dec.{leb}
use lib.Pow.{pow_pos, pow-add, pow_mono, shl_lt}
use lib.Count.{count_leading_zeros, leading_top}
use lib.Ieee.{Float, nan, inf, fin, Format, prec, emax, low, up, down, hid, ones, top, of_fields, of_bits}
use lib.Ieee.Fits.{two, down_pos}
use lib.Ieee.Exact.{HasValue}
use lib.Ieee.Nearest.{div_same}
use Rattle.conversions.specs.CutOff.{whole_part}
use Rattle.conversions.proofs.Powers.{two_powers}
use Rattle.conversions.proofs.RoundedBits.{emax_pos}
use Rattle.conversions.proofs.Fields.{lead, place, place_is, lead_is, field_top, fields_value, fields_inf, bits_nan}

-- ---- by any fraction that the value equals
value_whole : (v : Float) (s : Bool) (a c : ℕ) → 0 < c → HasValue v s a c → min (a / c) (2 ^ 63) ≡ whole_part v
unfolding whole_part
value_whole nan s a c C h = absurd h
value_whole (inf t) s a c C h = absurd h
value_whole (fin t m e) s a c C h = ap (λ (n : ℕ). min n (2 ^ 63)) (sym (div_same (m * up e) (down e) a c (down_pos e) C h.1))

-- ---- by the fields of the pattern b
module _ (f : Format) (b : ℕ) where
  fields_whole : (x : ℕ) → x < ones f → b % top f / hid f ≡ x → min (lead f x (b % hid f) * 2 ^ place x / 2 ^ low f) (2 ^ 63) ≡ whole_part (of_bits f b)
  unfolding of_bits
  fields_whole x l e =
      let t = b % hid f in
      let s = leb (top f) b in
      value_whole (of_fields f s x t) s (lead f x t * 2 ^ place x) (2 ^ low f) (pow_pos (low f)) (fields_value f s x t l)
      ∙ ap (λ (y : ℕ). whole_part (of_fields f s y t)) (sym e)

  pub whole_subnormal : b % top f / hid f ≡ 0 → 0 ≡ whole_part (of_bits f b)
  whole_subnormal e =
      let t = b % hid f in
      let l : t < 2 ^ low f = lt_of_lt_of_le (mod-lt b (pow_pos (prec f - 1))) (pow_mono (above (emax f) (prec f) (emax_pos f) (two f))) in
      sym (ap (λ (n : ℕ). min (n / 2 ^ low f) (2 ^ 63)) (mul-one t) ∙ ap (λ (n : ℕ). min n (2 ^ 63)) (div-eq_of_lt l)) ∙ fields_whole 0 (some (emax f)) e
    where
      some : (n : ℕ) → 0 < 2 * n + 1
      some n = omega arith

      above : (e p : ℕ) → 0 < e → 2 ≤ p → p - 1 ≤ e + p - 2
      above e p a b = omega arith

  pub whole_normal : (x : ℕ) → 0 < x → x < ones f → b % top f / hid f ≡ x → min ((hid f + b % hid f) * 2 ^ (x - 1) / 2 ^ low f) (2 ^ 63) ≡ whole_part (of_bits f b)
  whole_normal x p l e = rw (← place_is x, ← lead_is f x (b % hid f) p) (fields_whole x l e)

  last : ones f ≤ b % top f / hid f → b % top f / hid f ≡ ones f
  last = field_top f (b % top f) (mod-lt b (mul-pos (pow_pos (prec f - 1)) (zero-lt-suc (ones f))))

  pub whole_inf : ones f ≤ b % top f / hid f → b % hid f ≡ 0 → 2 ^ 63 ≡ whole_part (of_bits f b)
  unfolding whole_part of_bits
  whole_inf l z = sym (ap whole_part (fields_inf f (leb (top f) b) (b % top f / hid f) (b % hid f) (last l) z))

  pub whole_nan : ones f ≤ b % top f / hid f → (b % hid f ≡ 0 → ⊥) → 0 ≡ whole_part (of_bits f b)
  unfolding whole_part
  whole_nan l z = sym (ap whole_part (bits_nan f b (last l) z))

-- ---- m * 2 ^ x / 2 ^ l by a shift
module _ (m x l : ℕ) where
  shift_down : x ≤ l → m * 2 ^ x / 2 ^ l ≡ m / 2 ^ (l - x)
  shift_down h =
      div_same (m * 2 ^ x) (2 ^ l) m (2 ^ (l - x)) (pow_pos l) (pow_pos (l - x))
      (two_powers m x (l - x) ∙ ap (λ (n : ℕ). m * 2 ^ n) sum)
    where
      sum : x + (l - x) ≡ l
      sum = omega arith

  shift_up : l ≤ x → m * 2 ^ x / 2 ^ l ≡ m * 2 ^ (x - l)
  shift_up h =
      ap (λ (n : ℕ). m * 2 ^ n / 2 ^ l) sum
      ∙ ap (λ (n : ℕ). n / 2 ^ l) (sym (two_powers m (x - l) l))
      ∙ mul-div_cancel (m * 2 ^ (x - l)) (pow_pos l)
    where
      sum : x ≡ x - l + l
      sum = omega arith

  module _ (h : m < 2 ^ 63) (k : x < l) where
    pub scaled_down : m / 2 ^ (l - x) ≡ min (m * 2 ^ x / 2 ^ l) (2 ^ 63)
    scaled_down =
        sym (ap (λ (n : ℕ). min n (2 ^ 63)) (shift_down (le_of_lt k)) ∙ min-eq_left (le_trans (div-le_self m (2 ^ (l - x))) (le_of_lt h)))

    pub scaled_away : 64 ≤ l - x → 0 ≡ min (m * 2 ^ x / 2 ^ l) (2 ^ 63)
    scaled_away g = sym (div-eq_of_lt (lt_of_lt_of_le h (pow_mono far))) ∙ scaled_down
      where
        far : 63 ≤ l - x
        far = omega arith

  module _ (p : 0 < m) (h : m < 2 ^ 64) (k : l ≤ x) where
    pub scaled_lt : x - l < count_leading_zeros 64 m → m * 2 ^ (x - l) < 2 ^ 63
    scaled_lt g =
        let t = leading_top 64 m p h in
        lt_of_lt_of_le (shl_lt (suc t.0) (x - l) t.3) (pow_mono (sums t.0 (x - l) (count_leading_zeros 64 m) t.1 g))
      where
        sums : (j s z : ℕ) → z + suc j ≡ 64 → s < z → suc j + s ≤ 63
        sums j s z e g = omega arith

    pub scaled_up : x - l < count_leading_zeros 64 m → m * 2 ^ (x - l) ≡ min (m * 2 ^ x / 2 ^ l) (2 ^ 63)
    scaled_up g = sym (ap (λ (n : ℕ). min n (2 ^ 63)) (shift_up k) ∙ min-eq_left (le_of_lt (scaled_lt g)))

    pub scaled_over : count_leading_zeros 64 m ≤ x - l → 2 ^ 63 ≡ min (m * 2 ^ x / 2 ^ l) (2 ^ 63)
    scaled_over g =
        let t = leading_top 64 m p h in
        sym (ap (λ (n : ℕ). min n (2 ^ 63)) (shift_up k)
        ∙ min-eq_right (le_trans (pow_mono (sums t.0 (x - l) (count_leading_zeros 64 m) t.1 g)) (le_trans (le_of_eq (pow-add 2 t.0 (x - l))) (mul-le-mul_right (2 ^ (x - l)) t.2))))
      where
        sums : (j s z : ℕ) → z + suc j ≡ 64 → z ≤ s → 63 ≤ j + s
        sums j s z e g = omega arith
