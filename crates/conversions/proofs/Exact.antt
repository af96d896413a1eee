-- A format with as many digits as another holds each of its values: the nearest value there is the value itself. Over the formats. Assumes nothing.
use mathlib.Core.Path.{◌≡◌, sym, ap, ◌∙◌}
use Prim.Native.Nat.{ℕ, suc, ◌+◌, ◌-◌, ◌*◌, ◌/◌, ◌%◌, ◌^◌, ◌≤◌, ◌<◌}
use native.Mathlib.Nat.{lt_of_lt_of_le, mod-lt}
use native.Mathlib.Omega.{arith}
use mathlib.Core.Bool.{Bool, true, false, not, cond}
use lib.Dec.{T, ltb, ltb→lt, nltb→le, leb, eqb, lit≤}
use lib.Pow.{pow_pos, pow_mono, shl_lt}
use lib.Ieee.{Float, nan, inf, Format, binary32, binary64, prec, emax, low, round, hid, ones, top, to_bits, of_fields, of_bits}
use lib.Ieee.Fits.{two}
use lib.Ieee.Exact.{HasValue, round_exact}
use Rattle.values.specs.Floats.{nearest}
use Rattle.conversions.proofs.Powers.{two_powers}
use Rattle.conversions.proofs.RoundedBits.{value_bits, rescaled, emax_pos}
use Rattle.conversions.proofs.Fields.{lead, lead_lt, place, place_is, fields_value, fields_top, field_top, rounded, nearest_of_inf, nearest_nan}

wider : (f g : Format) → prec f ≤ prec g → (low f ≤ low g) × (emax f ≤ emax g)
wider binary32 binary32 h = (lit≤ tt, lit≤ tt)
wider binary32 binary64 h = (lit≤ tt, lit≤ tt)
wider binary64 binary32 h = absurd (omega arith)
wider binary64 binary64 h = (lit≤ tt, lit≤ tt)

module _ (f g : Format) (h : prec f ≤ prec g) where
  -- a number
  module _ (s : Bool) (x t : ℕ) (l : x < ones f) (d : t < hid f) where
    digits : ℕ
    digits = lead f x t

    up : ℕ
    up = place x + (low g - low f)

    moved : digits * 2 ^ place x * 2 ^ low g ≡ digits * 2 ^ up * 2 ^ low f
    unfolding up
    moved = two_powers digits (place x) (low g) ∙ ap (λ (n : ℕ). digits * 2 ^ n) (sums (place x) (low f) (low g) (wider f g h).0) ∙ sym (two_powers digits up (low f))
      where
        sums : (p a b : ℕ) → a ≤ b → p + b ≡ p + (b - a) + a
        sums p a b e = omega arith

    held : digits * 2 ^ up < 2 ^ (low g + suc (emax g))
    unfolding digits up
    held = lt_of_lt_of_le (shl_lt (prec f) up (lead_lt f x t d)) (pow_mono (room (emax f) (emax g) (prec f) (prec g) (place x) (two f) h (wider f g h).1 (emax_pos f) (place_is x) l))
      where
        room : (e i p q y : ℕ) → 2 ≤ p → p ≤ q → e ≤ i → 0 < e → y ≡ x - 1 → x < 2 * e + 1 → p + (y + (i + q - 2 - (e + p - 2))) ≤ i + q - 2 + suc i
        room e i p q y a b c k z u = omega arith

    same_bits : (u v : Float) → HasValue u s (digits * 2 ^ place x) (2 ^ low f) → HasValue v s (digits * 2 ^ place x) (2 ^ low f) → to_bits g u ≡ to_bits g v
    same_bits u v d e = value_bits g u s (digits * 2 ^ up) (in_units u d) ∙ sym (value_bits g v s (digits * 2 ^ up) (in_units v e))
      where
        in_units : (v : Float) → HasValue v s (digits * 2 ^ place x) (2 ^ low f) → HasValue v s (digits * 2 ^ up) (2 ^ low g)
        in_units v e = rescaled v s (digits * 2 ^ place x) (2 ^ low f) (digits * 2 ^ up) (2 ^ low g) (pow_pos (low f)) moved e

    same_number : to_bits g (nearest g (of_fields f s x t)) ≡ to_bits g (of_fields f s x t)
    unfolding digits
    same_number =
        ap (to_bits g) (rounded f g x t s l)
        ∙ same_bits (round g s (digits * 2 ^ place x) (2 ^ low f)) (of_fields f s x t) (round_exact g s (digits * 2 ^ place x) (2 ^ low f) digits up (pow_pos (low f)) (lt_of_lt_of_le (lead_lt f x t d) (pow_mono h)) held moved)
        (fields_value f s x t l)

  top_pos : (f : Format) → 0 < top f
  top_pos binary32 = lit≤ tt
  top_pos binary64 = lit≤ tt

  -- an infinity or the NaN
  none_nearer : (s b : Bool) → nearest g (cond b (inf s) nan) ≡ cond b (inf s) nan
  none_nearer s true = nearest_of_inf g s
  none_nearer s false = nearest_nan g

  pub exact : (n : ℕ) → to_bits g (nearest g (of_bits f n)) ≡ to_bits g (of_bits f n)
  unfolding of_bits
  exact n = go (ltb x (ones f)) (ltb→lt x (ones f)) (nltb→le x (ones f))
    where
      x : ℕ
      x = n % top f / hid f

      t : ℕ
      t = n % hid f

      s : Bool
      s = leb (top f) n

      go : (b : Bool) → (T b → x < ones f) → (T (not b) → ones f ≤ x) → to_bits g (nearest g (of_fields f s x t)) ≡ to_bits g (of_fields f s x t)
      go true l k = same_number s x t (l tt) (mod-lt n (pow_pos (prec f - 1)))
      go false l k = let e = fields_top f s x t (field_top f (n % top f) (mod-lt n (top_pos f)) (k tt)) in rw e (ap (to_bits g) (none_nearer s (eqb t 0)))
