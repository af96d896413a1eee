-- IEEE 754's remainder by the words of its operands, over the format: what is no number, and what two numbers give in units of the smallest value. Assumes nothing.
use Rattle.std.proofs.Common.{◌≡◌, ℕ, zero, suc, ◌+◌, ◌-◌, ◌*◌, ◌/◌, ◌%◌, ◌^◌, ◌<◌, ◌≤◌, ◌⊎◌, inl, inr, Bool, true, false, not, cond, ltb, refl, sym, ap, ◌∙◌, subst, arith}
use Rattle.std.proofs.Math.Nat.{mul_assoc, mul_comm, mul_right_comm, mul-pos, div-eq_of_lt, mod-lt, mod-eq_of_lt, lt_of_lt_of_le, le_of_lt, lt_trans, pow-le-pow_right, div-add-mod, mod-eq-sub-mod, mod-mod_of_dvd, dvd-mul_right, mul-div_cancel, mul-mod_left, le-div_iff_mul-le, div-lt_iff_lt-mul, zero-div, zero-mod}
use Rattle.std.proofs.Math.Pow.{pow_pos}
use lib.Dec.{T, eqb, leb}
use lib.IntN.{ℤ}
use lib.Pow.{shl_lt}
use lib.Ieee.{Float, nan, inf, fin, Format, prec, emax, low, up, down, round, hid, ones, top, odd, of_bits, of_fields, to_bits, is_nan, rem}
use lib.Ieee.Fits.{two, down_pos, rem-fits}
use lib.Ieee.Bits.{to_bits-lt, of_bits-fits, to_bits-of_bits}
use lib.Ieee.Exact.{HasValue, round_exact}
use borrow.Author.Tests.{ltb-true, ltb-false, leb-true, leb-false, eqb-true, eqb-false, ne_eqb}
use Rattle.conversions.proofs.Powers.{twice_highest}
use Rattle.conversions.proofs.RoundedBits.{to_bits_nan, exact_bits, rescaled, emax_pos}
use Rattle.conversions.proofs.Fields.{lead, place, place_is, lead_is, lead_lt, field_top, fields_value, fields_inf, bits_nan}
use Rattle.floats.specs.Remainder.{digits_of, place_of, units_of, IsWordOf}
use Rattle.floats.proofs.NaNs.{nan_word}
use Rattle.floats.proofs.UnitWords.{low_digits, high_digits, digits_pos, scaled}

-- ---- two numbers

pos_back : (y c z : ℕ) → y * c ≡ z → 0 < z → 0 < y
pos_back zero c z e h = omega (arith, e)
pos_back (suc y) c z e h = omega arith

module _ (f : Format) (A B q k : ℕ) (some : 0 < B) (is : q * 2 ^ k ≡ A % B) (few : q < 2 ^ prec f) (fine : q * 2 ^ k < 2 ^ (low f + suc (emax f))) where
  numerator : (x y den : ℕ) → 0 < den → x * 2 ^ low f ≡ A * den → y * 2 ^ low f ≡ B * den → x % y * 2 ^ low f ≡ q * 2 ^ k * den
  numerator x y den D e g =
      sym (scaled x y (2 ^ low f) (pos_back y (2 ^ low f) (B * den) g (mul-pos some D)) (pow_pos (low f)))
      ∙ ap (λ (n : ℕ). n % (y * 2 ^ low f)) e
      ∙ ap (λ (n : ℕ). A * den % n) g
      ∙ scaled A B den some D
      ∙ ap (λ (n : ℕ). n * den) (sym is)

  rem_fin : (s : Bool) (m : ℕ) (e : ℤ) (t : Bool) (n : ℕ) (d : ℤ) → m * up e * 2 ^ low f ≡ A * down e → n * up d * 2 ^ low f ≡ B * down d
      → HasValue (rem f (fin s m e) (fin t n d)) s (q * 2 ^ k) (2 ^ low f)
  unfolding rem
  rem_fin s m e t n d u v =
      let x = m * up e * down d in
      let y = n * up d * down e in
      let den = down e * down d in
      let D : 0 < den = mul-pos (down_pos e) (down_pos d) in
      let left : x * 2 ^ low f ≡ A * den = mul_right_comm (m * up e) (down d) (2 ^ low f) ∙ ap (λ (z : ℕ). z * down d) u ∙ mul_assoc A (down e) (down d) in
      let right : y * 2 ^ low f ≡ B * den = mul_right_comm (n * up d) (down e) (2 ^ low f) ∙ ap (λ (z : ℕ). z * down e) v ∙ mul_assoc B (down d) (down e) ∙ ap (λ (z : ℕ). B * z) (mul_comm (down d) (down e)) in
      let h : x % y * 2 ^ low f ≡ q * 2 ^ k * den = numerator x y den D left right in
      let not_zero : eqb n 0 ≡ false = ne_eqb n 0 (λ z. none n (up d) (2 ^ low f) (B * down d) z v (mul-pos some (down_pos d))) in
      subst (λ (b : Bool). HasValue (cond b nan (round f s (x % y) den)) s (q * 2 ^ k) (2 ^ low f)) (sym not_zero)
      (rescaled (round f s (x % y) den) s (x % y) den (q * 2 ^ k) (2 ^ low f) D h (round_exact f s (x % y) den q k D few fine h))
    where
      none : (n a b c : ℕ) → n ≡ 0 → n * a * b ≡ c → 0 < c → ⊥
      none n a b c z e h = omega (arith, sym e ∙ ap (λ (x : ℕ). x * a * b) z)

  rem_value : (u v : Float) (s t : Bool) → HasValue u s A (2 ^ low f) → HasValue v t B (2 ^ low f) → HasValue (rem f u v) s (q * 2 ^ k) (2 ^ low f)
  rem_value nan v s t g h = absurd g
  rem_value (inf a) v s t g h = absurd g
  rem_value (fin a m e) nan s t g h = absurd h
  rem_value (fin a m e) (inf b) s t g h = absurd h
  rem_value (fin a m e) (fin b n d) s t g h = subst (λ (x : Bool). HasValue (rem f (fin a m e) (fin b n d)) x (q * 2 ^ k) (2 ^ low f)) g.0 (rem_fin a m e b n d g.1 h.1)

-- ---- a word's units

module _ (f : Format) where
  units_lead : (w : ℕ) → units_of (hid f) w ≡ lead f (w / hid f) (w % hid f) * 2 ^ place (w / hid f)
  units_lead w =
      ap (λ (x : ℕ). x * 2 ^ place_of (hid f) w) (go (ltb w (hid f)) refl)
      ∙ ap (λ (x : ℕ). lead f (w / hid f) (w % hid f) * 2 ^ x) (sym (place_is (w / hid f)))
    where
      field : (x w h t : ℕ) → h ≤ w → h * x + t ≡ w → t < h → 0 < x
      field zero w h t l e s = omega (arith, e)
      field (suc x) w h t l e s = omega arith

      go : (t : Bool) → ltb w (hid f) ≡ t → digits_of (hid f) w ≡ lead f (w / hid f) (w % hid f)
      go true e =
          let l = ltb-true w (hid f) e in
          low_digits (hid f) w (pow_pos (prec f - 1)) l ∙ sym (ap (λ (x : ℕ). lead f x (w % hid f)) (div-eq_of_lt l) ∙ mod-eq_of_lt l)
      go false e =
          let l = ltb-false w (hid f) e in
          high_digits (hid f) w (pow_pos (prec f - 1)) l
          ∙ sym (lead_is f (w / hid f) (w % hid f) (field (w / hid f) w (hid f) (w % hid f) l (div-add-mod w (hid f)) (mod-lt w (pow_pos (prec f - 1)))))

  -- the digits' field, the sign left out
  same_digits : (b : ℕ) → b % top f % hid f ≡ b % hid f
  same_digits b = mod-mod_of_dvd (hid f) b (dvd-mul_right (hid f) (suc (ones f)))

  bits_value : (b : ℕ) → b % top f / hid f < ones f → HasValue (of_bits f b) (leb (top f) b) (units_of (hid f) (b % top f)) (2 ^ low f)
  unfolding of_bits
  bits_value b h =
      subst (λ (n : ℕ). HasValue (of_bits f b) (leb (top f) b) n (2 ^ low f))
      (ap (λ (t : ℕ). lead f (b % top f / hid f) t * 2 ^ place (b % top f / hid f)) (sym (same_digits b)) ∙ sym (units_lead (b % top f)))
      (fields_value f (leb (top f) b) (b % top f / hid f) (b % hid f) h)

  pub field_lt : (w : ℕ) → w < ones f * hid f → w / hid f < ones f
  field_lt w h = (div-lt_iff_lt-mul (pow_pos (prec f - 1))).1 h

  -- a number's units are below the infinity's
  units_fine : (w : ℕ) → w / hid f < ones f → units_of (hid f) w < 2 ^ (low f + suc (emax f))
  units_fine w h =
      let x = w / hid f in
      let small = shl_lt (prec f) (place x) (lead_lt f x (w % hid f) (mod-lt w (pow_pos (prec f - 1)))) in
      subst (λ (n : ℕ). n < 2 ^ (low f + suc (emax f))) (sym (units_lead w))
      (lt_of_lt_of_le small (pow-le-pow_right (omega arith) (room x (place x) (emax f) (prec f) (place_is x) h (two f) (emax_pos f))))
    where
      room : (x q e p : ℕ) → q ≡ x - 1 → x < 2 * e + 1 → 2 ≤ p → 0 < e → p + q ≤ e + p - 2 + suc e
      room x q e p s h t m = omega (arith, s)

-- ---- the word of two numbers' remainder: the dividend's sign, and the word of the units

module _ (f : Format) (a b w : ℕ) (dividend : a % top f < ones f * hid f) (divisor : b % top f < ones f * hid f) (some : 0 < b % top f)
    (word : IsWordOf (hid f) (units_of (hid f) (a % top f) % units_of (hid f) (b % top f)) w)
  where
    left : ℕ
    left = units_of (hid f) (a % top f)

    right : ℕ
    right = units_of (hid f) (b % top f)

    right_pos : 0 < right
    unfolding right
    right_pos = mul-pos (digits_pos (hid f) (b % top f) (pow_pos (prec f - 1)) some) (pow_pos (place_of (hid f) (b % top f)))

    few : word.digits < 2 ^ prec f
    few = subst (λ (n : ℕ). word.digits < n) (sym (twice_highest (prec f) (two f))) word.few

    fine : word.digits * 2 ^ word.place < 2 ^ (low f + suc (emax f))
    unfolding right
    fine = subst (λ (n : ℕ). n < 2 ^ (low f + suc (emax f))) (sym word.value) (lt_trans (mod-lt (units_of (hid f) (a % top f)) right_pos) (units_fine f (b % top f) (field_lt f (b % top f) divisor)))

    rem_has : HasValue (rem f (of_bits f a) (of_bits f b)) (leb (top f) a) (word.digits * 2 ^ word.place) (2 ^ low f)
    unfolding right
    rem_has =
        rem_value f (units_of (hid f) (a % top f)) (units_of (hid f) (b % top f)) word.digits word.place right_pos word.value few fine
        (of_bits f a) (of_bits f b) (leb (top f) a) (leb (top f) b) (bits_value f a (field_lt f (a % top f) dividend)) (bits_value f b (field_lt f (b % top f) divisor))

    rem_bits : to_bits f (rem f (of_bits f a) (of_bits f b)) ≡ cond (leb (top f) a) (top f) 0 + w
    rem_bits =
        exact_bits f (rem f (of_bits f a) (of_bits f b)) (leb (top f) a) word.digits word.place rem_has (le_of_lt few) word.leading
        ∙ ap (λ (n : ℕ). cond (leb (top f) a) (top f) 0 + n) (sym word.written)

    module _ (h : a < 2 * top f) where
      sign_part : a - a % top f ≡ cond (leb (top f) a) (top f) 0
      sign_part = go (leb (top f) a) refl
        where
          once : (a t : ℕ) → t ≤ a → a < 2 * t → a % t ≡ a - t
          once a t l h = mod-eq-sub-mod l ∙ mod-eq_of_lt (omega arith)

          above : (a t : ℕ) → t ≤ a → a % t ≡ a - t → a - a % t ≡ t
          above a t l e = omega (arith, e)

          below : (a : ℕ) {r : ℕ} → r ≡ a → a - r ≡ 0
          below a e = omega (arith, e)

          go : (t : Bool) → leb (top f) a ≡ t → a - a % top f ≡ cond t (top f) 0
          go true e = above a (top f) (leb-true (top f) a e) (once a (top f) (leb-true (top f) a e) h)
          go false e = below a (mod-eq_of_lt (leb-false (top f) a e))

      pub rem_sum : a - a % top f + w ≡ to_bits f (rem f (of_bits f a) (of_bits f b))
      rem_sum = ap (λ (n : ℕ). n + w) sign_part ∙ sym rem_bits

      pub rem_small : a - a % top f + w < 2 * top f
      rem_small =
          subst (λ (n : ℕ). n < 2 * top f) (sym rem_sum)
          (to_bits-lt f (rem f (of_bits f a) (of_bits f b)) (rem-fits f (of_bits f a) (of_bits f b) (of_bits-fits f a)))

-- ---- what gives no number

is_number : (v : Float) (s : Bool) (m c : ℕ) → HasValue v s m c → T (not (is_nan v))
unfolding is_nan
is_number nan s m c h = absurd h
is_number (inf t) s m c h = absurd h
is_number (fin t n e) s m c h = tt

module _ (f : Format) where
  rem_nan : (y : Float) → rem f nan y ≡ nan
  unfolding rem
  rem_nan y = refl

  rem_inf : (s : Bool) (y : Float) → rem f (inf s) y ≡ nan
  unfolding rem
  rem_inf s y = refl

  rem_by_nan : (x : Float) → rem f x nan ≡ nan
  unfolding rem
  rem_by_nan nan = refl
  rem_by_nan (inf s) = refl
  rem_by_nan (fin s m e) = refl

  rem_by_zero : (x : Float) (t : Bool) (d : ℤ) → rem f x (fin t 0 d) ≡ nan
  unfolding rem
  rem_by_zero nan t d = refl
  rem_by_zero (inf s) t d = refl
  rem_by_zero (fin s m e) t d = refl

  rem_by_inf : (x : Float) (s t : Bool) (a c : ℕ) → HasValue x s a c → rem f x (inf t) ≡ x
  unfolding rem
  rem_by_inf nan s t a c h = absurd h
  rem_by_inf (inf r) s t a c h = absurd h
  rem_by_inf (fin r m e) s t a c h = refl

  -- the exponent's field is all ones
  all_ones : (w : ℕ) → ones f * hid f ≤ w → w < top f → w / hid f ≡ ones f
  all_ones w l h = field_top f w h ((le-div_iff_mul-le (pow_pos (prec f - 1))).1 l)

  top_pos : 0 < top f
  top_pos = mul-pos (pow_pos (prec f - 1)) (omega arith)

  no_dividend : (a : ℕ) (y : Float) → ones f * hid f ≤ a % top f → rem f (of_bits f a) y ≡ nan
  unfolding of_bits
  no_dividend a y h = go (eqb (a % hid f) 0) refl
    where
      e : a % top f / hid f ≡ ones f
      e = all_ones (a % top f) h (mod-lt a top_pos)

      go : (t : Bool) → eqb (a % hid f) 0 ≡ t → rem f (of_bits f a) y ≡ nan
      go true z =
          ap (λ (x : Float). rem f x y) (fields_inf f (leb (top f) a) (a % top f / hid f) (a % hid f) e (eqb-true (a % hid f) 0 z))
          ∙ rem_inf (leb (top f) a) y
      go false z = ap (λ (x : Float). rem f x y) (bits_nan f a e (eqb-false (a % hid f) 0 z)) ∙ rem_nan y

  nan_divisor : (x : Float) (b : ℕ) → ones f * hid f < b % top f → rem f x (of_bits f b) ≡ nan
  nan_divisor x b h = ap (rem f x) (nan_word f b h) ∙ rem_by_nan x

  zero_divisor : (x : Float) (b : ℕ) → b % top f ≡ 0 → rem f x (of_bits f b) ≡ nan
  unfolding of_bits of_fields odd
  zero_divisor x b z =
      ap (λ (n : ℕ). rem f x (of_fields f (leb (top f) b) n (b % hid f))) (ap (λ (n : ℕ). n / hid f) z ∙ zero-div (hid f))
      ∙ ap (λ (n : ℕ). rem f x (of_fields f (leb (top f) b) 0 n)) (sym (same_digits f b) ∙ ap (λ (n : ℕ). n % hid f) z ∙ zero-mod (hid f))
      ∙ rem_by_zero x (leb (top f) b) _

  pub no_number : (a b : ℕ) → (ones f * hid f ≤ a % top f) ⊎ ((ones f * hid f < b % top f) ⊎ (b % top f ≡ 0))
      → ones f * hid f + hid f / 2 ≡ to_bits f (rem f (of_bits f a) (of_bits f b))
  no_number a b h = sym (ap (to_bits f) (go h) ∙ to_bits_nan f)
    where
      go : (ones f * hid f ≤ a % top f) ⊎ ((ones f * hid f < b % top f) ⊎ (b % top f ≡ 0)) → rem f (of_bits f a) (of_bits f b) ≡ nan
      go (inl l) = no_dividend a (of_bits f b) l
      go (inr (inl l)) = nan_divisor (of_bits f a) b l
      go (inr (inr z)) = zero_divisor (of_bits f a) b z

  pub inf_divisor : (a b : ℕ) → a < 2 * top f → a % top f < ones f * hid f → b % top f ≡ ones f * hid f → a ≡ to_bits f (rem f (of_bits f a) (of_bits f b))
  unfolding of_bits
  inf_divisor a b h l e =
      let p = pow_pos (prec f - 1) in
      let x : b % top f / hid f ≡ ones f = ap (λ (n : ℕ). n / hid f) e ∙ mul-div_cancel (ones f) p in
      let t : b % hid f ≡ 0 = sym (same_digits f b) ∙ ap (λ (n : ℕ). n % hid f) e ∙ mul-mod_left (ones f) (hid f) in
      let finite = field_lt f (a % top f) l in
      sym (ap (λ (y : Float). to_bits f (rem f (of_bits f a) y)) (fields_inf f (leb (top f) b) (b % top f / hid f) (b % hid f) x t)
      ∙ ap (to_bits f) (rem_by_inf (of_bits f a) (leb (top f) a) (leb (top f) b) _ _ (bits_value f a finite))
      ∙ to_bits-of_bits f a h (is_number (of_bits f a) _ _ _ (bits_value f a finite)))
