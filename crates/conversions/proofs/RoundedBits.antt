-- The pattern of a value at a format: of an infinity, the NaN, a value that the format holds, and a rounded fraction. Over the format. Assumes nothing.
use mathlib.Core.Path.{◌≡◌, refl, sym, ap, ◌∙◌, subst}
use mathlib.Core.Logic.{◌⊎◌, inl, inr}
use Prim.Native.Nat.{ℕ, suc, ◌+◌, ◌-◌, ◌*◌, ◌/◌, ◌%◌, ◌^◌, ◌≤◌, ◌<◌, min, compare}
use native.Mathlib.Nat.{le_trans, le_of_eq, not-le_of_lt, mul-one, mul_comm, mul_assoc, mul_right_comm, mul-le-mul_right, mul-pos, eq_of_mul-eq-mul_right, add_assoc, mul-div_cancel, le-div_iff_mul-le, min-eq_left, min-eq_right}
use native.Mathlib.Omega.{arith}
use mathlib.Core.Bool.{Bool, true, false, not, cond}
use lib.Dec.{T, ltb, ltb→lt, nltb→le, lit≤}
use lib.IntN.{ℤ}
use lib.Pow.{pow-add, pow_pos, shl_lt, shr_lt}
use lib.Ieee.{Float, nan, inf, fin, Format, binary32, binary64, prec, emax, low, up, down, size, odd, units, round, hid, ones, top, to_bits}
use lib.Ieee.Digits.{size-le}
use lib.Ieee.Fits.{two, down_pos, nearest-le, round_is}
use lib.Ieee.Exact.{HasValue, units_val}
use lib.Ieee.Nearest.{closest, closest_same, nearest-ge, div_same}
use Rattle.conversions.proofs.Packed.{size_exact, dropped, packed, packed_below, packed_above}

-- ---- an infinity and the NaN
pub to_bits_inf : (f : Format) (s : Bool) → to_bits f (inf s) ≡ cond s (top f) 0 + ones f * hid f
unfolding to_bits
to_bits_inf f s = refl

pub to_bits_nan : (f : Format) → to_bits f nan ≡ ones f * hid f + hid f / 2
unfolding to_bits
to_bits_nan f = refl

-- ---- a value that the format holds, by its size in units of the smallest value
to_bits_fin : (f : Format) (s : Bool) (m : ℕ) (e : ℤ) (n : ℕ) → m * up e * 2 ^ low f / down e ≡ n
    → to_bits f (fin s m e) ≡ cond s (top f) 0 + ((size n - prec f) * hid f + n / 2 ^ (size n - prec f))
unfolding to_bits
to_bits_fin f s m e n p =
    ap (λ (x : ℕ). cond s (top f) 0 + (size x - prec f) * hid f + x / 2 ^ (size x - prec f)) p
    ∙ add_assoc (cond s (top f) 0) ((size n - prec f) * hid f) (n / 2 ^ (size n - prec f))

pub value_bits : (f : Format) (v : Float) (s : Bool) (n : ℕ) → HasValue v s n (2 ^ low f)
    → to_bits f v ≡ cond s (top f) 0 + ((size n - prec f) * hid f + n / 2 ^ (size n - prec f))
value_bits f nan s n h = absurd h
value_bits f (inf t) s n h = absurd h
value_bits f (fin t m e) s n h =
    to_bits_fin f t m e n (ap (λ (x : ℕ). x / down e) h.1 ∙ mul-div_cancel n (down_pos e))
    ∙ ap (λ (b : Bool). cond b (top f) 0 + ((size n - prec f) * hid f + n / 2 ^ (size n - prec f))) h.0

-- written as q * 2 ^ k smallest values
pub exact_bits : (f : Format) (v : Float) (s : Bool) (q k : ℕ) → HasValue v s (q * 2 ^ k) (2 ^ low f) → q ≤ 2 ^ prec f → (k ≡ 0) ⊎ (hid f ≤ q)
    → to_bits f v ≡ cond s (top f) 0 + (k * hid f + q)
exact_bits f v s q k h b lead = value_bits f v s (q * 2 ^ k) h ∙ ap (λ (x : ℕ). cond s (top f) 0 + x) (packed (prec f) q k (two f) b lead)

-- the same number as another fraction
pub rescaled : (v : Float) (s : Bool) (a c b d : ℕ) → 0 < c → a * d ≡ b * c → HasValue v s a c → HasValue v s b d
rescaled nan s a c b d C e h = h
rescaled (inf t) s a c b d C e h = h
rescaled (fin t m x) s a c b d C e h = (
  h.0,
  eq_of_mul-eq-mul_right c C (m * up x * d) (b * down x)
      (mul_right_comm (m * up x) d c ∙ ap (λ (n : ℕ). n * d) h.1 ∙ mul_right_comm a (down x) d ∙ ap (λ (n : ℕ). n * down x) e ∙ mul_right_comm b c (down x)),
)

-- ---- q * 2 ^ k smallest values, whatever carry the rounding made, up to an infinity
pub emax_pos : (f : Format) → 0 < emax f
emax_pos binary32 = lit≤ tt
emax_pos binary64 = lit≤ tt

module _ (f : Format) (s : Bool) (q k : ℕ) where
  end : ℕ
  end = 2 ^ (low f + suc (emax f))

  end_is : end ≡ 2 ^ (prec f - 1 + 2 * emax f)
  unfolding end
  end_is = ap (λ (x : ℕ). 2 ^ x) (sum (emax f) (prec f) (two f))
    where
      sum : (e p : ℕ) → 2 ≤ p → e + p - 2 + suc e ≡ p - 1 + 2 * e
      sum e p h = omega arith

  units_inf : end ≤ q * 2 ^ k → units f s q k ≡ inf s
  unfolding units end
  units_inf h = go (ltb (q * 2 ^ k) end) (ltb→lt (q * 2 ^ k) end)
    where
      go : (b : Bool) → (T b → q * 2 ^ k < end) → cond b (odd (suc (prec f)) s q k (low f)) (inf s) ≡ inf s
      go true l = absurd (not-le_of_lt (l tt) h)
      go false l = refl

  units_bits : q ≤ 2 ^ prec f → (k ≡ 0) ⊎ (hid f ≤ q) → to_bits f (units f s q k) ≡ cond s (top f) 0 + min (k * hid f + q) (ones f * hid f)
  unfolding end
  units_bits b lead = go (ltb (q * 2 ^ k) end) (ltb→lt (q * 2 ^ k) end) (nltb→le (q * 2 ^ k) end)
    where
      go : (t : Bool) → (T t → q * 2 ^ k < end) → (T (not t) → end ≤ q * 2 ^ k)
          → to_bits f (units f s q k) ≡ cond s (top f) 0 + min (k * hid f + q) (ones f * hid f)
      go true l g =
          exact_bits f (units f s q k) s q k (units_val f s q k (l tt)) b lead
          ∙ ap (λ (x : ℕ). cond s (top f) 0 + x)
          (sym (min-eq_left (packed_below (prec f) q k (two f) b lead (emax f) (emax_pos f) (subst (λ (x : ℕ). q * 2 ^ k < x) end_is (l tt)))))
      go false l g =
          ap (to_bits f) (units_inf (g tt))
          ∙ to_bits_inf f s
          ∙ ap (λ (x : ℕ). cond s (top f) 0 + x)
          (sym (min-eq_right (packed_above (prec f) q k (two f) b lead (emax f) (emax_pos f) (le_trans (le_of_eq (sym end_is)) (g tt)))))

-- ---- the fraction num / den, which is m * 2 ^ k / 2 ^ j smallest values: m / 2 ^ j has at most as many digits as the format keeps, and just as many unless k = 0
pub round_bits : (f : Format) (s : Bool) (num den m j k : ℕ) → 0 < den → num * 2 ^ low f * 2 ^ j ≡ m * 2 ^ k * den
    → m < 2 ^ (prec f + j) → (k ≡ 0) ⊎ (2 ^ (prec f - 1 + j) ≤ m)
    → to_bits f (round f s num den) ≡ cond s (top f) 0 + min (k * hid f + closest m (2 ^ j)) (ones f * hid f)
round_bits f s num den m j k D e hi lead =
    let n = num * 2 ^ low f in
    let p = prec f in
    let whole : n / den ≡ m * 2 ^ k / 2 ^ j = div_same n den (m * 2 ^ k) (2 ^ j) D (pow_pos j) e in
    let exponent : size (n / den) - p ≡ k = ap (λ (x : ℕ). size x - p) whole ∙ drops lead in
    let same : closest n (den * 2 ^ k) ≡ closest m (2 ^ j) =
    closest_same n (den * 2 ^ k) m (2 ^ j) (mul-pos D (pow_pos k)) (pow_pos j) (e ∙ mul_assoc m (2 ^ k) den ∙ ap (λ (x : ℕ). m * x) (mul_comm (2 ^ k) den)) in
    ap (to_bits f) (round_is f s num den)
    ∙ ap (λ (x : ℕ). to_bits f (units f s (closest n (den * 2 ^ x)) x)) exponent
    ∙ ap (λ (x : ℕ). to_bits f (units f s x k)) same
    ∙ units_bits f s (closest m (2 ^ j)) k (le_trans (nearest-le (m / 2 ^ j) (compare (m % 2 ^ j * 2) (2 ^ j))) (shr_lt p j hi)) (kept lead)
  where
    kept : (k ≡ 0) ⊎ (2 ^ (prec f - 1 + j) ≤ m) → (k ≡ 0) ⊎ (hid f ≤ closest m (2 ^ j))
    kept (inl z) = inl z
    kept (inr l) =
        inr (le_trans ((le-div_iff_mul-le (pow_pos j)).1 (le_trans (le_of_eq (sym (pow-add 2 (prec f - 1) j))) l)) (nearest-ge (m / 2 ^ j) (compare (m % 2 ^ j * 2) (2 ^ j))))

    none : (z p : ℕ) → z ≤ p → z - p ≡ 0
    none z p h = omega arith

    over : (p : ℕ) → 2 ≤ p → p + j + k ≡ suc (p - 1 + k) + j
    over p t = omega arith

    drops : (k ≡ 0) ⊎ (2 ^ (prec f - 1 + j) ≤ m) → size (m * 2 ^ k / 2 ^ j) - prec f ≡ k
    drops (inl z) =
        none (size (m * 2 ^ k / 2 ^ j)) (prec f)
        (size-le (m * 2 ^ k / 2 ^ j) (prec f) (shr_lt (prec f) j (subst (λ (x : ℕ). x < 2 ^ (prec f + j)) (sym (ap (λ (x : ℕ). m * 2 ^ x) z ∙ mul-one m)) hi)))
        ∙ sym z
    drops (inr l) =
        dropped (size (m * 2 ^ k / 2 ^ j)) (prec f) k (two f)
        (size_exact (prec f - 1 + k) (m * 2 ^ k / 2 ^ j)
        ((le-div_iff_mul-le (pow_pos j)).1 (le_trans (le_of_eq (ap (λ (x : ℕ). x * 2 ^ j) (pow-add 2 (prec f - 1) k) ∙ mul_right_comm (2 ^ (prec f - 1)) (2 ^ k) (2 ^ j) ∙ ap (λ (x : ℕ). x * 2 ^ k) (sym (pow-add 2 (prec f - 1) j)))) (mul-le-mul_right (2 ^ k) l)))
        (shr_lt (suc (prec f - 1 + k)) j (subst (λ (x : ℕ). m * 2 ^ k < 2 ^ x) (over (prec f) (two f)) (shl_lt (prec f + j) k hi))))
