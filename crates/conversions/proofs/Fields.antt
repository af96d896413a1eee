-- A pattern by its fields, the exponent's x and the digits t: the number it stands for, and its value at another format. Over the formats. Assumes nothing.
use mathlib.Core.Path.{◌≡◌, refl, sym, ap, ◌∙◌, subst}
use mathlib.Core.Logic.{◌⊎◌, inl, inr}
use Prim.Native.Nat.{ℕ, zero, suc, ◌+◌, ◌-◌, ◌*◌, ◌/◌, ◌%◌, ◌^◌, ◌≤◌, ◌<◌}
use native.Mathlib.Nat.{lt_irrefl, eq-or-lt_of_le, div-lt_iff_lt-mul, mul_comm}
use native.Mathlib.Omega.{arith}
use mathlib.Core.Bool.{Bool, true, false, cond}
use lib.Dec.{T, eqb, leb}
use lib.Pow.{pow_pos}
use lib.Ieee.{Float, nan, inf, fin, Format, binary32, binary64, prec, emax, low, up, down, odd, round, hid, ones, top, to_bits, of_fields, of_bits, fits}
use lib.Ieee.Fits.{two, down_pos, round-fits, inf-fits, nan-fits}
use lib.Ieee.Bits.{to_bits-lt}
use lib.Ieee.Exact.{HasValue, odd_sign}
use lib.Ieee.Scale.{round_same}
use borrow.Author.Tests.{ne_eqb, eq-eqb, le-leb, lt-leb}
use Rattle.values.specs.Floats.{nearest}
use Rattle.conversions.proofs.Powers.{twice_highest}
use Rattle.conversions.proofs.SignBit.{inf_sign, round_sign}

-- ---- a pattern is its sign and its fields
pub of_plus : (f : Format) (b : ℕ) → b < top f → of_bits f b ≡ of_fields f false (b % top f / hid f) (b % hid f)
unfolding of_bits
of_plus f b h = ap (λ (s : Bool). of_fields f s (b % top f / hid f) (b % hid f)) (lt-leb (top f) b h)

pub of_minus : (f : Format) (b : ℕ) → top f ≤ b → of_bits f b ≡ of_fields f true (b % top f / hid f) (b % hid f)
unfolding of_bits
of_minus f b h = ap (λ (s : Bool). of_fields f s (b % top f / hid f) (b % hid f)) (le-leb (top f) b h)

-- ---- the digits with the leading one that the exponent's field says, and how far they are moved up
abbrev pub lead : Format → ℕ → ℕ → ℕ
lead f zero t = t
lead f (suc x) t = hid f + t

abbrev pub place : ℕ → ℕ
place zero = 0
place (suc x) = x

pub place_is : (x : ℕ) → place x ≡ x - 1
place_is zero = refl
place_is (suc x) = one x
  where
    one : (x : ℕ) → x ≡ suc x - 1
    one x = omega arith

pub lead_is : (f : Format) (x t : ℕ) → 0 < x → lead f x t ≡ hid f + t
lead_is f zero t h = absurd (lt_irrefl 0 h)
lead_is f (suc x) t h = refl

pub lead_lt : (f : Format) (x t : ℕ) → t < hid f → lead f x t < 2 ^ prec f
lead_lt f x t h = subst (λ (b : ℕ). lead f x t < b) (sym (twice_highest (prec f) (two f))) (go x)
  where
    low_lt : (t h : ℕ) → t < h → t < 2 * h
    low_lt t h l = omega arith

    high_lt : (t h : ℕ) → t < h → h + t < 2 * h
    high_lt t h l = omega arith

    go : (x : ℕ) → lead f x t < 2 * hid f
    go zero = low_lt t (hid f) h
    go (suc x) = high_lt t (hid f) h

-- ---- what the fields stand for: a number, an infinity, a NaN
pub fields_value : (f : Format) (s : Bool) (x t : ℕ) → x < ones f → HasValue (of_fields f s x t) s (lead f x t * 2 ^ place x) (2 ^ low f)
unfolding of_fields
fields_value f s zero t h = odd_sign (prec f) s t 0 (low f)
fields_value f s (suc x) t h =
    subst (λ (b : Bool). HasValue (cond b (cond (eqb t 0) (inf s) nan) (odd (prec f) s (hid f + t) x (low f))) s ((hid f + t) * 2 ^ x) (2 ^ low f))
    (sym (ne_eqb (suc x) (ones f) (λ e. differ (suc x) (ones f) h e)))
    (odd_sign (prec f) s (hid f + t) x (low f))
  where
    differ : (a b : ℕ) → a < b → a ≡ b → ⊥
    differ a b h e = omega arith

pub fields_top : (f : Format) (s : Bool) (x t : ℕ) → x ≡ ones f → of_fields f s x t ≡ cond (eqb t 0) (inf s) nan
unfolding of_fields
fields_top f s zero t e = absurd (no (emax f) e)
  where
    no : (m : ℕ) → 0 ≡ 2 * m + 1 → ⊥
    no m e = omega arith
fields_top f s (suc x) t e =
    ap (λ (b : Bool). cond b (cond (eqb t 0) (inf s) nan) (odd (prec f) s (hid f + t) x (low f))) (eq-eqb (suc x) (ones f) e)

pub fields_inf : (f : Format) (s : Bool) (x t : ℕ) → x ≡ ones f → t ≡ 0 → of_fields f s x t ≡ inf s
fields_inf f s x t e z = fields_top f s x t e ∙ ap (λ (b : Bool). cond b (inf s) nan) (eq-eqb t 0 z)

pub fields_nan : (f : Format) (s : Bool) (x t : ℕ) → x ≡ ones f → (t ≡ 0 → ⊥) → of_fields f s x t ≡ nan
fields_nan f s x t e z = fields_top f s x t e ∙ ap (λ (b : Bool). cond b (inf s) nan) (ne_eqb t 0 z)

pub bits_nan : (f : Format) (b : ℕ) → b % top f / hid f ≡ ones f → (b % hid f ≡ 0 → ⊥) → of_bits f b ≡ nan
unfolding of_bits
bits_nan f b e z = fields_nan f (leb (top f) b) (b % top f / hid f) (b % hid f) e z

-- the exponent's field is at most all ones
pub field_top : (f : Format) (w : ℕ) → w < top f → ones f ≤ w / hid f → w / hid f ≡ ones f
field_top f w h l = at_most (w / hid f) (ones f) l ((div-lt_iff_lt-mul (pow_pos (prec f - 1))).1 (subst (λ (n : ℕ). w < n) (mul_comm (hid f) (suc (ones f))) h))
  where
    at_most : (x o : ℕ) → o ≤ x → x < suc o → x ≡ o
    at_most x o l h = omega arith

-- ---- the nearest value at another format
nearest_value : (g : Format) (v : Float) (s : Bool) (a c : ℕ) → 0 < c → HasValue v s a c → nearest g v ≡ round g s a c
unfolding nearest
nearest_value g nan s a c C h = absurd h
nearest_value g (inf t) s a c C h = absurd h
nearest_value g (fin t m e) s a c C h =
    ap (λ (b : Bool). round g b (m * up e) (down e)) h.0 ∙ round_same g s (m * up e) (down e) a c (down_pos e) C h.1

pub nearest_fits : (g : Format) (v : Float) → T (fits g (nearest g v))
unfolding nearest
nearest_fits g nan = nan-fits g
nearest_fits g (inf s) = inf-fits g s
nearest_fits g (fin s m e) = round-fits g s (m * up e) (down e)

pub nearest_of_inf : (g : Format) (s : Bool) → nearest g (inf s) ≡ inf s
unfolding nearest
nearest_of_inf g s = refl

pub nearest_nan : (g : Format) → nearest g nan ≡ nan
unfolding nearest
nearest_nan g = refl

module _ (f g : Format) (x t : ℕ) where
  pub nearest_inf : (s : Bool) → x ≡ ones f → t ≡ 0 → nearest g (of_fields f s x t) ≡ inf s
  nearest_inf s e z = ap (nearest g) (fields_inf f s x t e z) ∙ nearest_of_inf g s

  pub rounded : (s : Bool) → x < ones f → nearest g (of_fields f s x t) ≡ round g s (lead f x t * 2 ^ place x) (2 ^ low f)
  rounded s l = nearest_value g (of_fields f s x t) s (lead f x t * 2 ^ place x) (2 ^ low f) (pow_pos (low f)) (fields_value f s x t l)

  module _ (h : x ≤ ones f) (z : x ≡ ones f → t ≡ 0) where
    pub nearest_negative : to_bits g (nearest g (of_fields f true x t)) ≡ top g + to_bits g (nearest g (of_fields f false x t))
    nearest_negative = go (eq-or-lt_of_le h)
      where
        go : (x ≡ ones f) ⊎ (x < ones f) → to_bits g (nearest g (of_fields f true x t)) ≡ top g + to_bits g (nearest g (of_fields f false x t))
        go (inl e) =
            ap (to_bits g) (nearest_inf true e (z e)) ∙ inf_sign g ∙ sym (ap (λ (v : Float). top g + to_bits g v) (nearest_inf false e (z e)))
        go (inr l) =
            ap (to_bits g) (rounded true l)
            ∙ round_sign g (lead f x t * 2 ^ place x) (2 ^ low f)
            ∙ sym (ap (λ (v : Float). top g + to_bits g v) (rounded false l))

    -- the sum does not wrap
    pub nearest_negative_lt : {r : ℕ} → r ≡ to_bits g (nearest g (of_fields f false x t)) → top g + r < 2 * top g
    nearest_negative_lt e =
        subst (λ (n : ℕ). n < 2 * top g) (nearest_negative ∙ ap (λ (n : ℕ). top g + n) (sym e))
        (to_bits-lt g (nearest g (of_fields f true x t)) (nearest_fits g (of_fields f true x t)))

-- ---- the fields of a pattern up to an infinity's, and of one above it
pub number_fields : (f : Format) (n : ℕ) → n % top f ≤ ones f * hid f → (n % top f / hid f ≤ ones f) × (n % top f / hid f ≡ ones f → n % hid f ≡ 0)
number_fields binary32 n h = (omega arith, λ e. omega arith)
number_fields binary64 n h = (omega arith, λ e. omega arith)

pub nan_fields : (f : Format) (n : ℕ) → ones f * hid f < n % top f → of_bits f n ≡ nan
nan_fields binary32 n h = bits_nan binary32 n (omega arith) (λ z. omega arith)
nan_fields binary64 n h = bits_nan binary64 n (omega arith) (λ z. omega arith)
