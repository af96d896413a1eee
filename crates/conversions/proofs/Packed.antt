-- The exponent k and the digits q packed in one number, k * 2 ^ (p - 1) + q, where q has p digits, the highest among them, unless k = 0.
-- A carry out of the digits goes into the exponent by itself, and so the numbers keep their order. Assumes nothing.
use mathlib.Core.Path.{◌≡◌, refl, sym, ap, ◌∙◌, subst}
use mathlib.Core.Logic.{◌⊎◌, inl, inr}
use Prim.Native.Nat.{ℕ, suc, ◌+◌, ◌-◌, ◌*◌, ◌/◌, ◌^◌, ◌≤◌, ◌<◌}
use native.Mathlib.Nat.{le_trans, le_of_eq, le_refl, le_antisymm, lt_of_le_of_lt, not-le_of_lt, eq-or-lt_of_le, mul-one, one-mul, suc-mul, mul_comm, mul_assoc, mul-le-mul_right, mul-le-mul, le_of_mul-le-mul_right, add-mul, add_assoc, pow-succ', mul-div_cancel}
use native.Mathlib.Omega.{arith}
use mathlib.Core.Bool.{Bool, true, false, not}
use lib.Dec.{T, ltb, ltb→lt, nltb→le}
use lib.Pow.{pow-add, pow_pos, pow_mono, pow-lt, shl_lt}
use lib.Ieee.{size}
use lib.Ieee.Digits.{size-lt, size-le}
use Rattle.conversions.proofs.Powers.{twice_highest, pow_lt_back, pow_le_back}

-- ---- how many digits a number has, and how many of them are dropped to keep p
pub size_exact : (a n : ℕ) → 2 ^ a ≤ n → n < 2 ^ suc a → size n ≡ suc a
size_exact a n lo hi = le_antisymm (size-le n (suc a) hi) (pow_lt_back a (size n) (lt_of_le_of_lt lo (size-lt n)))

none_dropped : (z p : ℕ) → z ≤ p - 1 → z - p ≡ 0
none_dropped z p h = omega arith

pub dropped : (z p k : ℕ) → 2 ≤ p → z ≡ suc (p - 1 + k) → z - p ≡ k
dropped z p k h e = omega arith

one_more_dropped : (z p k : ℕ) → z ≡ suc (p + k) → z - p ≡ suc k
one_more_dropped z p k e = omega arith

-- with d digits dropped, a number that is r * 2 ^ d is written d * h + r
written : (p h a d r : ℕ) → size a - p ≡ d → a ≡ r * 2 ^ d → (size a - p) * h + a / 2 ^ (size a - p) ≡ d * h + r
written p h a d r e w =
    ap (λ (k : ℕ). k * h + a / 2 ^ k) e ∙ ap (λ (x : ℕ). d * h + x / 2 ^ d) w ∙ ap (λ (x : ℕ). d * h + x) (mul-div_cancel r (pow_pos d))

-- ---- k * h + q against (2 * e + 1) * h
below_top : (k q e h : ℕ) → k < 2 * e → q ≤ 2 * h → k * h + q ≤ (2 * e + 1) * h
below_top k q e h l b =
    let x : suc k * h ≤ 2 * e * h = mul-le-mul_right h l in
    let y : suc k * h ≡ k * h + h = suc-mul k h in
    let z : (2 * e + 1) * h ≡ 2 * e * h + h = add-mul (2 * e) 1 h ∙ ap (λ (x : ℕ). 2 * e * h + x) (one-mul h) in
    omega arith

above_top : (k q e h : ℕ) → 2 * e ≤ k → h ≤ q → (2 * e + 1) * h ≤ k * h + q
above_top k q e h l b =
    let x : 2 * e * h ≤ k * h = mul-le-mul_right h l in
    let z : (2 * e + 1) * h ≡ 2 * e * h + h = add-mul (2 * e) 1 h ∙ ap (λ (x : ℕ). 2 * e * h + x) (one-mul h) in
    omega arith

-- the last exponent with all its digits carried out
carried_to_top : (k q e h : ℕ) → suc k ≡ 2 * e → 2 * h ≤ q → (2 * e + 1) * h ≤ k * h + q
carried_to_top k q e h l b =
    let x : suc k * h ≡ 2 * e * h = ap (λ (x : ℕ). x * h) l in
    let y : suc k * h ≡ k * h + h = suc-mul k h in
    let z : (2 * e + 1) * h ≡ 2 * e * h + h = add-mul (2 * e) 1 h ∙ ap (λ (x : ℕ). 2 * e * h + x) (one-mul h) in
    omega arith

module _ (p q k : ℕ) (two : 2 ≤ p) (b : q ≤ 2 ^ p) (lead : (k ≡ 0) ⊎ (2 ^ (p - 1) ≤ q)) where
  -- ---- q * 2 ^ k is written by its exponent and its digits
  pub packed : (size (q * 2 ^ k) - p) * 2 ^ (p - 1) + q * 2 ^ k / 2 ^ (size (q * 2 ^ k) - p) ≡ k * 2 ^ (p - 1) + q
  packed = go (eq-or-lt_of_le b) (ltb q (2 ^ (p - 1))) (ltb→lt q (2 ^ (p - 1))) (nltb→le q (2 ^ (p - 1)))
    where
      h : ℕ
      h = 2 ^ (p - 1)

      no_exponent : q < h → (k ≡ 0) ⊎ (h ≤ q) → k ≡ 0
      no_exponent l (inl e) = e
      no_exponent l (inr g) = absurd (not-le_of_lt l g)

      with_highest : p + k ≡ suc (p - 1 + k)
      with_highest = omega arith

      double : (x : ℕ) → x + x ≡ 2 * x
      double x = omega arith

      go : (q ≡ 2 ^ p) ⊎ (q < 2 ^ p) → (t : Bool) → (T t → q < h) → (T (not t) → h ≤ q)
          → (size (q * 2 ^ k) - p) * h + q * 2 ^ k / 2 ^ (size (q * 2 ^ k) - p) ≡ k * h + q
      go (inl e) t l g =
          let w : q * 2 ^ k ≡ 2 ^ (p + k) = ap (λ (x : ℕ). x * 2 ^ k) e ∙ sym (pow-add 2 p k) in
          let z : size (q * 2 ^ k) ≡ suc (p + k) = size_exact (p + k) (q * 2 ^ k) (le_of_eq (sym w)) (subst (λ (x : ℕ). x < 2 ^ suc (p + k)) (sym w) (pow-lt (le_refl (suc (p + k))))) in
          let v : q * 2 ^ k ≡ h * 2 ^ suc k =
          ap (λ (x : ℕ). x * 2 ^ k) (e ∙ twice_highest p two ∙ mul_comm 2 h) ∙ mul_assoc h 2 (2 ^ k) ∙ ap (λ (x : ℕ). h * x) (sym (pow-succ' 2 k)) in
          written p h (q * 2 ^ k) (suc k) h (one_more_dropped (size (q * 2 ^ k)) p k z) v
          ∙ ap (λ (x : ℕ). x + h) (suc-mul k h)
          ∙ add_assoc (k * h) h h
          ∙ ap (λ (x : ℕ). k * h + x) (double h ∙ sym (twice_highest p two) ∙ sym e)
      go (inr u) true l g =
          let z : k ≡ 0 = no_exponent (l tt) lead in
          let w : q * 2 ^ k ≡ q = ap (λ (x : ℕ). q * 2 ^ x) z ∙ mul-one q in
          let d : size (q * 2 ^ k) - p ≡ k = none_dropped (size (q * 2 ^ k)) p (size-le (q * 2 ^ k) (p - 1) (subst (λ (x : ℕ). x < h) (sym w) (l tt))) ∙ sym z in
          written p h (q * 2 ^ k) k q d refl
      go (inr u) false l g =
          let lo : 2 ^ (p - 1 + k) ≤ q * 2 ^ k = le_trans (le_of_eq (pow-add 2 (p - 1) k)) (mul-le-mul_right (2 ^ k) (g tt)) in
          let hi : q * 2 ^ k < 2 ^ suc (p - 1 + k) = subst (λ (x : ℕ). q * 2 ^ k < 2 ^ x) with_highest (shl_lt p k u) in
          written p h (q * 2 ^ k) k q (dropped (size (q * 2 ^ k)) p k two (size_exact (p - 1 + k) (q * 2 ^ k) lo hi)) refl

  -- ---- q * 2 ^ k reaches 2 ^ (p - 1 + 2 * e) just where k * h + q reaches (2 * e + 1) * h
  module _ (e : ℕ) (positive : 0 < e) where
    highest : 2 * e ≤ k → (k ≡ 0) ⊎ (2 ^ (p - 1) ≤ q) → 2 ^ (p - 1) ≤ q
    highest l (inl z) = absurd no
      where
        no : ⊥
        no = omega arith
    highest l (inr g) = g

    pub packed_below : q * 2 ^ k < 2 ^ (p - 1 + 2 * e) → k * 2 ^ (p - 1) + q ≤ (2 * e + 1) * 2 ^ (p - 1)
    packed_below h = go (ltb k (2 * e)) (ltb→lt k (2 * e)) (nltb→le k (2 * e))
      where
        go : (t : Bool) → (T t → k < 2 * e) → (T (not t) → 2 * e ≤ k) → k * 2 ^ (p - 1) + q ≤ (2 * e + 1) * 2 ^ (p - 1)
        go true l g = below_top k q e (2 ^ (p - 1)) (l tt) (le_trans b (le_of_eq (twice_highest p two)))
        go false l g =
            absurd (not-le_of_lt h (le_trans (le_of_eq (pow-add 2 (p - 1) (2 * e))) (mul-le-mul (highest (g tt) lead) (pow_mono (g tt)))))

    pub packed_above : 2 ^ (p - 1 + 2 * e) ≤ q * 2 ^ k → (2 * e + 1) * 2 ^ (p - 1) ≤ k * 2 ^ (p - 1) + q
    packed_above h = go (ltb k (2 * e)) (ltb→lt k (2 * e)) (nltb→le k (2 * e))
      where
        last : k < 2 * e → p - 1 + 2 * e ≤ p + k → suc k ≡ 2 * e
        last l g = omega arith

        all_digits : p - 1 + suc k ≡ p + k
        all_digits = omega arith

        go : (t : Bool) → (T t → k < 2 * e) → (T (not t) → 2 * e ≤ k) → (2 * e + 1) * 2 ^ (p - 1) ≤ k * 2 ^ (p - 1) + q
        go true l g =
            let up : 2 ^ (p - 1 + 2 * e) ≤ 2 ^ (p + k) = le_trans h (le_trans (mul-le-mul_right (2 ^ k) b) (le_of_eq (sym (pow-add 2 p k)))) in
            let s : suc k ≡ 2 * e = last (l tt) (pow_le_back (p - 1 + 2 * e) (p + k) up) in
            let same : 2 ^ (p - 1 + 2 * e) ≡ 2 ^ p * 2 ^ k = ap (λ (x : ℕ). 2 ^ (p - 1 + x)) (sym s) ∙ ap (λ (x : ℕ). 2 ^ x) all_digits ∙ pow-add 2 p k in
            carried_to_top k q e (2 ^ (p - 1)) s (le_trans (le_of_eq (sym (twice_highest p two))) (le_of_mul-le-mul_right (le_trans (le_of_eq (sym same)) h) (pow_pos k)))
        go false l g = above_top k q e (2 ^ (p - 1)) (g tt) (highest (g tt) lead)
