-- A word read as a number of the machine's signed type of as many bits, and a number written as a word: quotients, remainders, shifts
-- with the sign and extensions are computed there. Assumes nothing.
use Rattle.std.proofs.Common.{◌≡◌, ℕ, zero, suc, ◌-◌, ◌/◌, ◌^◌, ◌<◌, ◌≤◌, Bool, true, false, cond, ltb, ℤ, pos, negsuc, neg_ℤ, sym, refl, ap, ◌∙◌, subst, ap₂, div-le_self, arith}
use Rattle.std.specs.Int.{int_wrapping_div}
use Rattle.std.specs.Ordering.{int_cmp, match_ordering}
use Rattle.std.specs.declared.cmp.Ordering.{Ordering}
use Rattle.std.specs.declared.cmp.Ordering.TheVariants.{Less, Equal, Greater}
use Rattle.std.proofs.lemmas.Int.{of_z-to_z}
use lib.Pow.{pow-lt}
use lib.Signed.{mag, lt_z, quot_z, rem_z, shr_z, mag_rem, mag_shr}
use mir.Syntax.{Width, w8, w16, w32, w64, w128}
use mir.Val.{bits, hbits, of_z, to_z, sel}
use mir.ValLaws.{to_z-Fits}
use Rattle.values.specs.Integers.{−1, signed, low, order}
use Rattle.values.proofs.Integers.{low_plus, low_minus}
use Rattle.values.proofs.LowBits.{low_lt}

one_more : (w : Width) → bits w ≡ suc (hbits w)
one_more w8 = refl
one_more w16 = refl
one_more w32 = refl
one_more w64 = refl
one_more w128 = refl

half_lt : (w : Width) → 2 ^ hbits w < 2 ^ bits w
half_lt w = pow-lt {i = hbits w} {j = bits w} (omega (arith, one_more w))

-- ---- a word read

module _ (w : Width) (a : ℕ) where
  signed_is : to_z w a ≡ signed (hbits w) a
  unfolding signed
  signed_is = ap (λ (n : ℕ). sel (ltb a (2 ^ hbits w)) (pos a) (negsuc (2 ^ n - suc a))) (one_more w) ∙ go (ltb a (2 ^ hbits w))
    where
      go : (t : Bool) → sel t (pos a) (negsuc (2 ^ suc (hbits w) - suc a)) ≡ cond t (pos a) (negsuc (2 ^ suc (hbits w) - suc a))
      go true = refl
      go false = refl

  module _ (A : a < 2 ^ bits w) where
    -- what a cast makes of it, as the next operation reads it
    read : {s : ℤ} → s ≡ to_z w a → to_z w (of_z w s) ≡ signed (hbits w) a
    read e = ap (λ (z : ℤ). to_z w (of_z w z)) e ∙ ap (to_z w) (of_z-to_z w a A) ∙ signed_is

    in_range : mag (signed (hbits w) a) < 2 ^ hbits w
    in_range = subst (λ (z : ℤ). mag z < 2 ^ hbits w) signed_is (to_z-Fits w a (record { fits = A })).sfits

-- ---- a number written

word_is : (w : Width) (z : ℤ) → mag z < 2 ^ bits w → of_z w z ≡ low (bits w) z
word_is w (pos n) l = sym (low_plus (bits w) n l)
word_is w (negsuc n) l = sym (low_minus (bits w) n l)

module _ (w : Width) (z : ℤ) (l : mag z < 2 ^ bits w) where
  back : of_z w (to_z w (of_z w z)) ≡ of_z w z
  back = of_z-to_z w (of_z w z) (subst (λ (n : ℕ). n < 2 ^ bits w) (sym (word_is w z l)) (low_lt (bits w) z))

  written : {r : ℕ} → r ≡ of_z w (to_z w (of_z w z)) → r ≡ low (bits w) z
  written e = e ∙ back ∙ word_is w z l

-- ---- the operations

mag_negative : (n : ℕ) → mag (neg_ℤ (pos n)) ≤ n
mag_negative zero = omega arith
mag_negative (suc n) = omega arith

mag_quotient : (x y : ℤ) → mag (quot_z x y) ≤ suc (mag x)
mag_quotient (pos a) (pos b) = omega (arith, div-le_self a b)
mag_quotient (pos a) (negsuc b) = omega (arith, mag_negative (a / suc b), div-le_self a (suc b))
mag_quotient (negsuc a) (pos b) = omega (arith, mag_negative (suc a / b), div-le_self (suc a) b)
mag_quotient (negsuc a) (negsuc b) = div-le_self (suc a) (suc b)

-- the order that the machine gives, as a number
ordered : (x y : ℤ) → match_ordering (int_cmp x y) −1 (pos 0) (pos 1) ≡ order x y
ordered x y = go (lt_z x y) (lt_z y x)
  where
    go : (s t : Bool) → match_ordering (cond s Less (cond t Greater Equal)) −1 (pos 0) (pos 1) ≡ cond s −1 (cond t (pos 1) (pos 0))
    go true t = refl
    go false true = refl
    go false false = refl

module _ (w : Width) (a : ℕ) (A : a < 2 ^ bits w) {s : ℤ} (S : s ≡ to_z w a) where
  -- a result that is not much further from 0 has the same bits
  kept : (z : ℤ) → mag z ≤ suc (mag (signed (hbits w) a)) → mag z < 2 ^ bits w
  kept z l = let p = in_range w a A in let q = half_lt w in omega arith

  module _ (b : ℕ) (B : b < 2 ^ bits w) {t : ℤ} (T : t ≡ to_z w b) where
    pub less : lt_z (to_z w (of_z w s)) (to_z w (of_z w t)) ≡ lt_z (signed (hbits w) a) (signed (hbits w) b)
    less = ap₂ lt_z (read w a A S) (read w b B T)

    pub compared : {o : Ordering} {r : ℕ} → o ≡ int_cmp (to_z w (of_z w s)) (to_z w (of_z w t)) → r ≡ low 32 (match_ordering o −1 (pos 0) (pos 1)) → r ≡ low 32 (order (signed (hbits w) a) (signed (hbits w) b))
    compared D R = let x = signed (hbits w) a in
        let y = signed (hbits w) b in
        R ∙ ap (λ (o : Ordering). low 32 (match_ordering o −1 (pos 0) (pos 1))) (D ∙ ap₂ int_cmp (read w a A S) (read w b B T)) ∙ ap (low 32) (ordered x y)

    pub quotient : {d : ℤ} {r : ℕ} → d ≡ int_wrapping_div w (to_z w (of_z w s)) (to_z w (of_z w t)) → r ≡ of_z w (to_z w (of_z w d)) → r ≡ low (bits w) (quot_z (signed (hbits w) a) (signed (hbits w) b))
    quotient D R = let q = quot_z (signed (hbits w) a) (signed (hbits w) b) in
        let l = kept q (mag_quotient (signed (hbits w) a) (signed (hbits w) b)) in
        let e = D ∙ ap₂ (int_wrapping_div w) (read w a A S) (read w b B T) in
        written w q l (R ∙ ap (λ (z : ℤ). of_z w (to_z w (of_z w z))) e ∙ ap (λ (n : ℕ). of_z w (to_z w n)) (back w q l))

    pub remainder : {d : ℤ} {r : ℕ} → d ≡ rem_z (to_z w (of_z w s)) (to_z w (of_z w t)) → r ≡ of_z w (to_z w (of_z w d)) → r ≡ low (bits w) (rem_z (signed (hbits w) a) (signed (hbits w) b))
    remainder D R = let z = rem_z (signed (hbits w) a) (signed (hbits w) b) in
        let l = kept z (omega (arith, mag_rem (signed (hbits w) a) (signed (hbits w) b))) in
        written w z l (R ∙ ap (λ (z : ℤ). of_z w (to_z w (of_z w z))) (D ∙ ap₂ rem_z (read w a A S) (read w b B T)))

  pub shift_right : (m : ℕ) {r : ℕ} → r ≡ of_z w (to_z w (of_z w (shr_z (to_z w (of_z w s)) m))) → r ≡ low (bits w) (shr_z (signed (hbits w) a) m)
  shift_right m R = let z = shr_z (signed (hbits w) a) m in
      written w z (kept z (omega (arith, mag_shr (signed (hbits w) a) m))) (R ∙ ap (λ (z : ℤ). of_z w (to_z w (of_z w (shr_z z m)))) (read w a A S))

  -- as a number of a wider type v
  pub extended : (v : Width) → hbits w < bits v → {t : ℤ} {r : ℕ} → t ≡ to_z w (of_z w s) → r ≡ of_z v (to_z v (of_z v t)) → r ≡ low (bits v) (signed (hbits w) a)
  extended v l T R = let p = in_range w a A in
      let q = pow-lt {i = hbits w} {j = bits v} l in
      written v (signed (hbits w) a) (omega arith) (R ∙ ap (λ (z : ℤ). of_z v (to_z v (of_z v z))) (T ∙ read w a A S))
