-- The low bits of a sum, a negative and a product are those of the low bits: over the width, for all whole numbers. Assumes nothing.
use Prim.Native.Nat.{ℕ, suc, ◌+◌, ◌-◌, ◌*◌, ◌/◌, ◌%◌, ◌^◌, ◌≤◌, ◌<◌}
use mathlib.Core.Path.{◌≡◌, refl, sym, ap, ◌∙◌}
use mathlib.Core.Bool.{Bool, true, false}
use native.Mathlib.Omega.{arith}
use native.Mathlib.Nat.{le_refl, mod-lt, mod-eq_of_lt, add-mod-mod, div-add-mod', add-mul-mod_self_right, zero-mul}
use lib.Pow.{pow_pos, pow-add}
use lib.Dec.{ltb}
use lib.IntN.{ℤ, pos, negsuc, neg_ℤ, ◌+ℤ◌, ◌-ℤ◌, ◌*ℤ◌}
use borrow.Author.Tests.{ltb-true, ltb-false}
use borrow.Author.Differences.{up, down, sum_is_lem, neg_is, product_is}
use Rattle.values.specs.Integers.{signed, low}
use Rattle.values.proofs.Integers.{signed_plus, signed_minus}

-- ---- numbers that differ by a multiple of M: a whole number is a difference of two natural ones, up and down

record Congruent (M : ℕ) (z : ℤ) (r : ℕ) : Type 0 where
  more : ℕ
  less : ℕ
  same : up z + more * M ≡ down z + r + less * M

module _ (w : ℕ) where
  low_congruent : (z : ℤ) → Congruent (2 ^ w) z (low w z)
  unfolding low
  low_congruent (pos n) =
      let e = div-add-mod' n (2 ^ w) in
      record { more = 0; less = n / 2 ^ w; same = grind arith }
  low_congruent (negsuc n) =
      let e = div-add-mod' n (2 ^ w) in
      let l = mod-lt n (pow_pos w) in
      record { more = suc (n / 2 ^ w); less = 0; same = grind arith }

  pub low_lt : (z : ℤ) → low w z < 2 ^ w
  unfolding low
  low_lt (pos n) = mod-lt n (pow_pos w)
  low_lt (negsuc n) = let l = pow_pos w in omega arith

  low_is : (z : ℤ) (r : ℕ) → Congruent (2 ^ w) z r → low w z ≡ r % 2 ^ w
  low_is z r c =
      let d = low_congruent z in
      let M = 2 ^ w in
      let p = c.same in
      let q = d.same in
      let e : low w z + (d.less + c.more) * M ≡ r + (c.less + d.more) * M = grind arith in
      sym (mod-eq_of_lt (low_lt z)) ∙ sym (add-mul-mod_self_right (low w z) (d.less + c.more) M) ∙ ap (λ (n : ℕ). n % M) e ∙ add-mul-mod_self_right r (c.less + d.more) M

module _ (M : ℕ) where
  sum_congruent : (x y : ℤ) (r s : ℕ) → Congruent M x r → Congruent M y s → Congruent M (x +ℤ y) (r + s)
  sum_congruent x y r s c d = record { more = c.more + d.more; less = c.less + d.less; same = grind (arith, sum_is_lem x y) }

  neg_congruent : (x : ℤ) (r : ℕ) → r ≤ M → Congruent M x r → Congruent M (neg_ℤ x) (M - r)
  neg_congruent x r l c = record { more = suc c.less; less = c.more; same = grind (arith, neg_is x) }

  product_congruent : (x y : ℤ) (r s : ℕ) → Congruent M x r → Congruent M y s → Congruent M (x *ℤ y) (r * s)
  product_congruent x y r s c d = record {
    more = up x * d.more + down x * d.less + s * c.more;
    less = up x * d.less + down x * d.more + s * c.less;
    same = rw ((product_is x y).0, (product_is x y).1) (factors (up x) (down x) (up y) (down y) r s c.more c.less d.more d.less c.same d.same);
  }
    where
      factors : (a b u v r s m l n k : ℕ) → a + m * M ≡ b + r + l * M → u + n * M ≡ v + s + k * M
          → a * u + b * v + (a * n + b * k + s * m) * M ≡ a * v + b * u + r * s + (a * k + b * n + s * l) * M
      factors a b u v r s m l n k p q =
          let f : a * (u + n * M) ≡ a * (v + s + k * M) = ap (λ (z : ℕ). a * z) q in
          let g : b * (u + n * M) ≡ b * (v + s + k * M) = ap (λ (z : ℕ). b * z) q in
          let h : s * (a + m * M) ≡ s * (b + r + l * M) = ap (λ (z : ℕ). s * z) p in
          grind arith

-- ---- the laws

module _ (w : ℕ) where
  pub low_sum : (x y : ℤ) → low w (x +ℤ y) ≡ (low w x + low w y) % 2 ^ w
  low_sum x y = low_is w (x +ℤ y) (low w x + low w y) (sum_congruent (2 ^ w) x y (low w x) (low w y) (low_congruent w x) (low_congruent w y))

  pub low_neg : (x : ℤ) → low w (neg_ℤ x) ≡ (2 ^ w - low w x) % 2 ^ w
  low_neg x = let l = low_lt w x in low_is w (neg_ℤ x) (2 ^ w - low w x) (neg_congruent (2 ^ w) x (low w x) (omega arith) (low_congruent w x))

  pub low_difference : (x y : ℤ) → low w (x -ℤ y) ≡ (low w x + (2 ^ w - low w y)) % 2 ^ w
  low_difference x y = low_sum x (neg_ℤ y) ∙ ap (λ (n : ℕ). (low w x + n) % 2 ^ w) (low_neg y) ∙ add-mod-mod (low w x) (2 ^ w - low w y) (2 ^ w)

  pub low_product : (x y : ℤ) → low w (x *ℤ y) ≡ (low w x * low w y) % 2 ^ w
  low_product x y = low_is w (x *ℤ y) (low w x * low w y) (product_congruent (2 ^ w) x y (low w x) (low w y) (low_congruent w x) (low_congruent w y))

-- a word of h bits and a sign cut to k of its bits, all of them or fewer
pub low_signed : (k h a : ℕ) → k ≤ suc h → a < 2 ^ suc h → low k (signed h a) ≡ a % 2 ^ k
unfolding low
low_signed k h a l u = go (ltb a (2 ^ h)) refl
  where
    power : 2 ^ (suc h - k) * 2 ^ k ≡ 2 ^ suc h
    power = sym (pow-add 2 (suc h - k) k) ∙ ap (λ (n : ℕ). 2 ^ n) (omega arith)

    -- a and a - 2 ^ (h + 1) have the same low bits
    minus : Congruent (2 ^ k) (negsuc (2 ^ suc h - suc a)) a
    minus = let p = power in record { more = 2 ^ (suc h - k); less = 0; same = rw (zero-mul (2 ^ k)) (omega arith) }

    go : (t : Bool) → ltb a (2 ^ h) ≡ t → low k (signed h a) ≡ a % 2 ^ k
    go true e = ap (low k) (signed_plus h a (ltb-true a (2 ^ h) e))
    go false e = ap (low k) (signed_minus h a (ltb-false a (2 ^ h) e)) ∙ low_is k (negsuc (2 ^ suc h - suc a)) a minus

-- a word is the low bits of what it means
pub low_word : (h a : ℕ) → a < 2 ^ suc h → low (suc h) (signed h a) ≡ a
low_word h a u = low_signed (suc h) h a (le_refl (suc h)) u ∙ mod-eq_of_lt u
