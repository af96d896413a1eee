-- The operations on single bits are the machine's, over the width. Assumes nothing.
use Rattle.std.proofs.Common.{◌≡◌, ℕ, zero, suc, ◌+◌, ◌*◌, ◌/◌, ◌%◌, ◌^◌, ◌<◌, sym, refl, ap, ◌∙◌, ap₂, pow-suc, arith}
use lib.Bits.{bit_and, bit_or, bit_xor, and_step, or_step, xor_step, differ}
use Rattle.values.specs.Integers.{bitwise, and, or, xor}

-- an operation that works bit by bit as f does
same : (f op : ℕ → ℕ → ℕ) → op 0 0 ≡ 0 → ((a b : ℕ) → op a b ≡ op (a / 2) (b / 2) * 2 + f (a % 2) (b % 2))
    → (w a b : ℕ) → a < 2 ^ w → b < 2 ^ w → op a b ≡ bitwise w f a b
unfolding bitwise
same f op z s zero a b A B =
    let p : a ≡ 0 = omega arith in
    let q : b ≡ 0 = omega arith in
    ap₂ op p q ∙ z
same f op z s (suc w) a b A B =
    let p = pow-suc 2 w in
    s a b ∙ ap (λ (n : ℕ). n * 2 + f (a % 2) (b % 2)) (same f op z s w (a / 2) (b / 2) (omega arith) (omega arith))

-- two bits that differ
differ_is : (x y : ℕ) → x < 2 → y < 2 → differ x y ≡ xor x y
differ_is zero zero X Y = refl
differ_is zero (suc zero) X Y = refl
differ_is (suc zero) zero X Y = refl
differ_is (suc zero) (suc zero) X Y = refl
differ_is zero (suc (suc y)) X Y = absurd (omega arith)
differ_is (suc zero) (suc (suc y)) X Y = absurd (omega arith)
differ_is (suc (suc x)) y X Y = absurd (omega arith)

module _ (w a b : ℕ) (A : a < 2 ^ w) (B : b < 2 ^ w) where
  pub and_is : bitwise w and a b ≡ bit_and a b
  and_is = sym (same and bit_and refl and_step w a b A B)

  pub or_is : bitwise w or a b ≡ bit_or a b
  or_is = sym (same or bit_or refl or_step w a b A B)

  pub xor_is : bitwise w xor a b ≡ bit_xor a b
  xor_is = sym (same xor bit_xor refl (λ a b. xor_step a b ∙ ap (λ (n : ℕ). bit_xor (a / 2) (b / 2) * 2 + n) (differ_is (a % 2) (b % 2) (omega arith) (omega arith))) w a b A B)
