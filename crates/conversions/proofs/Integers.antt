-- The magnitude of an int or a long, and the float nearest to it by the sign. Over the format and the width. Assumes nothing.
use mathlib.Core.Path.{◌≡◌, refl, sym, ap, ◌∙◌}
use Prim.Native.Nat.{ℕ, suc, ◌+◌, ◌-◌, ◌*◌, ◌^◌, ◌≤◌, ◌<◌}
use native.Mathlib.Nat.{pow-succ'}
use native.Mathlib.Omega.{arith}
use mathlib.Core.Bool.{false}
use lib.IntN.{ℤ, pos, negsuc}
use lib.Ieee.{Format, round, top, to_bits, of_int}
use Rattle.values.specs.Integers.{signed}
use Rattle.values.proofs.Integers.{signed_plus, signed_minus}
use Rattle.conversions.proofs.SignBit.{round_sign}

-- ---- the word a of h bits and a sign
pub magnitude : (h a s : ℕ) → s ≡ 2 ^ h → s ≤ a → a < 2 * 2 ^ h → s - (a - s) ≡ suc (2 ^ suc h - suc a)
magnitude h a s e l b = let p = pow-succ' 2 h in rw p (omega arith)

of_int_plus : (f : Format) (n : ℕ) → of_int f (pos n) ≡ round f false n 1
unfolding of_int
of_int_plus f n = refl

of_int_minus : (f : Format) (n : ℕ) → to_bits f (of_int f (negsuc n)) ≡ top f + to_bits f (round f false (suc n) 1)
unfolding of_int
of_int_minus f n = round_sign f (suc n) 1

pub not_negative : (f : Format) (h a : ℕ) {r : ℕ} → a < 2 ^ h → r ≡ to_bits f (round f false a 1) → r ≡ to_bits f (of_int f (signed h a))
not_negative f h a l e = e ∙ sym (ap (λ (z : ℤ). to_bits f (of_int f z)) (signed_plus h a l) ∙ ap (to_bits f) (of_int_plus f a))

pub negative : (f : Format) (h a n : ℕ) {r : ℕ} → 2 ^ h ≤ a → n ≡ suc (2 ^ suc h - suc a) → r ≡ to_bits f (round f false n 1) → top f + r ≡ to_bits f (of_int f (signed h a))
negative f h a n l m e =
    ap (λ (x : ℕ). top f + x) (e ∙ ap (λ (x : ℕ). to_bits f (round f false x 1)) m)
    ∙ sym (ap (λ (z : ℤ). to_bits f (of_int f z)) (signed_minus h a l) ∙ of_int_minus f (2 ^ suc h - suc a))
