-- Two's complement over the width: what a word means by its sign, and the low bits of a number in range. Assumes nothing.
use Prim.Native.Nat.{ℕ, suc, ◌-◌, ◌^◌, ◌≤◌, ◌<◌}
use mathlib.Core.Path.{◌≡◌, ap}
use mathlib.Core.Bool.{Bool, cond}
use native.Mathlib.Nat.{mod-eq_of_lt}
use lib.IntN.{pos, negsuc}
use borrow.Author.Tests.{lt-ltb, le-ltb}
use Rattle.values.specs.Integers.{signed, low}

pub signed_plus : (h a : ℕ) → a < 2 ^ h → signed h a ≡ pos a
unfolding signed
signed_plus h a l = ap (λ (t : Bool). cond t (pos a) (negsuc (2 ^ suc h - suc a))) (lt-ltb a (2 ^ h) l)

pub signed_minus : (h a : ℕ) → 2 ^ h ≤ a → signed h a ≡ negsuc (2 ^ suc h - suc a)
unfolding signed
signed_minus h a l = ap (λ (t : Bool). cond t (pos a) (negsuc (2 ^ suc h - suc a))) (le-ltb a (2 ^ h) l)

pub low_plus : (w n : ℕ) → n < 2 ^ w → low w (pos n) ≡ n
unfolding low
low_plus w n l = mod-eq_of_lt l

pub low_minus : (w n : ℕ) → n < 2 ^ w → low w (negsuc n) ≡ 2 ^ w - suc n
unfolding low
low_minus w n l = ap (λ (m : ℕ). 2 ^ w - suc m) (mod-eq_of_lt l)
