-- A word's highest bit turned over, over the width: added where it is not set, taken away where it is. Assumes nothing.
use mathlib.Core.Path.{◌≡◌, sym, ap}
use Prim.Native.Nat.{ℕ, ◌+◌, ◌-◌, ◌^◌, ◌<◌, ◌≤◌}
use mathlib.Core.Bool.{Bool, cond}
use borrow.Author.Tests.{lt-ltb, le-ltb}
use Rattle.values.specs.Integers.{flipped}

pub bit_added : (h a : ℕ) → a < 2 ^ h → a + 2 ^ h ≡ flipped h a
unfolding flipped
bit_added h a l = sym (ap (λ (t : Bool). cond t (a + 2 ^ h) (a - 2 ^ h)) (lt-ltb a (2 ^ h) l))

pub bit_removed : (h a : ℕ) → 2 ^ h ≤ a → a - 2 ^ h ≡ flipped h a
unfolding flipped
bit_removed h a l = sym (ap (λ (t : Bool). cond t (a + 2 ^ h) (a - 2 ^ h)) (le-ltb a (2 ^ h) l))
