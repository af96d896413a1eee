-- A constant that question 9 passes lies in the pool. Assumes nothing.
use Prim.Native.Nat.{ℕ, ◌+◌, ◌≤◌}
use mathlib.Core.Path.{◌≡◌}
use mathlib.Core.Bool.{true}
use mathlib.Core.List.{List, [], ◌∷◌}
use lib.ListN.{length}
use native.Mathlib.Omega.{arith}
use Rattle.std.proofs.lemmas.Bool.Decides.{nat_tests}
use Rattle.values.specs.Kinds.{Kind, places}
use Rattle.rules.specs.Questions.{constant_there}

pub constant_within : (kinds : List ℕ) (x : ℕ) (j k : Kind) → places k ≡ places j → constant_there kinds x (j ∷ k ∷ []) ≡ true → x + places j ≤ length kinds
constant_within kinds x j k same e = let f = rw same at e in grind (arith, nat_tests)
