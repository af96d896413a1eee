-- Which family a shared opcode is of. Assumes nothing.
use Prim.Native.Nat.{ℕ, ◌≤◌, ◌<◌}
use mathlib.Core.Path.{◌≡◌}
use mathlib.Core.Bool.{Bool, true, false, ◌&&◌}
use mathlib.Core.List.{List, map}
use lib.Dec.{leb}
use borrow.Author.Tests.{le-leb}
use Rattle.rules.proofs.Rows.{up_to, agree}
use Rattle.instructions.specs.Table.{is_in}
use Rattle.effects.specs.Families.{shared_opcodes}

abbrev implies : Bool → Bool → Bool
implies true y = y
implies false y = true

-- every shared opcode below a bound that passes a test is of a family, by one computation
abbrev pub AllOf : (ℕ → Bool) → ℕ → List ℕ → Type 0
AllOf test bound ks = map (λ n. implies (test n && is_in shared_opcodes n) (is_in ks n)) (up_to bound) ≡ map (λ n. true) (up_to bound)

pub of_family : (test : ℕ → Bool) (bound : ℕ) (ks : List ℕ) → AllOf test bound ks → (n : ℕ) → n < bound → test n ≡ true → is_in shared_opcodes n ≡ true → is_in ks n ≡ true
of_family test bound ks e n l p s = rw (p, s) at (agree (λ n. implies (test n && is_in shared_opcodes n) (is_in ks n)) (λ n. true) bound e n l)

-- the same for the shared opcodes from one on
pub from : (first bound : ℕ) (ks : List ℕ) → AllOf (leb first) bound ks → (n : ℕ) → first ≤ n → n < bound → is_in shared_opcodes n ≡ true → is_in ks n ≡ true
from first bound ks e n h l s = of_family (leb first) bound ks e n l (le-leb first n h) s
