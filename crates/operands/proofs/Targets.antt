-- The target of a branch: the place that it names is worked out as 2 ^ 31 more. Assumes nothing.
use Rattle.std.proofs.Common.{◌≡◌, ℕ, ◌+◌, ◌-◌, ◌^◌, ◌<◌, ◌≤◌, List, length, ℤ, pos, negsuc, ◌+ℤ◌, refl, sym, arith}
use borrow.Author.Differences.{up, down, ints}
use Rattle.values.specs.Integers.{signed}
use Rattle.rules.specs.Step.{inside}
use Rattle.rules.proofs.Step.{next_inside, next_outside}
use Rattle.operands.proofs.Differences.{raised, signed_difference}
use Rattle.std.specs.Prelude.{Ok, Err}
use Rattle.rules.specs.declared.refusals.Refusal.{Refusal}

-- question 10 of a place
pub place_inside : (code : List ℕ) (n : ℕ) → n < length code → Ok n ≡ inside code (pos n)
place_inside code n h = sym (next_inside code n h)

pub place_outside : (code : List ℕ) (n : ℕ) → length code ≤ n → Err Refusal.Target ≡ inside code (pos n)
place_outside code n h = sym (next_outside code n h)

module _ (code : List ℕ) (base offset : ℕ) (word : offset < 2 ^ 32) where
  -- the place, and 2 ^ 31 more
  abbrev place : ℤ
  place = pos base +ℤ signed 31 offset

  abbrev sum : ℕ
  sum = base + raised 31 offset

  pub before_the_code : sum < 2 ^ 31 → Err Refusal.Target ≡ inside code place
  before_the_code h = go place (omega (arith, ints, signed_difference 31 offset word))
    where
      go : (z : ℤ) → up z + 2 ^ 31 ≡ down z + sum → Err Refusal.Target ≡ inside code z
      go (pos n) d = absurd (omega arith)
      go (negsuc n) d = refl

  pub from_the_start : 2 ^ 31 ≤ sum → pos (sum - 2 ^ 31) ≡ place
  from_the_start h = omega (arith, ints, signed_difference 31 offset word)
