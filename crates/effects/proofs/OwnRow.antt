-- What an instruction comes to by its own row is what its shared opcode comes to: the index and a switch's pairs play no part in it, nor do
-- words past those that it works on. Computed over the table. Assumes nothing.
use Prim.Native.Nat.{ℕ}
use mathlib.Core.Path.{◌≡◌, refl, ap}
use mathlib.Core.Bool.{true}
use mathlib.Core.List.{List, [], ◌∷◌}
use lib.IntN.{ℤ}
use lib.ListN.{take}
use Rattle.values.specs.Integers.{signed}
use Rattle.rules.specs.Forms.{Row}
use Rattle.rules.specs.Fetch.{operands}
use Rattle.rules.specs.Instructions.{instructions, row_of}
use Rattle.rules.proofs.Rows.{OfRow, every_row_lem, of_row, works}
use Rattle.instructions.specs.Table.{is_in, shared_of}
use Rattle.effects.specs.declared.outcome.Effect.{Effect}
use Rattle.effects.specs.Effects.{effect_of, effect_at}
use Rattle.effects.specs.Families.{shared_opcodes}
use Rattle.std.specs.Prelude.{Some}

unfoldable own_effect : Row → ℕ → ℕ → List (ℤ × ℤ) → ℕ → ℕ → ℕ → ℕ → Effect
own_effect r index constant pairs a b c d = effect_of (r.rule.does (operands index (signed 31 constant) pairs) (take (works r.rule) (a ∷ b ∷ c ∷ d ∷ [])))

unfoldable shared_effect : Row → ℕ → ℕ → List (ℤ × ℤ) → ℕ → ℕ → ℕ → ℕ → Effect
shared_effect r index constant pairs a b c d = effect_at (shared_of r) constant a b c d

every_own : (n : ℕ) → OfRow own_effect shared_effect (row_of n)
unfolding instructions row_of own_effect shared_effect effect_at
every_own n = every_row_lem own_effect shared_effect refl n

pub own_effect_lem : (n : ℕ) (r : Row) → row_of n ≡ Some r → (index constant : ℕ) (pairs : List (ℤ × ℤ)) (a b c d : ℕ) → effect_of (r.rule.does (operands index (signed 31 constant) pairs) (take (works r.rule) (a ∷ b ∷ c ∷ d ∷ []))) ≡ effect_at (shared_of r) constant a b c d
unfolding own_effect shared_effect
own_effect_lem n r e index constant pairs a b c d = ap (λ f. f index constant pairs a b c d) (of_row own_effect shared_effect (row_of n) r (every_own n) e)

-- and the opcode that a row shares is one of the shared opcodes, as `effect` asks
pub shared_listed : (n : ℕ) (r : Row) → row_of n ≡ Some r → is_in shared_opcodes (shared_of r) ≡ true
unfolding instructions shared_opcodes
shared_listed n r e = of_row (λ q. is_in shared_opcodes (shared_of q)) (λ q. true) (row_of n) r (every_row_lem (λ q. is_in shared_opcodes (shared_of q)) (λ q. true) refl n) e
