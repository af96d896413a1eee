-- A row of questions, written as a `do` block: the first question that is answered no ends it with its refusal. Assumes nothing.
use Rattle.std.specs.Prelude.{ℕ, Bool, true, false, ltb, leb, eqb, Result, Ok, Err}
use Rattle.rules.specs.declared.refusals.Refusal.{Refusal}

abbrev pub Check : Type 0 → Type 0
Check A = Result A Refusal

infix 4 ◌≤ⁿ◌ ◌<ⁿ◌ ◌=ⁿ◌
infix 2 ◌else◌
infixr 1 ◌>>=◌ ◌>>◌
-- `test else r`: where the test fails, r
unfoldable pub ◌else◌ : Bool → Refusal → Check (Unit {0})
true else r = Ok tt
false else r = Err r

unfoldable pub ◌>>=◌ : {A B : Type 0} → Check A → (A → Check B) → Check B
◌>>=◌ (Ok a) f = f a
◌>>=◌ (Err r) f = Err r

unfoldable pub ◌>>◌ : {A B : Type 0} → Check A → Check B → Check B
◌>>◌ (Ok a) b = b
◌>>◌ (Err r) b = Err r

-- whether there is a yes to every question
abbrev pub is_passed : {A : Type 0} → Check A → Bool
is_passed (Ok a) = true
is_passed (Err r) = false

-- ---- the tests on numbers

abbrev pub ◌≤ⁿ◌ : ℕ → ℕ → Bool
a ≤ⁿ b = leb a b

abbrev pub ◌<ⁿ◌ : ℕ → ℕ → Bool
a <ⁿ b = ltb a b

abbrev pub ◌=ⁿ◌ : ℕ → ℕ → Bool
a =ⁿ b = eqb a b
