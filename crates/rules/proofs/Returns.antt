-- A return by the answer to question 32. Assumes nothing.
use Prim.Native.Nat.{ℕ}
use mathlib.Core.Path.{◌≡◌}
use mathlib.Core.Bool.{true, false, not, ◌||◌}
use Rattle.values.specs.declared.Value.{Value}
use Rattle.rules.specs.Check.{◌else◌, ◌>>=◌, ◌>>◌}
use Rattle.rules.specs.Returns.{is_return_type, suits, given_back, returned}
use Rattle.rules.specs.Step.{return_of, decision}
use Rattle.std.specs.Prelude.{Err}
use Rattle.rules.specs.declared.refusals.Refusal.{Refusal}
use Rattle.rules.specs.declared.halts.Halt.TheVariants.{Return, Refused}

module _ (t : ℕ) (v : Value) where
  pub of_another_kind : (not (is_return_type t) || suits t v) ≡ false → decision (return_of t v) ≡ Err (Refused Refusal.ReturnType)
  unfolding returned ◌else◌ ◌>>=◌ ◌>>◌
  of_another_kind h = rw h

  pub gives_back : (not (is_return_type t) || suits t v) ≡ true → decision (return_of t v) ≡ Err (Return (given_back t v))
  unfolding returned ◌else◌ ◌>>=◌ ◌>>◌
  gives_back h = rw h
