-- Definitions that no function computes, tried on values: what demand 3 counts of a list of answers, and its premise. Every other definition is what some function
-- gives, and is tried by the programs that call it. Assumes nothing.
use Prim.Native.Nat.{ℕ, ◌<◌}
use mathlib.Core.Path.{◌≡◌, refl}
use mathlib.Core.List.{List, [], ◌∷◌}
use Rattle.rules.specs.Fetch.{u8}
use Rattle.rules.specs.Sheet.{load_of}
use Rattle.rules.specs.PlainWalk.{forward, back}
use Rattle.rules.specs.Walk.{grants, refusals}
use Rattle.rules.specs.Presses.{loaded_method, LeftBy}
use Rattle.std.specs.Prelude.{Ok, Err}
use Rattle.rules.specs.declared.refusals.Refusal.{Refusal}
use Rattle.rules.specs.declared.halts.Halt.TheVariants.{Throw, Refused}

record Counted : Type 0 where
  -- only what was granted counts, and each refusal by its own number
  forwards : grants forward (forward ∷ back ∷ back ∷ forward ∷ forward ∷ []) ((Ok tt) ∷ (Ok tt) ∷ Err (Refused Refusal.NothingToTakeBack) ∷ (Ok tt) ∷ (Err Throw) ∷ []) ≡ 2
  backs : grants back (forward ∷ back ∷ back ∷ forward ∷ forward ∷ []) ((Ok tt) ∷ (Ok tt) ∷ Err (Refused Refusal.NothingToTakeBack) ∷ (Ok tt) ∷ (Err Throw) ∷ []) ≡ 1
  fourteens : refusals 14 (Err (Refused Refusal.LogEntry) ∷ (Ok tt) ∷ Err (Refused Refusal.NothingToTakeBack) ∷ (Err Throw) ∷ Err (Refused Refusal.LogEntry) ∷ []) ≡ 2

counted : Counted
unfolding grants refusals
counted = record { forwards = refl; backs = refl; fourteens = refl }

-- demand 3 speaks of every accepted load of bytes: its premise holds of what the load left
left_by : (sheet slots kinds words : List ℕ) → ((i : ℕ) → u8 sheet i < 256) → (load_of sheet slots kinds words).loaded.answer ≡ Ok tt
    → LeftBy sheet (loaded_method sheet (load_of sheet slots kinds words)) (load_of sheet slots kinds words).loaded.state (load_of sheet slots kinds words).slots
left_by sheet slots kinds words b a =
    record { bytes = b; slots₀ = slots; kinds₀ = kinds; words₀ = words; accepted = a; same_method = refl; same_state = refl; same_slots = refl }
