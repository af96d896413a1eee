-- Questions 6 to 8 from an entry of the table, and where an instruction then stands on the stack. Assumes nothing.
use Rattle.std.specs.Prelude.{ℕ, ◌+◌, ◌-◌, Bool, ◌||◌, Ok, Err}
use Rattle.rules.specs.declared.states.State.{State}
use Rattle.rules.specs.Check.{Check, ◌else◌, ◌>>◌, ◌≤ⁿ◌, ◌=ⁿ◌}
use Rattle.instructions.specs.declared.forms.Entry.{Entry}
use Rattle.frame.specs.declared.places.Placed.{Placed}
use Rattle.rules.specs.declared.refusals.Refusal.{Refusal}

-- all places of a local are below the limit; a local of no places is none
abbrev pub local_there : ℕ → ℕ → ℕ → Bool
local_there places index limit = (places =ⁿ 0) || (index + places ≤ⁿ limit)

unfoldable pub place_check : Entry → ℕ → State → Check (Unit {0})
place_check entry index s = do
  entry.pops ≤ⁿ s.depth else Refusal.StackUnderflow
  s.depth - entry.pops + entry.pushes ≤ⁿ s.max_stack else Refusal.StackOverflow
  local_there entry.locals index s.max_locals else Refusal.Local

-- the first place on the stack, counted from the first local, and the new depth
abbrev pub answer : Entry → State → Check (Unit {0}) → Check Placed
answer entry s (Ok t) = Ok (record { base = s.max_locals + (s.depth - entry.pops); depth = s.depth - entry.pops + entry.pushes })
answer entry s (Err n) = Err n

unfoldable pub place_of : Entry → ℕ → State → Check Placed
place_of entry index s = answer entry s (place_check entry index s)
