-- Ordinary steps without history, and what the rules decide where they end. Assumes nothing.
use Rattle.std.specs.Prelude.{ℕ, zero, suc, List, Ok, Err}
use Rattle.rules.specs.declared.states.State.{State}
use Rattle.rules.specs.Questions.{Method}
use Rattle.rules.specs.Step.{decide_of, moved, written}
use Rattle.rules.specs.Decisions.{Decision}

-- the state and the slots that steps led to, how many they were, and the decision of the next
pub record Reached : Type 0 where
  pub state : State
  pub steps : ℕ
  pub decision : Decision
  pub slots : List ℕ

abbrev pub stands : State → ℕ → List ℕ → Decision → Reached
stands s n slots d = record { state = s; steps = n; decision = d; slots = slots }

-- at most so many steps, n being taken already: fewer where the rules decide otherwise
unfoldable pub advance_from : Method → ℕ → ℕ → State → List ℕ → Reached
advance_from l zero n s slots = stands s n slots (decide_of l s slots)
advance_from l (suc most) n s slots =
    elim (decide_of l s slots) [
      | Ok u ↦ advance_from l most (suc n) (moved s u.pc u.depth 0) (written u slots)
      | Err h ↦ stands s n slots (Err h)
    ]
