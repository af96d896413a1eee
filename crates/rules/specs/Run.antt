-- A run: at most budget ordinary steps, without history. Assumes nothing.
use Rattle.std.specs.Prelude.{ℕ, zero, suc, ◌<◌, ◌≡◌, List, length, Ok, Err, Some, None, Option}
use Rattle.rules.specs.declared.states.State.{State}
use Rattle.rules.specs.Check.{Check}
use Rattle.rules.specs.Questions.{frame_check}
use Rattle.rules.specs.Step.{Machine, decide_on, moved, written, cleared}
use Rattle.rules.specs.declared.halts.Halt.TheVariants.{Refused}
use Rattle.rules.specs.Decisions.{Decision, End}
use Rattle.rules.specs.declared.refusals.Refusal.{Refusal}

pub record Ran : Type 0 where
  pub state : State
  pub steps : ℕ
  pub end : End
  pub slots : List ℕ

-- the state without its count, which no step looks at
abbrev pub uncounted : State → State
uncounted s = moved s s.pc s.depth 0

abbrev pub ends : State → List ℕ → ℕ → End → Ran
ends s slots n e = record { state = uncounted s; steps = n; end = e; slots = slots }

-- n steps are taken already; with no budget left there is no further look
unfoldable pub run_from : Machine → ℕ → ℕ → State → List ℕ → Ran
run_from x zero n s slots = ends s slots n None
run_from x (suc b) n s slots =
    let d = decide_on x s slots in
    elim d.decision [
      | Ok u ↦ run_from x b (suc n) (moved s u.pc u.depth 0) (cleared s d.scratch (written u slots))
      | Err h ↦ ends s (cleared s d.scratch slots) n (Some h)
    ]

-- questions 1 to 3 come first, also with budget 0: refused there, it gives the state that it got
abbrev pub run_by : Machine → ℕ → State → List ℕ → Check (Unit {0}) → Ran
run_by x budget s slots (Ok t) = run_from x budget 0 s slots
run_by x budget s slots (Err k) = record { state = s; steps = 0; end = Some (Refused k); slots = slots }

unfoldable pub run_of : Machine → ℕ → State → List ℕ → Ran
run_of x budget s slots = run_by x budget s slots (frame_check x.runs s (length slots))

-- ---- a run's account of itself

-- the state and the slots after n ordinary steps without history, if that many can be taken
unfoldable pub steps_of : Machine → ℕ → State → List ℕ → Option (State × List ℕ)
steps_of x zero s slots = Some (s, slots)
steps_of x (suc n) s slots =
    let d = decide_on x s slots in
    elim d.decision [
      | Ok u ↦ steps_of x n (moved s u.pc u.depth 0) (cleared s d.scratch (written u slots))
      | Err h ↦ None
    ]

-- what a decision that is not ordinary ends a run with
abbrev pub end_by : Decision → Option End
end_by (Ok u) = None
end_by (Err h) = Some (Some h)

-- how a run ended whose steps led to these slots: with its budget used up, or as is decided where it stands, which may have taken scratch
pub data Ended (x : Machine) (budget : ℕ) (slots : List ℕ) (r : Ran) : Type 0 where
  stopped : r.steps ≡ budget → r.end ≡ None → r.slots ≡ slots → Ended x budget slots r
  ended : r.steps < budget → end_by (decide_on x r.state slots).decision ≡ Some r.end → r.slots ≡ cleared r.state (decide_on x r.state slots).scratch slots → Ended x budget slots r

-- questions 1 to 3 refuse it and nothing changes; or its steps lead from the given state to the one it gives, where it ended
pub data Account (x : Machine) (budget : ℕ) (s : State) (slots : List ℕ) (r : Ran) : Type 0 where
  refused_first : (k : Refusal) → frame_check x.runs s (length slots) ≡ Err k → r ≡ record { state = s; steps = 0; end = Some (Refused k); slots = slots } → Account x budget s slots r
  walked : (after : List ℕ) → frame_check x.runs s (length slots) ≡ Ok tt → steps_of x r.steps (uncounted s) slots ≡ Some (r.state, after) → Ended x budget after r → Account x budget s slots r
