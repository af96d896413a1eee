-- Calls that are made, by what the library's functions gave and wrote. Assumes nothing.
use Prim.Native.Nat.{ℕ, ◌≤◌}
use mathlib.Core.Path.{◌≡◌, refl}
use mathlib.Core.List.{List, []}
use lib.ListN.{length}
use lib.Dec.{leb}
use borrow.Author.Tests.{le-leb}
use Rattle.rules.specs.declared.states.State.{State}
use Rattle.rules.specs.declared.Answer.{Answer}
use Rattle.rules.specs.Check.{◌else◌, ◌>>◌}
use Rattle.rules.specs.Questions.{Method}
use Rattle.rules.specs.Step.{Machine, step_of}
use Rattle.rules.specs.Run.{run_of}
use Rattle.rules.specs.History.{pressed_by, forward_of, back_of}
use Rattle.rules.specs.Answers.{decision_answer, end_answer, pressed_answer}
use Rattle.workbook.specs.StateWords.{state_in, state_size, with_state, lengths_check, sizes_check}
use Rattle.workbook.specs.Calls.{state_after, answer_after, unchanged, step_call, forward_call, back_call, with_steps, run_call}
use Rattle.std.specs.Prelude.{Ok, Err}
use Rattle.rules.specs.declared.refusals.Refusal.{Refusal}
use Rattle.rules.specs.Refusals.{number_of}
use Rattle.rules.specs.Decisions.{Decision, End, Pressed}

-- a step has the number that it has as a press
step_number : (d : Decision) → (pressed_answer (pressed_by d)).number ≡ (decision_answer d).number
step_number (Ok u) = refl
step_number (Err h) = refl

-- a press that is made: the library's function gave s and a and left the slots and the log, and s and a were left in the state and the answer
module _ (x : Machine) (slots log state answer : List ℕ) (sizes : sizes_check state ≡ Ok tt) (s : State) (a : Pressed) (number : ℕ) (after log' state' answer' : List ℕ)
    (numbered : number ≡ (pressed_answer a).number) (stated : state' ≡ state_after state s a) where
  module _ (lengths : lengths_check state answer 4 ≡ Ok tt) (answered : answer' ≡ answer_after answer a) where
    pub step_made : (d : Decision) → record { state = s; decision = d; slots = after } ≡ step_of x (state_in state) slots → a ≡ pressed_by d
        → record { number = number; slots = after; log = []; state = state'; answer = answer' } ≡ step_call x slots state answer
    unfolding step_call ◌>>◌
    step_made d e b = rw (lengths, sizes, ← e, numbered, stated, answered, b, step_number d)

    pub forward_made : record { state = s; answer = a; slots = after; log = log' } ≡ forward_of x (state_in state) slots log
        → record { number = number; slots = after; log = log'; state = state'; answer = answer' } ≡ forward_call x slots log state answer
    unfolding forward_call ◌>>◌
    forward_made e = rw (lengths, sizes, ← e, numbered, stated, answered)

  pub back_made : state_size ≤ length state → record { state = s; answer = a; slots = after; log = log } ≡ back_of x.runs (state_in state) slots log
      → record { number = number; slots = after; log = log; state = state'; answer = [] } ≡ back_call x.runs slots log state
  unfolding back_call ◌else◌ ◌>>◌
  back_made h e = rw (le-leb state_size (length state) h, sizes, ← e, numbered, stated)

-- a press that is not made
module _ (k : Refusal) where
  module _ (x : Machine) (slots log state answer : List ℕ) (e : (lengths_check state answer 4 >> sizes_check state) ≡ Err k) where
    pub step_refused : unchanged slots [] state answer (number_of k) ≡ step_call x slots state answer
    unfolding step_call
    step_refused = rw e

    pub forward_refused : unchanged slots log state answer (number_of k) ≡ forward_call x slots log state answer
    unfolding forward_call
    forward_refused = rw e

  pub back_refused : (l : Method) (slots log state : List ℕ) → ((leb state_size (length state) else Refusal.Lengths) >> sizes_check state) ≡ Err k
      → unchanged slots log state [] (number_of k) ≡ back_call l slots log state
  unfolding back_call
  back_refused l slots log state e = rw e

-- a run
module _ (x : Machine) (slots state answer : List ℕ) (budget : ℕ) where
  pub run_short : lengths_check state answer 4 ≡ Err Refusal.Lengths → unchanged slots [] state answer 1 ≡ run_call x slots state answer budget
  unfolding run_call
  run_short e = rw e

  module _ (lengths : lengths_check state answer 4 ≡ Ok tt) where
    pub run_sizes : (k : Refusal) → sizes_check state ≡ Err k → (answer' : List ℕ) → answer' ≡ with_steps answer 0 0 0
        → record { number = number_of k; slots = slots; log = []; state = state; answer = answer' } ≡ run_call x slots state answer budget
    unfolding run_call
    run_sizes k e answer' f = rw (lengths, e, f)

    pub run_made : sizes_check state ≡ Ok tt → (s : State) (steps : ℕ) (end : End) (after state' answer' : List ℕ) (e : Answer)
        → record { state = s; steps = steps; end = end; slots = after } ≡ run_of x budget (state_in state) slots → e ≡ end_answer end
        → state' ≡ with_state state s → answer' ≡ with_steps answer e.low e.high steps
        → record { number = e.number; slots = after; log = []; state = state'; answer = answer' } ≡ run_call x slots state answer budget
    unfolding run_call
    run_made sizes s steps end after state' answer' e r f g h = rw (lengths, sizes, ← r, g, h, f)
