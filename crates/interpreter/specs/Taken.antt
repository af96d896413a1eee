-- What steps and a run give, with the slots that they leave, as the rules have it. Assumes nothing.
use Rattle.std.specs.Prelude.{ℕ, List, Ok, Err, Some, None}
use Rattle.rules.specs.declared.states.State.{State}
use Rattle.rules.specs.Step as step
use Rattle.rules.specs.Run as run
use Rattle.return_types.specs.Settled.{settled}
use Rattle.interpreter.specs.Advance as advance
use Rattle.interpreter.specs.declared.advancing.Reached.{Reached}
use Rattle.interpreter.specs.declared.stepping.Stepped.{Stepped}
use Rattle.interpreter.specs.declared.running.Ran.{Ran}
use Rattle.rules.specs.Decisions.{Decision, End}

-- once question 32 is asked of the decision
abbrev pub reached : Reached → List ℕ → advance.Reached
reached r slots = advance.stands r.state r.steps slots (settled r.state.return_type r.decision)

abbrev pub stepped : Stepped → List ℕ → step.Stepped
stepped r slots = record { state = r.state; decision = r.decision; slots = slots }

abbrev pub ran : Ran → List ℕ → run.Ran
ran r slots = record { state = r.state; steps = r.steps; end = r.end; slots = slots }

-- for the private functions of the run: what a decision that is not ordinary ends it with, and where it stands then
abbrev pub end_of : Decision → End
end_of (Ok u) = None
end_of (Err h) = Some h

abbrev pub ended_at : State → ℕ → End → Ran
ended_at s steps e = record { state = run.uncounted s; steps = steps; end = e }
