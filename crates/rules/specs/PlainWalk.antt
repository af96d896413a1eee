-- Stages and the plain walk (RULES, 'The plain walk'), of any machine. Assumes nothing.
use Rattle.std.specs.Prelude.{ℕ, zero, suc, ◌+◌, ◌-◌, max, cond, List, [], ◌∷◌, Ok, Err, Some, None, Option}
use Rattle.rules.specs.declared.states.State.{State}
use Rattle.rules.specs.Check.{Check, ◌<ⁿ◌}
use Rattle.rules.specs.Step.{frame, Decided, Machine, moved, written}
use Rattle.rules.specs.History.{log_check}
use Rattle.rules.specs.declared.refusals.Refusal.{Refusal}
use Rattle.rules.specs.declared.halts.Halt.TheVariants.{Refused}
use Rattle.rules.specs.Decisions.{Decision, Pressed}

-- ---- stages

-- a stage: an offset, a depth and the words of the frame
pub record Stage : Type 0 where
  pub pc : ℕ
  pub depth : ℕ
  pub frame : List ℕ

-- the stage that a state and slots stand at
abbrev pub stage_of : State → List ℕ → Stage
stage_of s slots = record { pc = s.pc; depth = s.depth; frame = frame s slots }

-- what a plain walk knows besides the presses: the machine, how many slots and log words are lent, the state that it begins with, and stage 0
pub record PlainWalk : Type 0 where
  pub machine : Machine
  pub slots : ℕ
  pub log : ℕ
  pub state : State
  pub first : Stage

-- what is decided at a stage
abbrev pub decision_at : PlainWalk → Stage → Decided
decision_at f t = f.machine.decides f.slots (moved f.state t.pc t.depth 0) t.frame

-- after an ordinary step; where the rules give a refusal or an outcome, no stage follows
abbrev pub follow_by : Stage → Decision → Option Stage
follow_by t (Ok u) = Some (record { pc = u.pc; depth = u.depth; frame = written u t.frame })
follow_by t (Err h) = None

abbrev pub next : PlainWalk → Option Stage → Option Stage
next f None = None
next f (Some t) = follow_by t (decision_at f t).decision

-- n steps after a stage
unfoldable pub stage_from : PlainWalk → Stage → ℕ → Option Stage
stage_from f t zero = Some t
stage_from f t (suc n) = next f (stage_from f t n)

abbrev pub stage : PlainWalk → ℕ → Option Stage
stage f n = stage_from f f.first n

-- ---- the plain walk: it holds one number, net

pub data Press : Type 0 where
  forward back : Press

abbrev pub check_answer : Check (Unit {0}) → Pressed
check_answer (Ok t) = (Ok tt)
check_answer (Err n) = Err (Refused n)

-- forward, by what is decided at stage net: question 11 is asked with net as the count
abbrev pub forward_answer : ℕ → ℕ → Decision → Pressed
forward_answer room net (Ok u) = check_answer (log_check net room)
forward_answer room net (Err h) = Err h

-- a plain walk's net always has its stage, so that the first clause is never met; with an Option for it each press's answer would be one too
abbrev pub decision_of : PlainWalk → Option Stage → Decision
decision_of f None = Err (Refused Refusal.Lengths)
decision_of f (Some t) = (decision_at f t).decision

-- back: granted where net is above 0, else 13
abbrev pub back_answer : ℕ → Pressed
back_answer net = cond (0 <ⁿ net) (Ok tt) (Err (Refused Refusal.NothingToTakeBack))

unfoldable pub plain_answer : PlainWalk → Press → ℕ → Pressed
plain_answer f forward net = forward_answer f.log net (decision_of f (stage f net))
plain_answer f back net = back_answer net

-- net rises by one with a granted forward, and falls by one with a granted back
abbrev pub net_after : Press → ℕ → Pressed → ℕ
net_after forward net (Ok t) = net + 1
net_after forward net (Err h) = net
net_after back net (Ok t) = net - 1
net_after back net (Err h) = net

-- the answers to a list of presses, and net after it
unfoldable pub plain_answers : PlainWalk → List Press → ℕ → List Pressed
plain_answers f [] net = []
plain_answers f (p ∷ ps) net =
    let a = plain_answer f p net in
    a ∷ plain_answers f ps (net_after p net a)

unfoldable pub plain_net : PlainWalk → List Press → ℕ → ℕ
plain_net f [] net = net
plain_net f (p ∷ ps) net = plain_net f ps (net_after p net (plain_answer f p net))

-- ---- scratch: how many slots after the frame were taken, and so are 0

abbrev pub scratch_at : PlainWalk → Option Stage → ℕ
scratch_at f None = 0
scratch_at f (Some t) = (decision_at f t).scratch

-- by the n steps after a stage
unfoldable pub scratch_from : PlainWalk → Stage → ℕ → ℕ
scratch_from f t zero = 0
scratch_from f t (suc n) = max (scratch_from f t n) (scratch_at f (stage_from f t n))

-- by a list of presses, `far` before it. Each forward counts, granted or not
abbrev pub press_scratch : PlainWalk → Press → ℕ → ℕ
press_scratch f forward net = scratch_at f (stage f net)
press_scratch f back net = 0

unfoldable pub plain_scratch : PlainWalk → List Press → ℕ → ℕ → ℕ
plain_scratch f [] net far = far
plain_scratch f (p ∷ ps) net far = plain_scratch f ps (net_after p net (plain_answer f p net)) (max far (press_scratch f p net))
