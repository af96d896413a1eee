-- `step` meets its contract. Assumes nothing.
use mathlib.Core.Path.{ap}
use Rattle.rules.specs.Lent.{lent}
use Rattle.return_types.specs.Settled.{settled}
use Rattle.interpreter.proofs.Steps.{settled_other, settled_there, legal_there}
use Rattle.interpreter.proofs.Taken.{step_ordinary, step_other}
use Rattle.interpreter.proofs.stepping.step.Goals as goal

pub returns-in_default : goal.returns-in_default
returns-in_default c = let a = c.args in
    let l = lent a.method.now in
    let r = c.advance-reached in
    rw (c.settle.ensures, settled_there l a.s a.slots.now _ r.ensures r.result.decision)
    (step_other l a.s a.slots.now _ r.ensures (settled_other r.result.state.return_type r.result.decision (_, c.in_default.is)))

pub take-state-requires : goal.take-state-requires
take-state-requires c = let a = c.args in
    let l = lent a.method.now in
    let k = legal_there l a.s a.slots.now _ c.advance-reached.ensures _ (ap (settled _) c.in-Ok.is) in
    (k.few, k.within, k.frame_there.room)

pub returns : goal.returns
returns c = let a = c.args in
    let l = lent a.method.now in
    rw (c.take-state.ensures.state_after, c.take-state.ensures.slots_after) (step_ordinary l a.s a.slots.now _ c.advance-reached.ensures _ (ap (settled _) c.in-Ok.is))
