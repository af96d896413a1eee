-- `run_framed` meets its contract. Assumes nothing.
use mathlib.Core.Path.{ap}
use Rattle.rules.specs.Lent.{lent}
use Rattle.return_types.specs.Settled.{settled}
use Rattle.interpreter.proofs.Steps.{settled_other}
use Rattle.interpreter.proofs.Taken.{no_budget, legal_last, ends_stopped, ends_other}
use Rattle.interpreter.proofs.running.run_framed.Goals as goal

pub returns-then-budget-eq0 : goal.returns-then-budget-eq0
returns-then-budget-eq0 c = let a = c.args in
    let l = lent a.method.now in
    rw c.ended.ensures (no_budget l a.budget a.s a.slots.now c.if-budget-eq0.true)

pub returns-in_default : goal.returns-in_default
returns-in_default c = let a = c.args in
    let r = c.advance_framed-reached.result in
    let l = lent a.method.now in
    rw (c.ended-in_default.ensures, c.end_of-end.ensures, c.settle.ensures)
    (ends_other l a.budget a.s a.slots.now c.if-budget-eq0.false _ c.advance_framed-reached.ensures.slots_after (settled_other r.state.return_type r.decision (_, c.in_default.is)))

pub take-state-requires : goal.take-state-requires
take-state-requires c = let a = c.args in
    let l = lent a.method.now in
    let k = legal_last l a.budget a.s a.slots.now c.if-budget-eq0.false _ c.advance_framed-reached.ensures.slots_after _ (ap (settled _) c.in-Ok.is) in
    (k.few, k.within, k.frame_there.room)

pub returns : goal.returns
returns c = let a = c.args in
    let l = lent a.method.now in
    rw (c.take-state.ensures.state_after, c.take-state.ensures.slots_after) (ends_stopped l a.budget a.s a.slots.now c.if-budget-eq0.false _ c.advance_framed-reached.ensures.slots_after _ (ap (settled _) c.in-Ok.is))
