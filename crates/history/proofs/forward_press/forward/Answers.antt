-- `forward` meets its contract. Assumes nothing.
use mathlib.Core.Path.{ap, ◌∙◌}
use Rattle.rules.specs.Lent.{lent}
use Rattle.return_types.specs.Settled.{settled}
use Rattle.interpreter.proofs.Steps.{settled_other, settled_there, legal_there}
use Rattle.history.proofs.Forwards.{forward_there, forward_other}
use Rattle.history.proofs.forward_press.forward.Goals as goal

pub returns-in-Err : goal.returns-in-Err
returns-in-Err c = let a = c.args in
    let l = lent a.method.now in
    let r = c.advance-reached in
    rw (c.pressed_by.ensures, c.settle.ensures, settled_there l a.s a.slots.now _ r.ensures r.result.decision)
    (forward_other l a.s a.slots.now a.log.now _ r.ensures (settled_other r.result.state.return_type r.result.decision (_, c.in-Err.is)))

pub grant-requires : goal.grant-requires
grant-requires c = let a = c.args in
    let l = lent a.method.now in
    let k = legal_there l a.s a.slots.now _ c.advance-reached.ensures _ (ap (settled _) c.in-Ok.is) in
    (k.few, k.within, k.frame_there.room)

pub returns-in-Ok : goal.returns-in-Ok
returns-in-Ok c = let a = c.args in
    let l = lent a.method.now in
    c.grant.ensures ∙ forward_there l a.s a.slots.now a.log.now _ c.advance-reached.ensures _ (ap (settled _) c.in-Ok.is)
