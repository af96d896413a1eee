-- `workbook_step` meets its contract. Assumes nothing.
use native.Mathlib.Omega.{arith}
use Prim.Native.Nat.{◌≤◌}
use mathlib.Core.List.{[]}
use lib.ListN.{length}
use Rattle.rules.specs.Step.{machine}
use Rattle.workbook.proofs.StateRead.{lent_yes, lent_no}
use Rattle.workbook.proofs.Made.{step_made, step_refused}
use Rattle.workbook.proofs.steps.workbook_step.Goals as goal

pub returns-in-Err : goal.returns-in-Err
returns-in-Err c = let a = c.args in
    let l = machine a.code.now a.kinds.now a.words.now a.handlers.now in
    rw c.number.ensures (step_refused _ l a.slots.now [] a.state.now a.answer.now (lent_no _ _ _ c.in-Err.ensures))

pub leave_value-requires : goal.leave_value-requires
leave_value-requires c = let w = lent_yes c.args.state.now c.args.answer.now _ c.in-Ok.ensures in
    let two : 2 ≤ length c.args.answer.now = omega (arith, w.room) in
    two

pub leave-requires : goal.leave-requires
leave-requires c = (lent_yes c.args.state.now c.args.answer.now _ c.in-Ok.ensures).enough

pub returns : goal.returns
returns c = let a = c.args in
    let l = machine a.code.now a.kinds.now a.words.now a.handlers.now in
    let w = lent_yes a.state.now a.answer.now _ c.in-Ok.ensures in
    step_made l a.slots.now [] a.state.now a.answer.now w.sizes _ _ _ _ [] _ _ c.leave.ensures.value c.leave.ensures.state_after w.lengths c.leave_value.ensures _ (rw w.is at c.step-stepped.ensures) c.pressed_by-a.ensures
