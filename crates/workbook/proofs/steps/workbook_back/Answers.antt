-- `workbook_back` meets its contract. Assumes nothing.
use mathlib.Core.List.{[]}
use Rattle.rules.specs.Questions.{method}
use Rattle.rules.specs.Step.{core_machine}
use Rattle.workbook.proofs.StateRead.{read_yes, read_no}
use Rattle.workbook.proofs.Made.{back_made, back_refused}
use Rattle.workbook.proofs.steps.workbook_back.Goals as goal

pub returns-in-Err : goal.returns-in-Err
returns-in-Err c = λ handlers.
    let a = c.args in
    let l = method a.code.now a.kinds.now a.words.now handlers in
    rw c.number.ensures (back_refused _ l a.slots.now a.log.now a.state.now (read_no _ _ c.in-Err.ensures))

pub leave-requires : goal.leave-requires
leave-requires c = (read_yes c.args.state.now _ c.in-Ok.ensures).enough

pub returns : goal.returns
returns c = λ handlers.
    let a = c.args in
    let l = method a.code.now a.kinds.now a.words.now handlers in
    let w = read_yes a.state.now _ c.in-Ok.ensures in
    back_made (core_machine l) a.slots.now a.log.now a.state.now [] w.sizes _ _ _ _ a.log.now _ [] c.leave.ensures.value c.leave.ensures.state_after w.enough (rw w.is at (c.back-press.ensures handlers))
