-- `workbook_load` meets its contract. Assumes nothing.
use mathlib.Core.Path.{sym, ◌∙◌}
use Rattle.workbook.proofs.LoadedWords.{load_unread}
use Rattle.workbook.proofs.Demand3.{load_promised}
use Rattle.workbook.proofs.loads.workbook_load.Goals as goal

pub returns-in-Err : goal.returns-in-Err
returns-in-Err c = let a = c.args in
    let k = load_promised a.sheet.now a.slots.now a.kinds.now a.words.now a.state.now a.answer.now (λ i. (c.shared_slice_known-1.given i).fits) _
    (load_unread a.sheet.now a.slots.now a.kinds.now a.words.now a.state.now a.answer.now _ (sym c.check_sheet-checked.ensures ∙ c.in-Err.is)) in
    rw c.number.ensures (record { answer_after = k.0; from_this_load = k.1 })

pub returns-in-Ok : goal.returns-in-Ok
returns-in-Ok c = let a = c.args in
    let k = load_promised a.sheet.now a.slots.now a.kinds.now a.words.now a.state.now a.answer.now (λ i. (c.shared_slice_known-1.given i).fits) _ c.load_lent.ensures in
    record { answer_after = k.0; from_this_load = k.1 }
