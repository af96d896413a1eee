-- `workbook_run` meets its contract. Assumes nothing.
use mathlib.Core.Path.{sym, ◌∙◌}
use Rattle.rules.proofs.Check.{is_passed_lem}
use Rattle.rules.specs.Step.{machine}
use Rattle.workbook.proofs.Checks.{lengths_no, lengths_yes}
use Rattle.workbook.proofs.StateRead.{read_yes, sizes_no}
use Rattle.workbook.proofs.Made.{run_short, run_sizes, run_made}
use Rattle.workbook.proofs.runs.workbook_run.Goals as goal

pub returns-then-not-are_lent : goal.returns-then-not-are_lent
returns-then-not-are_lent c = let a = c.args in
    let l = machine a.code.now a.kinds.now a.words.now a.handlers.now in
    rw c.number.ensures (run_short l a.slots.now a.state.now a.answer.now a.budget (lengths_no _ _ 4 (sym c.are_lent.ensures ∙ c.if-not-are_lent.true)))

pub write_steps-requires : goal.write_steps-requires
write_steps-requires c = (lengths_yes c.args.state.now c.args.answer.now 4 (sym c.are_lent.ensures ∙ c.if-not-are_lent.false)).1

pub returns-in-Err : goal.returns-in-Err
returns-in-Err c = let a = c.args in
    let l = machine a.code.now a.kinds.now a.words.now a.handlers.now in
    let lent = sym c.are_lent.ensures ∙ c.if-not-are_lent.false in
    let enough = (lengths_yes a.state.now a.answer.now 4 lent).0 in
    rw c.number-in-Err.ensures (run_sizes l a.slots.now a.state.now a.answer.now a.budget (is_passed_lem _ lent) _ (sizes_no _ enough _ c.in-Err.ensures) _ c.write_steps.ensures)

pub write_state-requires : goal.write_state-requires
write_state-requires c = (lengths_yes c.args.state.now c.args.answer.now 4 (sym c.are_lent.ensures ∙ c.if-not-are_lent.false)).0

pub write_steps-requires-2 : goal.write_steps-requires-2
write_steps-requires-2 c = (lengths_yes c.args.state.now c.args.answer.now 4 (sym c.are_lent.ensures ∙ c.if-not-are_lent.false)).1

pub returns : goal.returns
returns c = let a = c.args in
    let l = machine a.code.now a.kinds.now a.words.now a.handlers.now in
    let w = read_yes a.state.now _ c.in-Ok.ensures in
    run_made l a.slots.now a.state.now a.answer.now a.budget (is_passed_lem _ (sym c.are_lent.ensures ∙ c.if-not-are_lent.false)) w.sizes _ _ _ _ _ _ c.end_answer-end.result (rw w.is at c.run-ran.ensures.slots_after) c.end_answer-end.ensures c.write_state.ensures c.write_steps-2.ensures
