-- `workbook_presses` meets its contract. Assumes nothing.
use native.Mathlib.Omega.{arith}
use Rattle.rules.specs.Questions.{method}
use Rattle.rules.specs.Step.{core_machine}
use mathlib.Core.Path.{refl}
use Rattle.workbook.proofs.StateRead.{read_yes, sizes_no}
use Rattle.workbook.proofs.ManyPresses.{few_answers, few_state, no_state, list_made, never_refused}
use Rattle.workbook.proofs.Demand3.{list_promised}
use Rattle.workbook.proofs.lists.workbook_presses.Goals as goal
use Rattle.workbook.proofs.lists.workbook_presses.Goals.{then-answers-bytes-via-then-answers-bytes, then-answers-bytes-via-else-answers-bytes+then-state-lt-STATE_WORDS}

pub returns-then-answers-bytes : goal.returns-then-answers-bytes
returns-then-answers-bytes c = let a = c.args in
    let l = method a.code.now a.kinds.now a.words.now a.handlers.now in
    let k = list_promised l a.slots.now a.log.now a.state.now a.bytes.now a.answers.now _ (elim c.then-answers-bytes.branch [
      | then-answers-bytes-via-then-answers-bytes w ↦ few_answers (core_machine l) a.slots.now a.log.now a.state.now a.bytes.now a.answers.now (omega (arith, w.if-answers-bytes.true))
      | then-answers-bytes-via-else-answers-bytes+then-state-lt-STATE_WORDS w ↦
          few_state (core_machine l) a.slots.now a.log.now a.state.now a.bytes.now a.answers.now (omega (arith, w.if-answers-bytes.false)) w.if-state-lt-STATE_WORDS.true
    ]) in
    rw c.number.ensures (record { answers_after = k.0; from_any_load_call = k.1 })

pub returns-in_default : goal.returns-in_default
returns-in_default c = let a = c.args in
    let l = method a.code.now a.kinds.now a.words.now a.handlers.now in
    let k = list_promised l a.slots.now a.log.now a.state.now a.bytes.now a.answers.now _
    (no_state (core_machine l) a.slots.now a.log.now a.state.now a.bytes.now a.answers.now (omega (arith, c.if-answers-bytes.false)) c.if-state-lt-STATE_WORDS.false _ (sizes_no _ c.if-state-lt-STATE_WORDS.false _ c.in_default.ensures) _ _ c.refuse_presses.ensures.log_unchanged c.refuse_presses.ensures.answers_after) in
    record { answers_after = k.0; from_any_load_call = k.1 }

pub returns-in-Ok-made : goal.returns-in-Ok-made
returns-in-Ok-made c = let a = c.args in
    let l = method a.code.now a.kinds.now a.words.now a.handlers.now in
    let w = read_yes a.state.now _ c.in-Ok.ensures in
    let k = list_promised l a.slots.now a.log.now a.state.now a.bytes.now a.answers.now _
    (list_made (core_machine l) a.slots.now a.log.now a.state.now a.bytes.now a.answers.now (omega (arith, c.if-answers-bytes.false)) w.enough w.sizes _ _ _ _ _ _ (rw (w.is, c.in-Ok-made.is) at c.presses-made.ensures.answers_after) c.write_state.ensures) in
    record { answers_after = k.0; from_any_load_call = k.1 }

pub returns-in-Err : goal.returns-in-Err
returns-in-Err c = let a = c.args in
    let l = method a.code.now a.kinds.now a.words.now a.handlers.now in
    absurd (never_refused (core_machine l) a.bytes.now _ _ _ a.answers.now (omega (arith, c.if-answers-bytes.false)) _ _ (rw c.in-Err.is at c.presses-made.ensures.answers_after) refl)
