-- `read_state` meets its contract. Assumes nothing.
use Rattle.std.proofs.lemmas.Result.{err_from_is_err_and}
use Rattle.workbook.proofs.StateRead.{state_short, stack_no, locals_no, sizes_read}
use Rattle.workbook.proofs.state_words.read_state.Goals as goal

pub returns-then-state-lt-STATE_WORDS : goal.returns-then-state-lt-STATE_WORDS
returns-then-state-lt-STATE_WORDS c = state_short _ c.if-state-lt-STATE_WORDS.true

pub returns-in_err-max_stack : goal.returns-in_err-max_stack
returns-in_err-max_stack c = let e = err_from_is_err_and c.from_residual.result c.from_residual.ensures.1 in
    rw (e.1, e.2) (stack_no _ c.if-state-lt-STATE_WORDS.false _ c.in_err-max_stack.ensures)

pub returns-in_err-max_locals : goal.returns-in_err-max_locals
returns-in_err-max_locals c = let e = err_from_is_err_and c.from_residual-in_err-max_locals.result c.from_residual-in_err-max_locals.ensures.1 in
    rw (e.1, e.2) (locals_no _ c.if-state-lt-STATE_WORDS.false _ _ c.in_ok-max_stack.ensures c.in_err-max_locals.ensures)

pub returns : goal.returns
returns c = rw c.join_words.ensures (sizes_read _ c.if-state-lt-STATE_WORDS.false _ _ c.in_ok-max_stack.ensures c.in_ok-max_locals.ensures)
