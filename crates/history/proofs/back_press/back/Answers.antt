-- `back` meets its contract. Assumes nothing.
use Rattle.rules.specs.Lent.{lent, with_handlers}
use mathlib.Core.Path.{sym, ap, ◌∙◌}
use mathlib.Core.List.{[]}
use Rattle.rules.proofs.History.{back_by_lem, back_passed}
use Rattle.history.specs.Left.{asked}
use Rattle.history.proofs.Entries.{old_many}
use Rattle.history.proofs.back_press.back.Goals as goal

pub restore-state-requires : goal.restore-state-requires
restore-state-requires c = let a = c.args in
    let l = with_handlers [] (lent a.method.now) in
    let asks = c.check_back-asked.ensures in
    let b = back_passed l a.s a.slots.now a.log.now (sym (asks.asked []) ∙ ap asked c.in-Ok.is) in
    let is = asks.is_entry _ c.in-Ok.is in
    record { count_nonzero = b.some; count_bound = old_many _ _ _ is (rw is.many b.few); count_in_bounds = rw (is.first, is.many) b.within }

pub returns-in-Err : goal.returns-in-Err
returns-in-Err c = λ handlers.
    let a = c.args in
    let l = with_handlers handlers (lent a.method.now) in
    sym (back_by_lem l a.s a.slots.now a.log.now _ (sym (c.check_back-asked.ensures.asked handlers) ∙ ap asked c.in-Err.is))

pub returns-in-Ok : goal.returns-in-Ok
returns-in-Ok c = λ handlers.
    let a = c.args in
    let l = with_handlers handlers (lent a.method.now) in
    let asks = c.check_back-asked.ensures in
    c.restore-state.ensures _ (asks.is_entry _ c.in-Ok.is) ∙ sym (back_by_lem l a.s a.slots.now a.log.now _ (sym (asks.asked handlers) ∙ ap asked c.in-Ok.is))
