-- `check_back` meets its contract. Assumes nothing.
use native.Mathlib.Omega.{arith}
use Rattle.std.proofs.lemmas.Result.{err_from_is_err_and}
use Rattle.rules.specs.Lent.{lent, with_handlers}
use mathlib.Core.Path.{sym, ◌∙◌}
use Prim.Native.Nat.{◌-◌}
use Rattle.rules.specs.History.{entry_at, entry_check}
use Rattle.rules.proofs.Check.{is_passed_lem}
use Rattle.rules.proofs.History.{not_sound, back_frame, back_first, back_short, back_entry}
use Rattle.history.proofs.back_press.check_back.Goals as goal

pub returns-in_err-check_frame-clause-asked : goal.returns-in_err-check_frame-clause-asked
returns-in_err-check_frame-clause-asked c = λ handlers.
    let a = c.args in
    let p = err_from_is_err_and c.from_residual.result c.from_residual.ensures.1 in
    rw (p.1, p.2) (sym (back_frame (with_handlers handlers (lent a.method.now)) a.s a.slots.now a.log.now _ (sym (c.check_frame.ensures _) ∙ c.in_err-check_frame.was)))

pub returns-then-s-eq0-clause-asked : goal.returns-then-s-eq0-clause-asked
returns-then-s-eq0-clause-asked c = λ handlers.
    let a = c.args in
    let l = with_handlers handlers (lent a.method.now) in
    let f = sym (c.check_frame.ensures _) ∙ c.in_ok-check_frame.was in
    rw (back_first l a.s a.slots.now a.log.now f c.if-s-eq0.true)

pub returns-in_default-clause-asked : goal.returns-in_default-clause-asked
returns-in_default-clause-asked c = λ handlers.
    let a = c.args in
    let l = with_handlers handlers (lent a.method.now) in
    let f = sym (c.check_frame.ensures _) ∙ c.in_ok-check_frame.was in
    rw (back_short l a.s a.slots.now a.log.now f (omega arith) (omega (arith, c.in_default.ensures)))

pub returns-then-not-is_sound-clause-asked : goal.returns-then-not-is_sound-clause-asked
returns-then-not-is_sound-clause-asked c = λ handlers.
    let a = c.args in
    let l = with_handlers handlers (lent a.method.now) in
    let f = sym (c.check_frame.ensures _) ∙ c.in_ok-check_frame.was in
    let is = c.in-Some.ensures in
    rw (back_entry l a.s a.slots.now a.log.now f (omega arith) (omega (arith, is.whole)), not_sound a.method.now.code.now a.s a.log.now _ (sym (c.is_sound.ensures _ _ is) ∙ c.if-not-is_sound.true))

pub returns-clause-asked : goal.returns-clause-asked
returns-clause-asked c = λ handlers.
    let a = c.args in
    let l = with_handlers handlers (lent a.method.now) in
    let f = sym (c.check_frame.ensures _) ∙ c.in_ok-check_frame.was in
    let is = c.in-Some.ensures in
    rw (back_entry l a.s a.slots.now a.log.now f (omega arith) (omega (arith, is.whole)), is_passed_lem (entry_check a.method.now.code.now a.s a.log.now (entry_at (a.s.count - 1))) (sym (c.is_sound.ensures _ _ is) ∙ c.if-not-is_sound.false))
