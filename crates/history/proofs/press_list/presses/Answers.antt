-- `presses` meets its contract. Assumes nothing.
use native.Mathlib.Omega.{arith}
use Rattle.rules.specs.Lent.{lent}
use mathlib.Core.Path.{refl}
use Rattle.history.proofs.Replays.{made, too_short}
use Rattle.history.proofs.press_list.presses.Goals as goal

pub returns-then-answers-bytes : goal.returns-then-answers-bytes
returns-then-answers-bytes c = let a = c.args in
    let l = lent a.method.now in
    let k = too_short l a.bytes.now a.s a.slots.now a.log.now a.answers.now _ (omega (arith, c.if-answers-bytes.true)) refl in
    record { answers_after = k.0; from_any_load = k.1 }

pub returns : goal.returns
returns c = let a = c.args in
    let l = lent a.method.now in
    let k = made l a.bytes.now a.s a.slots.now a.log.now a.answers.now _ (omega (arith, c.if-answers-bytes.false)) c.make_presses.ensures in
    record { answers_after = k.0; from_any_load = k.1 }
