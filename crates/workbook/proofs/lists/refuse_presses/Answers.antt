-- `refuse_presses` meets its contract. Assumes nothing.
use native.Mathlib.Omega.{arith}
use mathlib.Core.List.{[], ◌∷◌}
use Rattle.rules.specs.Lent.{lent}
use Rattle.rules.specs.Sheet.{loaded_state}
use Rattle.workbook.proofs.ManyPresses.{no_room, list_refused}
use Rattle.workbook.proofs.lists.refuse_presses.Goals as goal

pub returns : goal.returns
returns c = let a = c.args in
    let l = lent a.method.now in
    let k = list_refused l (loaded_state 1 1 0) (0 ∷ []) (no_room l (loaded_state 1 1 0) (0 ∷ []) (omega arith)) a.bytes.now a.log.now a.answers.now c.requires _ (rw c.loaded_state.ensures at c.presses.ensures.answers_after) in
    record { log_unchanged = k.0; answers_after = k.1 }
