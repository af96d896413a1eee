-- `run` meets its contract. Assumes nothing.
use mathlib.Core.Path.{sym, ◌∙◌}
use Rattle.rules.specs.Lent.{lent}
use Rattle.interpreter.proofs.Taken.{accounted, refused_run, passed_run}
use Rattle.interpreter.proofs.running.run.Goals as goal

pub returns-in-Err : goal.returns-in-Err
returns-in-Err c = let a = c.args in
    let l = lent a.method.now in
    let k = accounted l a.budget a.s a.slots.now _ (refused_run l a.budget a.s a.slots.now _ (sym (c.check_frame-asked.ensures _) ∙ c.in-Err.is)) in
    record { slots_after = k.0; account = k.1 }

pub returns-in-Ok : goal.returns-in-Ok
returns-in-Ok c = let a = c.args in
    let l = lent a.method.now in
    let k = accounted l a.budget a.s a.slots.now _ (c.run_framed.ensures ∙ passed_run l a.budget a.s a.slots.now ((sym (c.check_frame-asked.ensures _) ∙ c.in-Ok.is))) in
    record { slots_after = k.0; account = k.1 }
