-- `load` meets its contract. Assumes nothing.
use Rattle.std.proofs.Common.{sym}
use Rattle.rules.proofs.Sheet.{load_refused}
use Rattle.sheet.proofs.loading.load.Goals as goal

pub returns-in-Err : goal.returns-in-Err
returns-in-Err c = let a = c.args in
    rw c.refused_load.ensures (load_refused a.sheet.now a.slots.now a.kinds.now a.words.now _ (sym c.in-Err.ensures))
