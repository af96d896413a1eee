-- `write_entry` meets its contract. Assumes nothing.
use native.Mathlib.Omega.{arith}
use Rattle.history.proofs.Entries.{recorded}
use Rattle.history.proofs.undo_log.write_entry.Goals as goal

pub returns : goal.returns
returns c = let a = c.args in
    let u = a.u in
    rw c.write_words.ensures (recorded a.slots.now a.log.now _ a.s.pc a.s.depth u.first u.many _ c.requires.0.0 (omega arith) c.copy_from_slice.ensures.after)
