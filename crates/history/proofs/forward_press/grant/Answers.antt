-- `grant` meets its contract. Assumes nothing.
use native.Mathlib.Omega.{arith}
use Rattle.rules.proofs.History.{with_room, without_room}
use Rattle.history.proofs.forward_press.grant.Goals as goal

pub returns-then-entries-s : goal.returns-then-entries-s
returns-then-entries-s c = let a = c.args in
    without_room a.s a.slots.now a.log.now 0 a.u (omega (arith, c.if-entries-s.true, c.entries.ensures))

pub returns : goal.returns
returns c = let a = c.args in
    rw (c.moved-state.ensures, c.commit.ensures, c.write_entry.ensures)
    (with_room a.s a.slots.now a.log.now 0 a.u (omega (arith, c.if-entries-s.false, c.entries.ensures)))
