-- `press` meets its contract. Assumes nothing.
use Rattle.rules.proofs.Replay.{forward_byte}
use Rattle.rules.specs.Walk.{press_of}
use Rattle.history.proofs.press_list.press.Goals as goal

pub returns-then-byte-eq0 : goal.returns-then-byte-eq0
unfolding press_of
returns-then-byte-eq0 c = rw c.if-byte-eq0.true (c.back.ensures _)

pub returns : goal.returns
unfolding press_of
returns c = let a = c.args in
    rw (forward_byte a.byte c.if-byte-eq0.false) c.forward.ensures
