-- `write_update` meets its contract. Assumes nothing.
use native.Mathlib.Omega.{arith}
use Rattle.frame.proofs.Parts.{one_written}
use Rattle.frame.proofs.words.write_update.Goals as goal

pub returns-then-u-eq1 : goal.returns-then-u-eq1
returns-then-u-eq1 c = let a = c.args in
    rw c.if-u-eq1.true (one_written a.target.now a.at a.u.words.w0 (omega arith))
