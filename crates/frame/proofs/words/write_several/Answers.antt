-- `write_several` meets its contract. Assumes nothing.
use native.Mathlib.Omega.{arith}
use Rattle.frame.proofs.Parts.{two_written}
use Rattle.frame.proofs.words.write_several.Goals as goal

pub returns-then-u-eq2 : goal.returns-then-u-eq2
returns-then-u-eq2 c = let a = c.args in
    rw c.if-u-eq2.true (two_written a.target.now a.at a.u.words.w0 a.u.words.w1 (omega arith))
