-- `moved_remainder` meets its contract. Assumes nothing.
use Rattle.floats.proofs.UnitWords.{moved_on}
use Rattle.floats.proofs.remainder.moved_remainder.Goals as goal

pub loop-preserved : goal.loop-preserved
loop-preserved c = moved_on c.args.m c.args.n c.loop.counter c.loop.rest c.loop.invariant
