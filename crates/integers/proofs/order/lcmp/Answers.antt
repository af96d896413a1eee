-- `lcmp` meets its contract. Assumes nothing.
use Rattle.std.specs.Int.{w64}
use Rattle.integers.proofs.Signed.{compared}
use Rattle.integers.proofs.order.lcmp.Goals as goal

pub returns : goal.returns
returns c = compared w64 c.args.a c.ranges.a.fits c.cast_signed.ensures c.args.b c.ranges.b.fits c.cast_signed-2.ensures c.cmp.ensures c.order_number.ensures
