-- `less` of an int meets its contract. Assumes nothing.
use Rattle.std.specs.Int.{w32}
use Rattle.integers.specs.Widths.{number}
use Rattle.integers.proofs.Signed.{less}
use Rattle.integers.proofs.int.U32Integer.less.Goals as goal

pub returns : goal.returns
unfolding number
returns c = less w32 c.args.self c.ranges.self.fits c.cast_signed.ensures c.args.other c.ranges.other.fits c.cast_signed-2.ensures
