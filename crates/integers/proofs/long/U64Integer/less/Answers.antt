-- `less` of a long meets its contract. Assumes nothing.
use Rattle.std.specs.Int.{w64}
use Rattle.integers.specs.Widths.{number}
use Rattle.integers.proofs.Signed.{less}
use Rattle.integers.proofs.long.U64Integer.less.Goals as goal

pub returns : goal.returns
unfolding number
returns c = less w64 c.args.self c.ranges.self.fits c.cast_signed.ensures c.args.other c.ranges.other.fits c.cast_signed-2.ensures
