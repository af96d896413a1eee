-- `rem` of an int meets its contract. Assumes nothing.
use Rattle.std.specs.Int.{w32}
use Rattle.integers.specs.Widths.{number, low_bits}
use Rattle.integers.proofs.Signed.{remainder}
use Rattle.integers.proofs.int.U32Integer.rem.Goals as goal

pub returns : goal.returns
unfolding number low_bits
returns c = remainder w32 c.args.self c.ranges.self.fits c.cast_signed.ensures c.args.divisor c.ranges.divisor.fits c.cast_signed-2.ensures c.wrapping_rem.ensures c.cast_unsigned.ensures
