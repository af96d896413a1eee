-- `rem` of a long meets its contract. Assumes nothing.
use Rattle.std.specs.Int.{w64}
use Rattle.integers.specs.Widths.{number, low_bits}
use Rattle.integers.proofs.Signed.{remainder}
use Rattle.integers.proofs.long.U64Integer.rem.Goals as goal

pub returns : goal.returns
unfolding number low_bits
returns c = remainder w64 c.args.self c.ranges.self.fits c.cast_signed.ensures c.args.divisor c.ranges.divisor.fits c.cast_signed-2.ensures c.wrapping_rem.ensures c.cast_unsigned.ensures
