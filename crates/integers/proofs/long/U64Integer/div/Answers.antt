-- `div` of a long meets its contract. Assumes nothing.
use Rattle.std.specs.Int.{w64}
use Rattle.integers.specs.Widths.{number, low_bits}
use Rattle.integers.proofs.Signed.{quotient}
use Rattle.integers.proofs.long.U64Integer.div.Goals as goal

pub returns : goal.returns
unfolding number low_bits
returns c = quotient w64 c.args.self c.ranges.self.fits c.cast_signed.ensures c.args.divisor c.ranges.divisor.fits c.cast_signed-2.ensures c.wrapping_div.ensures c.cast_unsigned.ensures
