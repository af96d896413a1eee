-- `extended8` meets its contract. Assumes nothing.
use Rattle.std.proofs.Common.{lit≤}
use Rattle.std.specs.Int.{w8, w32}
use Rattle.integers.proofs.Signed.{extended}
use Rattle.integers.proofs.narrow.extended8.Goals as goal

pub returns : goal.returns
returns c = extended w8 c.args.byte c.ranges.byte.fits c.cast_signed.ensures w32 (lit≤ tt) c.from.ensures c.cast_unsigned.ensures
