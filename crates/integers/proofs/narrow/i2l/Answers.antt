-- `i2l` meets its contract. Assumes nothing.
use Rattle.std.proofs.Common.{lit≤}
use Rattle.std.specs.Int.{w32, w64}
use Rattle.integers.proofs.Signed.{extended}
use Rattle.integers.proofs.narrow.i2l.Goals as goal

pub returns : goal.returns
returns c = extended w32 c.args.a c.ranges.a.fits c.cast_signed.ensures w64 (lit≤ tt) c.from.ensures c.cast_unsigned.ensures
