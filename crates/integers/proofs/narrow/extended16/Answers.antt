-- `extended16` meets its contract. Assumes nothing.
use Rattle.std.proofs.Common.{lit≤}
use Rattle.std.specs.Int.{w16, w32}
use Rattle.integers.proofs.Signed.{extended}
use Rattle.integers.proofs.narrow.extended16.Goals as goal

pub returns : goal.returns
returns c = extended w16 c.args.short c.ranges.short.fits c.cast_signed.ensures w32 (lit≤ tt) c.from.ensures c.cast_unsigned.ensures
