-- `nearest` meets its contract: 0, or the digits moved up and rounded. Assumes nothing.
use Rattle.std.proofs.Common.{arith}
use Rattle.conversions.proofs.Nearest.{rounded_zero, nearest_is}
use Rattle.conversions.proofs.rounding.nearest.Goals as goal

pub returns-then-m-eq0 : goal.returns-then-m-eq0
returns-then-m-eq0 g c = rw c.if-m-eq0.true (rounded_zero g.F.Format.format c.args.place c.args.low)

pub returns : goal.returns
returns g c =
    rw (c.min.ensures, c.from.ensures, c.hidden.ensures, c.infinity.ensures, c.saturating_sub-exponent.ensures, c.low.ensures, c.digits-dropped.ensures)
    (nearest_is g.F.Format.format c.args.m c.args.place c.args.low (omega arith) c.ranges.m.fits c.nearest_quotient-digits.result
    (rw (c.saturating_sub.ensures, c.low.ensures, c.digits-dropped.ensures) at c.nearest_quotient-digits.ensures))
