-- `nearest_quotient` meets its contract where the fraction is below a half. Assumes nothing.
use Rattle.std.proofs.Common.{◌≤◌, ◌^◌, sym, arith}
use lib.Pow.{pow_mono}
use Rattle.conversions.proofs.Quotients.{closest_zero}
use Rattle.conversions.proofs.rounding.nearest_quotient.Goals as goal

pub returns-then-shift-gt64 : goal.returns-then-shift-gt64
returns-then-shift-gt64 c = let p : 2 ^ 65 ≤ 2 ^ c.args.shift = pow_mono {i = 65} {j = c.args.shift} (omega arith) in
    sym (closest_zero c.args.m (2 ^ c.args.shift) (omega arith) (omega arith))
