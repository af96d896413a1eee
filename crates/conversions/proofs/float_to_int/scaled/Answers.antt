-- `scaled` meets its contract: a shift down, a shift up that does not wrap, or the end 2 ^ 63. Assumes nothing.
use mathlib.Core.Path.{◌∙◌}
use native.Mathlib.Nat.{mod-eq_of_lt, lt_of_lt_of_le}
use lib.Dec.{lit≤}
use Rattle.conversions.proofs.WholePart.{scaled_down, scaled_away, scaled_lt, scaled_up, scaled_over}
use Rattle.conversions.proofs.float_to_int.scaled.Goals as goal

pub returns-then-down-up-lt64 : goal.returns-then-down-up-lt64
returns-then-down-up-lt64 c = let at = c.before.before in
    scaled_down at.args.m at.args.up at.args.down at.requires.1 c.if-up-down.true

pub returns-else-down-up-lt64 : goal.returns-else-down-up-lt64
returns-else-down-up-lt64 c = let at = c.before.before in
    scaled_away at.args.m at.args.up at.args.down at.requires.1 c.if-up-down.true c.if-down-up-lt64.false

pub returns-then-up-down-2 : goal.returns-then-up-down-2
returns-then-up-down-2 c = let at = c.before.before in
    mod-eq_of_lt (lt_of_lt_of_le (scaled_lt at.args.m at.args.up at.args.down at.requires.0 at.ranges.m.fits c.if-up-down.false c.if-up-down-2.true) (lit≤ tt))
    ∙ scaled_up at.args.m at.args.up at.args.down at.requires.0 at.ranges.m.fits c.if-up-down.false c.if-up-down-2.true

pub returns-else-up-down-2 : goal.returns-else-up-down-2
returns-else-up-down-2 c = let at = c.before.before in
    scaled_over at.args.m at.args.up at.args.down at.requires.0 at.ranges.m.fits c.if-up-down.false c.if-up-down-2.false
