-- `word_of` meets its contract: what differs from itself is the NaN, and any other has its own word. Assumes nothing.
use Rattle.std.proofs.Common.{◌≡◌, true, not, ◌∙◌}
use lib.Ieee.{eq, ne}
use Rattle.floats.proofs.NaNs.{nan_stored}
use Rattle.floats.proofs.arithmetic.word_of.Goals as goal

pub returns-then-ne : goal.returns-then-ne
unfolding ne
returns-then-ne g c =
    let v = g.F.Arithmetic.value c.args.x in
    let same = g.met.F.Arithmetic.ieee.equates c.args.x c.args.x in
    let differs : not (eq v v) ≡ true = cc in
    c.nan.ensures ∙ nan_stored g.F.Format.format v differs
