-- `to_int` meets its contract: the whole part with its sign, within the range. Assumes nothing.
use Rattle.conversions.proofs.Saturation.{cut_off}
use Rattle.conversions.proofs.float_to_int.to_int.Goals as goal

pub returns : goal.returns
returns g c =
    rw (← c.number-n.ensures.same, ← cut_off g.W.Word.below g.met.W.Word.narrow g.F.Format.format c.number-n.result c.whole.result c.whole.ensures)
    (rw c.sign.ensures at c.within.ensures)
