-- `within` meets its contract: a size without a sign, none, and one with a sign. Assumes nothing.
use Rattle.std.proofs.Common.{◌∙◌}
use Rattle.conversions.proofs.Saturation.{plus, minus_zero, minus}
use Rattle.conversions.proofs.float_to_int.within.Goals as goal

pub returns-then-not-negative : goal.returns-then-not-negative
returns-then-not-negative g c =
    c.of_number.ensures ∙ plus g.W.Word.below c.args.negative c.args.size c.min.result c.if-not-negative.true (rw c.sign-sign.ensures at c.min.ensures)

pub returns-then-kept-eq0 : goal.returns-then-kept-eq0
returns-then-kept-eq0 g c =
    c.of_number-then-kept-eq0.ensures
    ∙ minus_zero g.W.Word.below c.args.negative c.args.size c.min-kept.result c.if-not-negative.false (rw c.sign-sign.ensures at c.min-kept.ensures) c.if-kept-eq0.true

pub returns-else-kept-eq0 : goal.returns-else-kept-eq0
returns-else-kept-eq0 g c =
    c.of_number-else-kept-eq0.ensures
    ∙ rw c.sign-sign.ensures
    (minus g.W.Word.below c.args.negative c.args.size c.min-kept.result c.if-not-negative.false (rw c.sign-sign.ensures at c.min-kept.ensures) c.if-kept-eq0.false)
