-- `neg` meets its contract: the sign is the highest bit. Assumes nothing.
use Rattle.floats.proofs.Flipped.{bit_added, bit_removed}
use Rattle.floats.proofs.arithmetic.neg.Goals as goal

pub returns-then-n-sign : goal.returns-then-n-sign
returns-then-n-sign g c =
    rw (c.of_number.ensures, ← c.number-n.ensures.same, c.sign-sign.ensures) (bit_added g.F.Word.Word.below c.number-n.result (rw c.sign-sign.ensures at c.if-n-sign.true))

pub returns-else-n-sign : goal.returns-else-n-sign
returns-else-n-sign g c =
    rw (c.of_number-else-n-sign.ensures, ← c.number-n.ensures.same, c.sign-sign.ensures) (bit_removed g.F.Word.Word.below c.number-n.result (rw c.sign-sign.ensures at c.if-n-sign.false))
