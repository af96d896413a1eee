-- `of_int` meets its contract: the sign bit, and the word nearest to the magnitude. Assumes nothing.
use Rattle.std.proofs.Common.{◌+◌, ◌-◌, ◌*◌, mul-one}
use lib.Ieee.{round}
use lib.Ieee.Fits.{round-fits}
use lib.Ieee.Bits.{to_bits-lt}
use Rattle.conversions.proofs.SignBit.{round_sign_lt}
use Rattle.conversions.proofs.Nearest.{sum_fits}
use Rattle.conversions.proofs.Integers.{magnitude, not_negative, negative}
use Rattle.conversions.proofs.int_to_float.of_int.Goals as goal

pub word-requires : goal.word-requires
word-requires g c = let f = g.F.Format.format in
    rw c.nearest.ensures (to_bits-lt f (round f _ (c.number-n.result * 1) 1) (round-fits f _ (c.number-n.result * 1) 1))

pub word-requires-else-n-negative : goal.word-requires-else-n-negative
word-requires-else-n-negative g c = rw c.sign.ensures (round_sign_lt g.F.Format.format _ 1 c.nearest-else-n-negative.ensures)

pub overflow_add-sign : goal.overflow_add-sign
overflow_add-sign g c = record { fits = sum_fits g.F.Format.format (c.sign.result + c.nearest-else-n-negative.result) (word-requires-else-n-negative g c) }

pub returns-then-n-negative : goal.returns-then-n-negative
returns-then-n-negative g c =
    rw (c.word.ensures, ← c.number-n.ensures.same)
    (not_negative g.F.Format.format g.W.Word.below c.number-n.result (rw c.sign-negative.ensures at c.if-n-negative.true) (rw mul-one at c.nearest.ensures))

pub returns-else-n-negative : goal.returns-else-n-negative
returns-else-n-negative g c =
    let h = g.W.Word.below in
    let n = c.number-n.result in
    let s = c.sign-negative.result in
    rw (c.word-else-n-negative.ensures, c.sign.ensures, ← c.number-n.ensures.same)
    (negative g.F.Format.format h n (s - (n - s)) (rw c.sign-negative.ensures at c.if-n-negative.false)
    (magnitude h n s c.sign-negative.ensures c.if-n-negative.false c.number-n.ensures.in_range) (rw mul-one at c.nearest-else-n-negative.ensures))
