-- `float_of` meets its contract: 0 / 0 is the NaN, and any other word is read as it is. Assumes nothing.
use Rattle.std.proofs.Common.{◌≡◌, sym, ap, ◌∙◌}
use lib.Ieee.{of_bits}
use Rattle.floats.proofs.NaNs.{zero_number, zero_over_zero, nan_word, number_word}
use Rattle.floats.proofs.arithmetic.float_of.Goals as goal

pub from_bits-zero-requires : goal.from_bits-zero-requires
from_bits-zero-requires g c = rw c.word.ensures (zero_number g.F.Format.format)

pub from_bits-requires : goal.from_bits-requires
from_bits-requires g c =
    rw (← c.number.ensures.same) (number_word g.F.Format.format c.number.result (rw (c.sign.ensures, c.infinity.ensures) at c.if-number-sign.false))

pub returns-then-number-sign : goal.returns-then-number-sign
returns-then-number-sign g c =
    let f = g.F.Format.format in
    let zero : g.F.Arithmetic.value c.from_bits-zero.result ≡ of_bits f 0 = c.from_bits-zero.ensures ∙ ap (of_bits f) c.word.ensures in
    g.met.F.Arithmetic.ieee.divides c.from_bits-zero.result c.from_bits-zero.result c.div.result c.div.ensures
    ∙ rw (zero, ← c.number.ensures.same) (zero_over_zero f ∙ sym (nan_word f c.number.result (rw (c.sign.ensures, c.infinity.ensures) at c.if-number-sign.true)))
