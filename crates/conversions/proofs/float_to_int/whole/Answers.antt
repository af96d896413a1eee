-- `whole` meets its contract, by the field of the exponent. Assumes nothing.
use Rattle.std.proofs.Common.{◌/◌, ◌%◌, ◌<◌, ◌∙◌, refl, arith}
use Rattle.conversions.proofs.WholePart.{whole_subnormal, whole_normal, whole_inf, whole_nan}
use Rattle.conversions.proofs.float_to_int.whole.Goals as goal

pub returns-then-exponent-eq0 : goal.returns-then-exponent-eq0
returns-then-exponent-eq0 g c = whole_subnormal g.F.Format.format c.args.n (rw (c.sign.ensures, c.hidden.ensures) at c.if-exponent-eq0.true)

pub returns-then-exponent-ones : goal.returns-then-exponent-ones
returns-then-exponent-ones g c =
    let some : 0 < c.args.n % c.sign.result / c.hidden.result = omega arith in
    let scaled = rw (c.hidden-then-exponent-ones.ensures, c.hidden-2.ensures, c.sign.ensures, c.hidden.ensures, c.low.ensures) at c.scaled.ensures in
    scaled
    ∙ (whole_normal g.F.Format.format c.args.n _ (rw (c.sign.ensures, c.hidden.ensures) at some) (rw (c.sign.ensures, c.hidden.ensures, c.ones.ensures) at c.if-exponent-ones.true) refl)

pub returns-then-digits-eq0 : goal.returns-then-digits-eq0
returns-then-digits-eq0 g c =
    whole_inf g.F.Format.format c.args.n (rw (c.sign.ensures, c.hidden.ensures, c.ones.ensures) at c.if-exponent-ones.false) (rw c.hidden-2.ensures at c.if-digits-eq0.true)

pub returns-else-digits-eq0 : goal.returns-else-digits-eq0
returns-else-digits-eq0 g c =
    whole_nan g.F.Format.format c.args.n (rw (c.sign.ensures, c.hidden.ensures, c.ones.ensures) at c.if-exponent-ones.false) (rw c.hidden-2.ensures at c.if-digits-eq0.false)
