-- `rem` meets its contract. Assumes nothing.
use Rattle.std.proofs.Common.{◌≡◌, ◌+◌, ◌-◌, ◌*◌, ◌<◌, ◌≤◌, ◌%◌, ◌⊎◌, ◌∙◌, inl, inr, arith}
use lib.Ieee.{ones, hid, top, to_bits, of_bits, rem}
use Rattle.conversions.proofs.RoundedBits.{to_bits_nan}
use Rattle.conversions.proofs.Nearest.{sum_fits}
use Rattle.floats.proofs.IeeeRem.{rem_sum, rem_small, no_number, inf_divisor}
use Rattle.floats.proofs.arithmetic.rem.Given as given
use Rattle.floats.proofs.arithmetic.rem.Goals as goal

pub returns-then-x-end : goal.returns-then-x-end
returns-then-x-end g c =
    let f = g.F.Format.format in
    let n = c.number-dividend.result in
    let m = c.number.result in
    let outside : (c.infinity-end.result ≤ n % c.sign.result) ⊎ ((c.infinity-end.result < m % c.sign-2.result) ⊎ (m % c.sign-2.result ≡ 0)) =
    elim c.then-x-end.either [ inl l ↦ inl l | inr r ↦ inr (elim r [ inl p ↦ inl p.1 | inr q ↦ inr q.2 ]) ] in
    rw (← c.number-dividend.ensures.same, ← c.number.ensures.same)
    (c.nan.ensures
    ∙ to_bits_nan f
    ∙ no_number f n m (rw (c.sign.ensures, c.sign-2.ensures, c.infinity-end.ensures) at outside))

pub returns-then-y-end-2 : goal.returns-then-y-end-2
returns-then-y-end-2 g c =
    rw (← c.number-dividend.ensures.same, ← c.number.ensures.same)
    (inf_divisor g.F.Format.format c.number-dividend.result c.number.result c.number-dividend.ensures.in_range
    (rw (c.sign.ensures, c.infinity-end.ensures) at c.if-x-end.false)
    (rw (c.sign-2.ensures, c.infinity-end.ensures) at c.if-y-end-2.true))

-- the dividend's sign and the remainder's word
sum : (g : given.Over) (c : goal.After-remainder g)
    → let f = g.F.Format.format in let n = c.number-dividend.result in let w = n - n % c.sign.result + c.remainder.result in
    (w ≡ to_bits f (rem f (of_bits f n) (of_bits f c.number.result))) × (w < 2 * top f)
sum g c =
    let f = g.F.Format.format in
    let n = c.number-dividend.result in
    let m = c.number.result in
    let below : m % c.sign-2.result < c.infinity-end.result = omega arith in
    let some : 0 < m % c.sign-2.result = omega arith in
    let dividend : n % top f < ones f * hid f = rw (c.sign.ensures, c.infinity-end.ensures) at c.if-x-end.false in
    let divisor : m % top f < ones f * hid f = rw (c.sign-2.ensures, c.infinity-end.ensures) at below in
    let positive : 0 < m % top f = rw c.sign-2.ensures at some in
    let word = rw (c.sign.ensures, c.sign-2.ensures) at c.remainder.ensures in
    let fits = c.number-dividend.ensures.in_range in
    rw c.sign.ensures (rem_sum f n m c.remainder.result dividend divisor positive word fits, rem_small f n m c.remainder.result dividend divisor positive word fits)

pub overflow_add-dividend : goal.overflow_add-dividend
overflow_add-dividend g c = record { fits = sum_fits g.F.Format.format (c.number-dividend.result - c.number-dividend.result % c.sign.result + c.remainder.result) (sum g c).1 }

pub word-requires : goal.word-requires
word-requires g c = (sum g c).1

pub returns : goal.returns
returns g c = rw (← c.number-dividend.ensures.same, ← c.number.ensures.same) (c.word.ensures ∙ (sum g c.before).0)
