-- `of_float` meets its contract: the NaN, or the sign bit and what the fields are converted to. Assumes nothing.
use Rattle.std.proofs.Common.{◌+◌, ◌/◌, ◌%◌, sym, ap, ◌∙◌}
use lib.Ieee.{Float, hid, top, to_bits}
use lib.Ieee.Bits.{to_bits-lt}
use Rattle.values.specs.Floats.{nearest}
use Rattle.conversions.proofs.Nearest.{sum_fits}
use Rattle.conversions.proofs.Exact.{exact}
use Rattle.conversions.proofs.Fields.{of_plus, of_minus, nan_fields, number_fields, nearest_nan, nearest_fits, nearest_negative, nearest_negative_lt}
use Rattle.conversions.proofs.float_to_float.of_float.Goals as goal

pub returns-then-unsigned-infinity-clause-rounded : goal.returns-then-unsigned-infinity-clause-rounded
returns-then-unsigned-infinity-clause-rounded g c = let h = g.G.Format.format in
    rw (← c.number-n.ensures.same)
    (c.nan.ensures ∙ sym (ap (to_bits h) (ap (nearest h) (nan_fields g.F.Format.format c.number-n.result (rw (c.infinity.ensures, c.sign.ensures) at c.if-unsigned-infinity.true)) ∙ nearest_nan h)))

pub returns-then-unsigned-infinity-clause-exact : goal.returns-then-unsigned-infinity-clause-exact
returns-then-unsigned-infinity-clause-exact g c = λ h. returns-then-unsigned-infinity-clause-rounded g c ∙ exact g.F.Format.format g.G.Format.format h (g.F.Word.Word.number c.args.a)

pub word-requires : goal.word-requires
word-requires g c = rw c.converted-word.ensures (to_bits-lt g.G.Format.format _ (nearest_fits g.G.Format.format _))

pub word-requires-else-n-sign : goal.word-requires-else-n-sign
word-requires-else-n-sign g c = let f = g.F.Format.format in
    let n = c.number-n.result in
    let in_range = number_fields f n (rw (c.infinity.ensures, c.sign.ensures) at c.if-unsigned-infinity.false) in
    rw c.sign-else-n-sign.ensures
    (nearest_negative_lt f g.G.Format.format (n % top f / hid f) (n % hid f) in_range.0 in_range.1 (rw (c.sign.ensures, c.hidden.ensures, c.hidden-2.ensures) at c.converted-word.ensures))

pub overflow_add-sign : goal.overflow_add-sign
overflow_add-sign g c = record { fits = sum_fits g.G.Format.format (c.sign-else-n-sign.result + c.converted-word.result) (word-requires-else-n-sign g c) }

pub returns-then-n-sign-clause-rounded : goal.returns-then-n-sign-clause-rounded
returns-then-n-sign-clause-rounded g c = let f = g.F.Format.format in
    let h = g.G.Format.format in
    let n = c.number-n.result in
    rw (c.word.ensures, ← c.number-n.ensures.same, c.converted-word.ensures, c.sign.ensures, c.hidden.ensures, c.hidden-2.ensures)
    (sym (ap (λ (v : Float). to_bits h (nearest h v)) (of_plus f n (rw c.sign-2.ensures at c.if-n-sign.true))))

pub returns-then-n-sign-clause-exact : goal.returns-then-n-sign-clause-exact
returns-then-n-sign-clause-exact g c = λ h. returns-then-n-sign-clause-rounded g c ∙ exact g.F.Format.format g.G.Format.format h (g.F.Word.Word.number c.args.a)

pub returns-else-n-sign-clause-rounded : goal.returns-else-n-sign-clause-rounded
returns-else-n-sign-clause-rounded g c = let f = g.F.Format.format in
    let h = g.G.Format.format in
    let n = c.number-n.result in
    let in_range = number_fields f n (rw (c.infinity.ensures, c.sign.ensures) at c.if-unsigned-infinity.false) in
    rw (c.word-else-n-sign.ensures, c.sign-else-n-sign.ensures, ← c.number-n.ensures.same, c.converted-word.ensures, c.sign.ensures, c.hidden.ensures, c.hidden-2.ensures)
    (sym (ap (λ (v : Float). to_bits h (nearest h v)) (of_minus f n (rw c.sign-2.ensures at c.if-n-sign.false))
    ∙ nearest_negative f h (n % top f / hid f) (n % hid f) in_range.0 in_range.1))

pub returns-else-n-sign-clause-exact : goal.returns-else-n-sign-clause-exact
returns-else-n-sign-clause-exact g c = λ h. returns-else-n-sign-clause-rounded g c ∙ exact g.F.Format.format g.G.Format.format h (g.F.Word.Word.number c.args.a)
