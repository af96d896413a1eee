-- `converted` meets its contract: an infinity, or a number, which is rounded. Assumes nothing.
use Rattle.std.proofs.Common.{ℕ, ◌*◌, ◌<◌, ◌^◌, false, zero-add, sym, ap, ap₂, ◌∙◌, arith}
use lib.Ieee.{round, ones, low, to_bits}
use Rattle.conversions.proofs.RoundedBits.{to_bits_inf}
use Rattle.conversions.proofs.Fields.{nearest_inf, rounded, lead_is, place_is}
use Rattle.conversions.proofs.float_to_float.converted.Goals as goal

pub returns-then-exponent-ones : goal.returns-then-exponent-ones
returns-then-exponent-ones g c = let e = c.if-exponent-ones.true ∙ c.ones.ensures in
    c.infinity.ensures ∙ sym (ap (to_bits g.G.Format.format) (nearest_inf g.F.Format.format g.G.Format.format c.args.exponent c.args.digits false e (c.requires.2 e))
    ∙ to_bits_inf g.G.Format.format false ∙ zero-add _)

pub returns-then-exponent-eq0 : goal.returns-then-exponent-eq0
returns-then-exponent-eq0 g c =
    let l : 0 < ones g.F.Format.format = omega (arith, c.requires.0, c.ones.ensures) in
    rw (c.if-exponent-eq0.true, c.nearest.ensures, c.low.ensures) (sym (ap (to_bits g.G.Format.format) (rounded g.F.Format.format g.G.Format.format 0 c.args.digits false l)))

pub returns-else-exponent-eq0 : goal.returns-else-exponent-eq0
returns-else-exponent-eq0 g c = let f = g.F.Format.format in
    let x = c.args.exponent in
    let l : x < ones f = omega (arith, c.requires.0, c.ones.ensures, c.if-exponent-ones.false) in
    rw (c.nearest-else-exponent-eq0.ensures, c.low-else-exponent-eq0.ensures, c.hidden.ensures)
    (sym (ap (to_bits g.G.Format.format) (rounded f g.G.Format.format x c.args.digits false l
    ∙ ap₂ (λ (m p : ℕ). round g.G.Format.format false (m * 2 ^ p) (2 ^ low f)) (lead_is f x c.args.digits (omega arith)) (place_is x))))
