-- `table_offset` meets its contract. Assumes nothing.
use Rattle.std.proofs.Common.{refl, sym, ap, ◌∙◌, arith}
use Rattle.rules.specs.Fetch.{u32, aligned}
use Rattle.operands.proofs.Entries.{below_the_lowest, above_the_highest, past, past_sum, entry_read}
use Rattle.operands.proofs.switches.table_offset.Goals as goal

pub returns-then-not-icmple : goal.returns-then-not-icmple
returns-then-not-icmple c = let a = c.args in
    below_the_lowest a.code.now a.pc (aligned a.pc) c.low-low.result c.high-high.result a.key refl c.low-low.ensures c.high-high.ensures (omega (arith, c.low-low.type_inv)) (omega (arith, c.high-high.type_inv)) c.ranges.key.fits
    (sym c.icmple.ensures ∙ c.if-not-icmple.true) c.default.result c.default.ensures

pub returns-then-not-icmple-2 : goal.returns-then-not-icmple-2
returns-then-not-icmple-2 c = let a = c.args in
    above_the_highest a.code.now a.pc (aligned a.pc) c.low-low.result c.high-high.result a.key refl c.low-low.ensures c.high-high.ensures (omega (arith, c.low-low.type_inv)) (omega (arith, c.high-high.type_inv)) c.ranges.key.fits
    (sym c.icmple-2.ensures ∙ c.if-not-icmple-2.true) c.default-then-not-icmple-2.result c.default-then-not-icmple-2.ensures

pub returns : goal.returns
returns c = let a = c.args in
    let low = c.low-low.result in
    let i = past low a.key in
    entry_read a.code.now a.pc (aligned a.pc) low c.high-high.result a.key refl c.low-low.ensures c.high-high.ensures (omega (arith, c.low-low.type_inv)) (omega (arith, c.high-high.type_inv)) c.ranges.key.fits
    i (omega arith) (past_sum low a.key (omega (arith, c.low-low.type_inv)) c.ranges.key.fits) (sym c.icmple.ensures ∙ c.if-not-icmple.false) (sym c.icmple-2.ensures ∙ c.if-not-icmple-2.false)
    c.word.result (c.word.ensures ∙ ap (u32 a.code.now) (omega arith))
