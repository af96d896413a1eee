-- `table_switch` meets its contract. Assumes nothing.
use Rattle.std.proofs.Common.{ℕ, ◌≡◌, ◌+◌, ◌-◌, ◌*◌, Ok, sym, ap, ◌∙◌, arith, leb-true, leb-false}
use Rattle.values.specs.Integers.{low as low_word}
use Rattle.rules.specs.Fetch.{s32, aligned, table_end}
use Rattle.rules.proofs.Questions.{table_cut, table_disordered, table_missing, table_there}
use Rattle.operands.specs.Switch.{switch_of}
use Rattle.operands.proofs.Entries.{past, keys_order, keys_past}
use Rattle.operands.proofs.switches.table_switch.Goals as goal

pub returns-then-not-has : goal.returns-then-not-has
unfolding switch_of
returns-then-not-has c = let a = c.args in
    let cut = leb-false _ _ (sym c.has.ensures ∙ c.if-not-has.true) in
    λ row. sym (ap switch_of (table_cut a.code.now a.pc row cut))

pub returns-then-not-icmple : goal.returns-then-not-icmple
unfolding switch_of
returns-then-not-icmple c = let a = c.args in
    let order = keys_order a.code.now a.pc c.low-low.result c.high-high.result c.low-low.ensures c.high-high.ensures (omega (arith, c.low-low.type_inv)) (omega (arith, c.high-high.type_inv)) _ _ c.icmple.ensures c.if-not-icmple.true in
    let fields = leb-true _ _ (sym c.has.ensures ∙ c.if-not-has.false) in
    λ row. sym (ap switch_of (table_disordered a.code.now a.pc row fields order))

pub returns-then-not-has-2 : goal.returns-then-not-has-2
unfolding switch_of
returns-then-not-has-2 c = let a = c.args in
    let fields = leb-true _ _ (sym c.has.ensures ∙ c.if-not-has.false) in
    let order = keys_order a.code.now a.pc c.low-low.result c.high-high.result c.low-low.ensures c.high-high.ensures (omega (arith, c.low-low.type_inv)) (omega (arith, c.high-high.type_inv)) _ _ c.icmple.ensures c.if-not-icmple.false in
    let count = keys_past a.code.now a.pc c.low-low.result c.high-high.result c.low-low.ensures c.high-high.ensures (omega (arith, c.low-low.type_inv)) (omega (arith, c.high-high.type_inv)) _ c.icmple.ensures c.if-not-icmple.false in
    let short = leb-false _ _ (sym c.has-2.ensures ∙ c.if-not-has-2.true) in
    λ row. sym (ap switch_of (table_missing a.code.now a.pc row fields order (omega (arith, count, short))))

pub returns : goal.returns
unfolding switch_of
returns c = let a = c.args in
    let fields = leb-true _ _ (sym c.has.ensures ∙ c.if-not-has.false) in
    let order = keys_order a.code.now a.pc c.low-low.result c.high-high.result c.low-low.ensures c.high-high.ensures (omega (arith, c.low-low.type_inv)) (omega (arith, c.high-high.type_inv)) _ _ c.icmple.ensures c.if-not-icmple.false in
    let count = keys_past a.code.now a.pc c.low-low.result c.high-high.result c.low-low.ensures c.high-high.ensures (omega (arith, c.low-low.type_inv)) (omega (arith, c.high-high.type_inv)) _ c.icmple.ensures c.if-not-icmple.false in
    let whole = leb-true _ _ (sym c.has-2.ensures ∙ c.if-not-has-2.false) in
    let size : aligned a.pc + (12 + 4 * (past c.low-low.result c.high-high.result + 1)) - a.pc ≡ table_end a.code.now a.pc - a.pc = omega (arith, count) in
    λ row. ap Ok (c.switch.ensures ∙ ap (λ (n : ℕ). record { size = n; default = low_word 32 (s32 a.code.now (aligned a.pc)) }) size) ∙ sym (ap switch_of (table_there a.code.now a.pc row fields order (omega (arith, count, whole))))
