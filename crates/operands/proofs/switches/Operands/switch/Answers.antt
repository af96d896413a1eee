-- `switch` meets its contract. Assumes nothing.
use Rattle.std.proofs.Common.{ℕ, ◌+◌, ◌-◌, ap, arith}
use Rattle.rules.specs.Fetch.{aligned}
use Rattle.operands.specs.declared.switches.Switch.{Switch}
use Rattle.operands.proofs.Readings.{word_of}
use Rattle.operands.proofs.switches.Operands.switch.Goals as goal

pub returns : goal.returns
returns c = let s = c.args.self in
    let whole : ℕ → Switch = λ d. record { size = aligned s.pc + c.args.size - s.pc; default = d } in
    rw c.start.ensures (ap whole (word_of s.code.now (aligned s.pc) c.default.result c.default.ensures (omega (arith, c.default.type_inv))))
